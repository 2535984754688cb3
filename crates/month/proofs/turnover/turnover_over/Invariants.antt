use Rattle.std.proofs.Common.{◌≡◌, map, take}
use Rattle.month.proofs.Turnovers.{part}
use Rattle.month.proofs.turnover.turnover_over.Given as goal

abbrev pub invariant-loop-contract : goal.invariant-loop-contract
invariant-loop-contract l = l.parts.items ≡ map (part l.agent) (take l.contract-index l.taken)
