use Rattle.std.proofs.Common.{◌≡◌, ◌-◌, ◌≤◌, take, sum}
use Rattle.scale.specs.Totals.{limit}
use Rattle.scale.proofs.total.total.Given as goal

abbrev pub invariant-loop-part : goal.invariant-loop-part
invariant-loop-part g l = (l.so_far ≡ sum (take (l.part - 1) (g.S.Scale.weights l.scale))) × (l.so_far ≤ limit)
