use Rattle.std.proofs.Common.{length}
use Rattle.entry.specs.Kinds.{meaning, values}
use Rattle.settle.specs.Settled.{booked}
use Rattle.settle.proofs.Settling.{Followed}
use Rattle.settle.proofs.revise.Given as goal

abbrev pub invariant-loop-before : goal.invariant-loop-before
invariant-loop-before g l = Followed (meaning g.E.Joining g.E.Reversible)
    (booked l.sizes l.old l.rows (values g.E.Joining l.initial.board))
    (booked l.sizes l.new l.rows (values g.E.Joining l.board)) (length l.yielded)
