use Rattle.board.proofs.Joins.{Below}
use Rattle.board.proofs.join_each.Given as goal

abbrev pub invariant-loop-hour : goal.invariant-loop-hour
invariant-loop-hour g l = Below g.E.Joining (goal.F-post g l.make) l.quantities l.initial.lane l.hour l.lane
