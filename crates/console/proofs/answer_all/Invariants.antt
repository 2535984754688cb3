use Rattle.session.specs.Lives.{LivesThrough}
use Rattle.session.specs.Seen.{seen}
use Rattle.console.proofs.answer_all.Given as goal

-- so far every life of the session has gone on
abbrev pub invariant-loop : goal.invariant-loop
invariant-loop g l = LivesThrough (seen l.initial.session) (seen l.session)
