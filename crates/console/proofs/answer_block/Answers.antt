-- A byte that ends a line leads every life on by that line's call or none; any other leaves the session as it was.
use Rattle.std.proofs.Common.{sym, subst}
use Rattle.session.specs.declared.Session.{Session}
use Rattle.session.specs.Lives.{LivesThrough}
use Rattle.session.specs.Seen.{seen}
use Rattle.session.proofs.Lasting.{rest, more}
use Rattle.console.proofs.answer_block.Goals.{then-b-eq10+in_ok-answer_line, else-b-eq10}
use Rattle.console.proofs.answer_block.Goals as goal

pub loop-b-init : goal.loop-b-init
loop-b-init g c = rest (seen c.args.session.now)

pub returns-in_err-answer_line : goal.returns-in_err-answer_line
returns-in_err-answer_line g c =
    more (seen c.args.session.now) (seen c.loop-b.session) (seen c.answer_line.new.session) c.loop-b.invariant c.answer_line.ensures

pub loop-b-preserved : goal.loop-b-preserved
loop-b-preserved g c =
    let s = seen c.args.session.now in
    elim c.if-b-eq10.branch [
      | then-b-eq10+in_ok-answer_line w ↦ subst (λ (x : Session). LivesThrough s (seen x)) (sym w.session-is)
          (more s (seen c.loop-b.session) (seen w.answer_line.new.session) c.loop-b.invariant w.answer_line.ensures)
      | else-b-eq10 w ↦ subst (λ (x : Session). LivesThrough s (seen x)) (sym w.session-is) c.loop-b.invariant
    ]
