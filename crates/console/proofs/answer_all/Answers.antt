-- Block after block, and then the last line, lead every life on.
use Rattle.std.proofs.Common.{sym, subst}
use Rattle.session.specs.declared.Session.{Session}
use Rattle.session.specs.Lives.{LivesThrough}
use Rattle.session.specs.Seen.{seen}
use Rattle.session.proofs.Lasting.{rest, more, both}
use Rattle.console.proofs.answer_all.Goals.{else-loop-test, then-loop-test+in_ok-step+then-not-branch, then-is_started+in_ok-answer_line, else-is_started}
use Rattle.console.proofs.answer_all.Goals as goal

pub loop-init : goal.loop-init
loop-init g c = rest (seen c.args.session.now)

pub returns-in_err-step : goal.returns-in_err-step
returns-in_err-step g c =
    both (seen c.args.session.now) (seen c.loop.session) (seen c.step.new.session) c.loop.invariant c.step.ensures

pub loop-preserved : goal.loop-preserved
loop-preserved g c =
    both (seen c.args.session.now) (seen c.loop.session) (seen c.step.new.session) c.loop.invariant c.step.ensures

pub returns-in_err-answer_line : goal.returns-in_err-answer_line
returns-in_err-answer_line g c =
    let s = seen c.args.session.now in
    let read : LivesThrough s (seen c.loop-test.session) = elim c.loop-test.branch [
      | else-loop-test w ↦ subst (λ (x : Session). LivesThrough s (seen x)) (sym w.session-is) c.loop.invariant
      | then-loop-test+in_ok-step+then-not-branch w ↦ subst (λ (x : Session). LivesThrough s (seen x)) (sym w.session-is)
          (both s (seen c.loop.session) (seen w.step.new.session) c.loop.invariant w.step.ensures)
    ] in
    more s (seen c.loop-test.session) (seen c.answer_line.new.session) read c.answer_line.ensures

pub returns : goal.returns
returns g c =
    let s = seen c.args.session.now in
    let read : LivesThrough s (seen c.loop-test.session) = elim c.loop-test.branch [
      | else-loop-test w ↦ subst (λ (x : Session). LivesThrough s (seen x)) (sym w.session-is) c.loop.invariant
      | then-loop-test+in_ok-step+then-not-branch w ↦ subst (λ (x : Session). LivesThrough s (seen x)) (sym w.session-is)
          (both s (seen c.loop.session) (seen w.step.new.session) c.loop.invariant w.step.ensures)
    ] in
    elim c.if-is_started.branch [
      | then-is_started+in_ok-answer_line w ↦ subst (λ (x : Session). LivesThrough s (seen x)) (sym w.session-is)
          (more s (seen c.loop-test.session) (seen w.answer_line.new.session) read w.answer_line.ensures)
      | else-is_started w ↦ subst (λ (x : Session). LivesThrough s (seen x)) (sym w.session-is) read
    ]
