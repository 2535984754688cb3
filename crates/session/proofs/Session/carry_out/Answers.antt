use Rattle.std.proofs.Common.{sym, subst}
use Rattle.scale.specs.Refusals.{refusal_of}
use Rattle.lines.specs.declared.command.Command.{Command}
use Rattle.session.specs.Seen.{seen}
use Rattle.session.specs.Steps.{Stepped}
use Rattle.session.specs.Turns.{ack}
use Rattle.session.proofs.Stepping.{step_open, on_net, on_by_source}
use Rattle.session.proofs.Session.carry_out.Goals as goal

pub returns-in-Open : goal.returns-in-Open
returns-in-Open c =
    let a = c.in-Open in
    let s = seen c.args.self.now in
    let t = seen c.open.new.self in
    let answer = refusal_of c.open.result in
    record {
      does = record {
        line = ack answer;
        fronted = c.put_ack.ensures.put;
        holds = subst (λ (x : Command). Stepped x s (ack answer) t) (sym a.is) (step_open a.kind a.agents a.hours a.places s t answer c.open.ensures);
      };
      within = c.put_ack.ensures.within;
    }

pub returns-in-Net : goal.returns-in-Net
returns-in-Net c = record {
  does = on_net c.args.command c.in_default.not-Open c.args.self.now.desk c.args.page.now c.answer.new.page c.answer.result c.in-Net.desk c.answer.new.self c.in-Net.is c.answer.ensures.does;
  within = c.answer.ensures.within;
}

pub returns-in-BySource : goal.returns-in-BySource
returns-in-BySource c =
    let r = c.answer-in-BySource in
    record {
      does = on_by_source c.args.command c.in_default.not-Open c.args.self.now.desk c.args.page.now r.new.page r.result c.in-BySource.desk r.new.self c.in-BySource.is r.ensures.does;
      within = r.ensures.within;
    }
