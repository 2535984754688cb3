use Rattle.std.proofs.Common.{Some, None, refl}
use Rattle.session.specs.Seen.{seen}
use Rattle.session.specs.Turns.{ack, unfit}
use Rattle.session.proofs.Living.{rests, steps}
use Rattle.session.proofs.Session.answer.Goals as goal

pub returns-in-Some : goal.returns-in-Some
returns-in-Some c =
    let r = c.carry_out.ensures.does in
    record {
      answered = λ text held. record {
        command = Some c.in-Some.command;
        reads = c.in-Some.ensures.reads text held;
        exact = c.in-Some.ensures.exact text held;
        line = r.line;
        does = r.holds;
        fronted = r.fronted;
      };
      life = steps c.in-Some.command (seen c.args.self.now) (seen c.carry_out.new.self) r.line r.holds;
      within = c.carry_out.ensures.within;
    }

pub returns-in-None : goal.returns-in-None
returns-in-None c = record {
  answered = λ text held. record {
    command = None;
    reads = c.in-None.ensures.reads text held;
    exact = c.in-None.ensures.exact text held;
    line = ack (Some unfit);
    does = (refl, refl);
    fronted = c.put_ack.ensures.put;
  };
  life = rests (seen c.args.self.now) (seen c.args.self.now) refl;
  within = c.put_ack.ensures.within;
}
