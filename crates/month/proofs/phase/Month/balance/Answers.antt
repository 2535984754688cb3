-- The entries of all agents cancel, since every life balances.
use Rattle.entry.specs.Kinds.{meaning}
use Rattle.month.proofs.Laws.{lawful}
use Rattle.month.proofs.Living.{balance_lived}
use Rattle.month.proofs.phase.Month.balance.Goals as goal

pub returns : goal.returns
returns g c =
    let j = g.E.Joining in
    let a = c.args in
    record {
      answer = c.joined_at.ensures.answer;
      joined = c.joined_at.ensures.joined;
      lived = balance_lived (meaning j g.E.Reversible) (lawful g.met.E.Joining.assoc g.met.E.Joining.comm g.met.E.Joining.unit)
          j.value a.self.now.sizes a.board.now a.submarket a.hour c.joined_at.result c.joined_at.ensures.answer c.joined_at.ensures.joined;
    }
