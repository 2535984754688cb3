-- The entry on the board is the ledger's position, since every life balances.
use Rattle.entry.specs.Kinds.{meaning}
use Rattle.month.proofs.Laws.{lawful}
use Rattle.month.proofs.Living.{position_lived}
use Rattle.month.proofs.phase.Month.position.Goals as goal

pub returns : goal.returns
returns g c =
    let j = g.E.Joining in
    let a = c.args in
    record {
      answer = c.entry_at.ensures.answer;
      entry = c.entry_at.ensures.entry;
      lived = position_lived (meaning j g.E.Reversible) j.value a.self.now.sizes a.board.now a.agent a.submarket a.hour
          (lawful g.met.E.Joining.assoc g.met.E.Joining.comm g.met.E.Joining.unit) c.entry_at.result c.entry_at.ensures.answer c.entry_at.ensures.entry;
    }
