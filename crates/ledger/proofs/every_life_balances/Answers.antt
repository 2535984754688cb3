use Rattle.std.proofs.Common.{rules}
use Rattle.entry.specs.Kinds.{meaning}
use Rattle.ledger.proofs.Law.{every_life}
use Rattle.ledger.proofs.every_life_balances.Goals as goal

pub returns : goal.returns
returns g c =
    let met = g.met.E.Joining in
    record {
      law = every_life _ (meaning g.E.Joining g.E.Reversible) (record { assoc = met.assoc; comm = met.comm; unit = met.unit });
      zero = search rules;
    }
