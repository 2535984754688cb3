-- An ending leads every life on, since that is a step of a life.
use Rattle.entry.specs.Kinds.{meaning}
use Rattle.ledger.proofs.Law.{leads_ending}
use Rattle.month.proofs.Laws.{lawful}
use Rattle.month.proofs.phase.ending.Month+Open.end.Goals as goal

pub returns : goal.returns
returns g c = record {
  step = c.finish.ensures;
  life = leads_ending (meaning g.E.Joining g.E.Reversible) (lawful g.met.E.Joining.assoc g.met.E.Joining.comm g.met.E.Joining.unit) _ _ _ c.args.number c.args.agent c.finish.ensures;
}
