-- An offer leads every life on, since that is a step of a life.
use Rattle.entry.specs.Kinds.{meaning}
use Rattle.ledger.proofs.Law.{leads_offering}
use Rattle.month.proofs.Laws.{lawful}
use Rattle.month.proofs.phase.offering.Month+Open.offer.Goals as goal

pub returns : goal.returns
returns g c = record {
  step = c.take_place.ensures;
  life = leads_offering (meaning g.E.Joining g.E.Reversible) (lawful g.met.E.Joining.assoc g.met.E.Joining.comm g.met.E.Joining.unit) _ _ _ c.args.offer c.take_place.ensures;
}
