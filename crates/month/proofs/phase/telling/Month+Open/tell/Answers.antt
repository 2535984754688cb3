-- A telling leads every life on, since that is a step of a life.
use Rattle.entry.specs.Kinds.{meaning}
use Rattle.ledger.proofs.Law.{leads_telling}
use Rattle.month.proofs.Laws.{lawful}
use Rattle.month.proofs.phase.telling.Month+Open.tell.Goals as goal

pub returns : goal.returns
returns g c = record {
  step = c.note.ensures;
  life = leads_telling (meaning g.E.Joining g.E.Reversible) (lawful g.met.E.Joining.assoc g.met.E.Joining.comm g.met.E.Joining.unit) _ _ _ c.args.agent c.args.kwh c.note.ensures;
}
