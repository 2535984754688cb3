-- A confirmation leads every life on, since that is a step of a life.
use Rattle.entry.specs.Kinds.{meaning}
use Rattle.ledger.proofs.Law.{leads_confirming}
use Rattle.month.proofs.Laws.{lawful}
use Rattle.month.proofs.phase.confirming.Month+Open.confirm.Goals as goal

pub returns : goal.returns
returns g c = record {
  step = c.enforce.ensures;
  life = leads_confirming (meaning g.E.Joining g.E.Reversible) (lawful g.met.E.Joining.assoc g.met.E.Joining.comm g.met.E.Joining.unit) _ _ _
      c.args.number c.args.agent (g.S.Scale.weights c.args.scale.now) c.enforce.ensures;
}
