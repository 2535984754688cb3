-- Admitted, an agent of the month, a moderate shortfall: then it is noted and the seller resettled.
use Rattle.std.proofs.Common.{sym, refl, ◌∙◌, rules}
use Rattle.std.proofs.lemmas.List.{length-map}
use Rattle.entry.specs.Kinds.{meaning}
use Rattle.month.specs.Months.{state_of}
use Rattle.month.proofs.Finishing.{room, ready_told, moderate_told, noted}
use Rattle.month.proofs.Laws.{lawful}
use Rattle.month.proofs.phase.telling.Month+Open.note.Goals as goal

pub resettle-requires : goal.resettle-requires
resettle-requires g c =
    let a = c.args in
    let m = a.self.now in
    let j = g.E.Joining in
    let s = state_of j m a.places.now a.rows.now a.shortfalls.now a.board.now in
    let adm = c.in_ok-admit.ensures.sound in
    record {
      room = room s adm m.within;
      inside = tt;
      ready = ready_told s adm m.within _ (sym (length-map a.board.now j.value) ∙ adm.board);
      moderate = moderate_told s adm m.within a.agent;
    }

pub returns : goal.returns
returns g c =
    let a = c.args in
    let m = a.self.now in
    let j = g.E.Joining in
    let k = meaning j g.E.Reversible in
    let s = state_of j m a.places.now a.rows.now a.shortfalls.now a.board.now in
    let adm = c.in_ok-admit.ensures in
    record {
      answered = search rules;
      leaves = noted s _ adm.sound m.within a.agent a.kwh k
          (lawful g.met.E.Joining.assoc g.met.E.Joining.comm g.met.E.Joining.unit) refl refl refl (search rules) c.resettle.ensures;
    }
