use Rattle.std.proofs.Common.{sym, refl, ◌∙◌}
use Rattle.std.proofs.lemmas.List.{length-map}
use Rattle.entry.specs.Kinds.{meaning}
use Rattle.month.specs.Months.{state_of}
use Rattle.month.proofs.Finishing.{room, ready_ended, moderate_ended, finished}
use Rattle.month.proofs.Laws.{lawful}
use Rattle.month.proofs.phase.ending.Month+Open.finish.Goals as goal

pub resettle-requires : goal.resettle-requires
resettle-requires g c =
    let a = c.args in
    let m = a.self.now in
    let j = g.E.Joining in
    let s = state_of j m a.places.now a.rows.now a.shortfalls.now a.board.now in
    let chosen = c.in_ok-index.ensures.chosen in
    record {
      room = room s chosen.admitted m.within;
      inside = chosen.inside;
      ready = ready_ended s a.number c.in_ok-index.index c.in_ok-index.ended chosen m.within _ (sym (length-map a.board.now j.value) ∙ chosen.admitted.board);
      moderate = moderate_ended s a.number c.in_ok-index.index c.in_ok-index.ended chosen m.within _;
    }

pub returns : goal.returns
returns g c =
    let a = c.args in
    let m = a.self.now in
    let j = g.E.Joining in
    let k = meaning j g.E.Reversible in
    let s = state_of j m a.places.now a.rows.now a.shortfalls.now a.board.now in
    let chosen = c.in_ok-index.ensures.chosen in
    record {
      answered = c.in_ok-index.ensures.refused;
      leaves = finished s a.number c.in_ok-index.index c.in_ok-index.ended chosen m.within k
          (lawful g.met.E.Joining.assoc g.met.E.Joining.comm g.met.E.Joining.unit) _ refl refl refl refl c.resettle.ensures;
    }
