-- The row fits its place, the book is ready for the board, and the next state is that of a confirmation.
use Rattle.std.proofs.Common.{ℕ, ◌+◌, ◌*◌, ◌≤◌, List, length, take, set, sym, refl, ap, ◌∙◌, subst}
use Rattle.std.proofs.lemmas.List.{length-map}
use Rattle.scale.specs.Totals.{limit}
use Rattle.entry.specs.Kinds.{meaning, values}
use Rattle.book.specs.Supply.{supply_check}
use Rattle.ledger.specs.States.{agent_shortfall}
use Rattle.settle.specs.Settled.{Ready}
use Rattle.month.specs.Months.{state_of}
use Rattle.month.specs.Settling.{Settled}
use Rattle.month.proofs.Enforcing.{amount_low, entered, moderate_enforced, ready_enforced, row_room, rows_written, same_terms}
use Rattle.month.proofs.Finishing.{room}
use Rattle.month.proofs.Laws.{lawful}
use Rattle.month.proofs.phase.confirming.Month+Open.enforce.Goals as goal

pub write_row-requires : goal.write_row-requires
write_row-requires g c =
    let a = c.args in
    let m = a.self.now in
    let s = state_of g.E.Joining m a.places.now a.rows.now a.shortfalls.now a.board.now in
    let ws = g.S.Scale.weights a.scale.now in
    let i = c.in_ok-index.index in
    let x = c.in_ok-index.contract in
    let chosen = c.in_ok-index.ensures.chosen in
    let supplied = c.in_ok-index.ensures.supplied in
    let hours_are = c.from.ensures ∙ c.hours.ensures in
    let same = same_terms s a.number i x ws chosen supplied m.within in
    record {
      room = subst (λ (h : ℕ). i * h + h ≤ length a.rows.now) (sym hours_are) (row_room s a.number i x ws chosen supplied m.within);
      supply = ap (λ (h : ℕ). supply_check h x.terms ws) hours_are ∙ ap (λ t. supply_check m.sizes.hours t ws) same ∙ supplied.supply;
      amount = subst (λ t. t.amount ≤ limit) (sym same) (amount_low s a.number i x ws chosen supplied m.within);
    }

pub resettle-requires : goal.resettle-requires
resettle-requires g c =
    let a = c.args in
    let m = a.self.now in
    let j = g.E.Joining in
    let s = state_of j m a.places.now a.rows.now a.shortfalls.now a.board.now in
    let ws = g.S.Scale.weights a.scale.now in
    let i = c.in_ok-index.index in
    let x = c.in_ok-index.contract in
    let chosen = c.in_ok-index.ensures.chosen in
    let supplied = c.in_ok-index.ensures.supplied in
    let hours_are = c.from.ensures ∙ c.hours.ensures in
    let wrote = rows_written s a.number i x ws chosen supplied m.within c.from.result c.write_row.new.rows hours_are c.write_row.ensures in
    record {
      room = room s chosen.admitted m.within;
      inside = chosen.inside;
      ready = subst (λ (rs : List ℕ). Ready m.sizes (take m.taken a.places.now) (set (take m.taken a.places.now) i x) rs (length a.board.now)) (sym wrote)
          (ready_enforced s a.number i x ws chosen supplied m.within (length a.board.now) (sym (length-map a.board.now j.value) ∙ chosen.admitted.board));
      moderate = moderate_enforced s a.number i x ws chosen supplied m.within;
    }

pub returns : goal.returns
returns g c =
    let a = c.args in
    let m = a.self.now in
    let j = g.E.Joining in
    let k = meaning j g.E.Reversible in
    let s = state_of j m a.places.now a.rows.now a.shortfalls.now a.board.now in
    let ws = g.S.Scale.weights a.scale.now in
    let i = c.in_ok-index.index in
    let x = c.in_ok-index.contract in
    let chosen = c.in_ok-index.ensures.chosen in
    let supplied = c.in_ok-index.ensures.supplied in
    let hours_are = c.from.ensures ∙ c.hours.ensures in
    let wrote = rows_written s a.number i x ws chosen supplied m.within c.from.result c.write_row.new.rows hours_are c.write_row.ensures in
    record {
      answered = c.in_ok-index.ensures.refused;
      leaves = entered s a.number i x ws chosen supplied m.within k
          (lawful g.met.E.Joining.assoc g.met.E.Joining.comm g.met.E.Joining.unit) _ refl refl wrote refl
          (subst (λ (rs : List ℕ). Settled k m.sizes m.taken x.terms.seller (agent_shortfall s x.terms.seller) (set (take m.taken a.places.now) i x) rs
          a.places.now c.resettle.new.places (values j a.board.now) (values j c.resettle.new.board)) wrote c.resettle.ensures);
    }
