-- The contract is in force in a sound book, so its quantity is not refused.
use Rattle.std.proofs.Common.{ℕ, ◌+◌, ◌*◌, ◌≤◌, length, sym, ◌∙◌, subst, rules}
use Rattle.month.specs.Months.{lent}
use Rattle.month.proofs.Finishing.{row_fits}
use Rattle.month.proofs.Quantities.{fine, quantity_is, quantity_lives, row_lent}
use Rattle.month.proofs.phase.Month.quantity.Goals as goal

pub slice_bounds-quantity-end : goal.slice_bounds-quantity-end
slice_bounds-quantity-end g c =
    let a = c.args in
    let m = a.self.now in
    let s = lent g.E.Joining m a.memories in
    let i = c.in_ok-index.index in
    let chosen = c.in_ok-index.ensures.chosen in
    let fits : i * c.from-hours.result + c.from-hours.result ≤ length a.memories.rows.now
    = subst (λ (h : ℕ). i * h + h ≤ length a.memories.rows.now) (sym (c.from-hours.ensures ∙ c.hours.ensures)) (row_fits s chosen.admitted m.within i chosen.inside) in
    search rules

pub returns : goal.returns
returns g c =
    let a = c.args in
    let m = a.self.now in
    let s = lent g.E.Joining m a.memories in
    let i = c.in_ok-index.index in
    let x = c.in_ok-index.contract in
    let chosen = c.in_ok-index.ensures.chosen in
    let force = c.in_ok-index.ensures.standing in
    let row = row_lent s a.number i x chosen force m.within c.from-hours.result (c.from-hours.ensures ∙ c.hours.ensures) in
    let value = rw c.from.ensures at c.quantity.ensures.value in
    record {
      answer = c.quantity.ensures.answer ∙ fine s a.number i x chosen force m.within _ row ∙ c.in_ok-index.ensures.refused;
      quantity = quantity_is s a.number i x chosen force m.within c.quantity.result _ a.hour row value;
      lived = quantity_lives s a.number i x chosen force m.within c.quantity.result _ a.hour row value;
    }
