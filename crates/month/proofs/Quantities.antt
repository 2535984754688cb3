-- The quantity of a contract in force, from what was chosen.
use Rattle.std.proofs.Common.{◌≡◌, ℕ, ◌+◌, ◌-◌, ◌*◌, ◌<◌, ◌≤◌, true, List, length, take, drop, IfOk, Some, None, sum, Option, Result, sym, ap, ◌∙◌, arith}
use Rattle.std.proofs.lemmas.Result.{IfOk-weaker}
use Rattle.scale.specs.declared.fault.Fault.{Fault}
use Rattle.scale.specs.Shares.{down_to, part_check, shares_of}
use Rattle.scale.specs.Totals.{limit}
use Rattle.scale.specs.Weights.{weight_at}
use Rattle.scale.proofs.Totals.{check_fine, part_fine}
use Rattle.book.specs.declared.contract.Contract.{Contract}
use Rattle.book.specs.Lookup.{place_of}
use Rattle.book.specs.States.{in_force}
use Rattle.book.specs.Terms.{blank}
use Rattle.ledger.specs.Calls.{rounding}
use Rattle.ledger.specs.Past.{ledger, line_at, quantities_in}
use Rattle.ledger.specs.States.{State, contracts, contract_at, row_at}
use Rattle.ledger.specs.Turnovers.{OfEveryLife}
use Rattle.ledger.proofs.Told.{quantity_told}
use Rattle.month.specs.Questions.{quantity_at}
use Rattle.month.specs.Settling.{Chosen}
use Rattle.month.proofs.Finishing.{long}

same_place : (a b : ℕ) → ◌≡◌ {A = Option ℕ} (Some a) (Some b) → a ≡ b
same_place a b e = cc

module _ {V : Type 0} (s : State V) (number index : ℕ) (contract : Contract) (chosen : Chosen s number (λ c. c) index contract)
    (force : in_force contract ≡ true) (within : s.taken ≤ s.sizes.places) where
  inside : index < length (contracts s)
  inside = omega (arith, chosen.inside, long s chosen.admitted within)

  abbrev here : Contract
  here = contract_at s index

  -- the row as the code lends it
  pub row_lent : (h : ℕ) → h ≡ s.sizes.hours → take (index * h + h - index * h) (drop (index * h) s.rows) ≡ row_at s index
  row_lent h e =
      ap (λ (n : ℕ). take n (drop (index * h) s.rows)) (let z : index * h + h - index * h ≡ h = omega arith in z)
      ∙ ap (λ (n : ℕ). take n (drop (index * n) s.rows)) e

  -- its sharing is not refused
  pub fine : (row : List ℕ) → row ≡ row_at s index → part_check contract.effective row ≡ None
  fine row e =
      let place = chosen.admitted.sound.place index blank inside in
      let total : sum row ≡ here.terms.amount = ap sum e ∙ place.row (ap in_force (sym chosen.is) ∙ force) in
      let amount = place.terms.amount in
      let most : contract.effective ≤ limit = omega (arith, ap (λ (c : Contract). c.effective) chosen.is, place.effective, amount.1) in
      sym (part_fine contract.effective row most (sym (check_fine row (omega (arith, total, amount.0)) (omega (arith, total, amount.1)))))

  -- what the code answers, in the book's words
  answered : (q : ℕ) (row : List ℕ) (hour : ℕ) → row ≡ row_at s index → q ≡ weight_at (shares_of down_to contract.effective row) hour
      → q ≡ weight_at (shares_of rounding (contract_at s index).effective (row_at s index)) hour
  answered q row hour e is =
      is ∙ ap (λ (xs : List ℕ). weight_at (shares_of down_to contract.effective xs) hour) e
      ∙ ap (λ (c : Contract). weight_at (shares_of rounding c.effective (row_at s index)) hour) chosen.is

  -- and in the ledger's
  pub quantity_lives : (r : Result ℕ Fault) (row : List ℕ) (hour : ℕ) → row ≡ row_at s index
      → IfOk r (λ q. q ≡ weight_at (shares_of down_to contract.effective row) hour)
      → IfOk r (λ q. OfEveryLife s (λ past. (i : ℕ) → i < length (ledger past).lines → (line_at (ledger past) i).fields.number ≡ number → q ≡ weight_at (quantities_in (ledger past) i) hour))
  quantity_lives r row hour e = IfOk-weaker r _ _ (λ q is k laws past life i p n.
      answered q row hour e is
      ∙ quantity_told s number index hour chosen.found (ap in_force (sym chosen.is) ∙ force) k laws past life i p n)

  pub quantity_is : (r : Result ℕ Fault) (row : List ℕ) (hour : ℕ) → row ≡ row_at s index
      → IfOk r (λ q. q ≡ weight_at (shares_of down_to contract.effective row) hour)
      → IfOk r (λ q. (place : ℕ) → place_of number (contracts s) ≡ Some place → q ≡ quantity_at s place hour)
  quantity_is r row hour e = IfOk-weaker r _ _ (λ q is place found.
      let p : place ≡ index + 1 = same_place place (index + 1) (sym found ∙ chosen.found) in
      let i : index ≡ place - 1 = omega (arith, p) in
      answered q row hour e is
      ∙ ap (λ (n : ℕ). weight_at (shares_of rounding (contract_at s n).effective (row_at s n)) hour) i)
