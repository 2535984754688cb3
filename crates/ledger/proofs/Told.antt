-- What questions on the book answer is what the ledger tells, in every life.
use Rattle.std.proofs.Common.{◌≡◌, ℕ, ◌+◌, ◌<◌, Bool, true, cond, ◌&&◌, eqb, List, length, Some, sum_by, sym, ap, ◌∙◌, subst, inl, inr, arith}
use Rattle.std.proofs.lemmas.List.{length-take-le}
use Rattle.std.proofs.lemmas.Bool.{cases_Bool}
use Rattle.scale.specs.Shares.{shares_of}
use Rattle.scale.specs.Weights.{weight_at}
use Rattle.entry.specs.Kinds.{Kind}
use Rattle.book.specs.declared.contract.Contract.{Contract}
use Rattle.book.specs.declared.contract.Offer.{Offer}
use Rattle.book.specs.Lookup.{place_of}
use Rattle.book.specs.States.{in_force, is_in_force}
use Rattle.book.specs.Terms.{fields, blank}
use Rattle.ledger.specs.States.{State, contracts, contract_at, row_at}
use Rattle.ledger.specs.Calls.{rounding}
use Rattle.ledger.specs.Past.{Ledger, ledger, line_at, stands, effective_in, quantities_in}
use Rattle.ledger.specs.Balance.{sum_to}
use Rattle.ledger.specs.Turnovers.{amounts_of, OfEveryLife}
use Rattle.ledger.proofs.Kept.{Kept}
use Rattle.ledger.proofs.Law.{kept_in_life}
use Rattle.ledger.proofs.Numbers.{place_some}
use Rattle.ledger.proofs.Sums.{sum_to_same, sum_to_list}

module _ {V : Type 0} (k : Kind V) (b : Ledger) (s : State V) (kept : Kept k b s) where
  standing : (i : ℕ) → i < s.taken → in_force (contract_at s i) ≡ stands (line_at b i)
  standing i p = ap is_in_force (kept.state i p)

  -- what one contract adds to the turnover of whoever has this part in it
  abbrev added : (Offer → ℕ) → ℕ → Contract → ℕ
  added part agent c = cond (in_force c && eqb (part (fields c.terms)) agent) c.effective 0

  added_same : (part : Offer → ℕ) (agent i : ℕ) → i < s.taken →
      added part agent (contract_at s i) ≡ cond (stands (line_at b i) && eqb (part (line_at b i).fields) agent) (effective_in b i) 0
  added_same part agent i p = elim (cases_Bool (stands (line_at b i))) [
    | inl y ↦ ap (λ (x : Bool). cond (x && eqb (part (fields (contract_at s i).terms)) agent) (contract_at s i).effective 0) (standing i p)
        ∙ ap (λ (o : Offer). cond (stands (line_at b i) && eqb (part o) agent) (contract_at s i).effective 0) (kept.same i p)
        ∙ ap (λ (e : ℕ). cond (stands (line_at b i) && eqb (part (line_at b i).fields) agent) e 0) (kept.effective i p y)
    | inr idle ↦ ap (λ (x : Bool). cond (x && eqb (part (fields (contract_at s i).terms)) agent) (contract_at s i).effective 0) (standing i p ∙ idle)
        ∙ sym (ap (λ (x : Bool). cond (x && eqb (part (line_at b i).fields) agent) (effective_in b i) 0) idle)
  ]

  amounts_same : (part : Offer → ℕ) (agent : ℕ) → sum_by (added part agent) (contracts s) ≡ amounts_of part b agent
  amounts_same part agent =
      sym (sum_to_list (added part agent) (contracts s) blank s.taken (sym (length-take-le s.taken s.places kept.room)))
      ∙ sum_to_same s.taken (λ i. added part agent (contract_at s i)) (λ i. cond (stands (line_at b i) && eqb (part (line_at b i).fields) agent) (effective_in b i) 0) (added_same part agent)
      ∙ ap (λ (n : ℕ). sum_to n (λ i. cond (stands (line_at b i) && eqb (part (line_at b i).fields) agent) (effective_in b i) 0)) (sym kept.count)

  -- a number names one contract, of the book as of the ledger
  same_index : (number index i : ℕ) → place_of number (contracts s) ≡ Some (index + 1) → i < length b.lines → (line_at b i).fields.number ≡ number → index ≡ i
  same_index number index i found p is =
      let at = place_some 1 number (contracts s) index (found ∙ ap Some (let z : index + 1 ≡ 1 + index = omega arith in z)) in
      let here : index < s.taken = subst (λ (n : ℕ). index < n) (length-take-le s.taken s.places kept.room) at.0 in
      let there : i < s.taken = subst (λ (n : ℕ). i < n) kept.count p in
      kept.apart index i here there (sym (ap (λ (o : Offer). o.number) (kept.same index here)) ∙ at.1 ∙ sym is)

  quantity_same : (number index i hour : ℕ) → place_of number (contracts s) ≡ Some (index + 1) → in_force (contract_at s index) ≡ true →
      i < length b.lines → (line_at b i).fields.number ≡ number →
      weight_at (shares_of rounding (contract_at s index).effective (row_at s index)) hour ≡ weight_at (quantities_in b i) hour
  quantity_same number index i hour found force p is =
      let e = same_index number index i found p is in
      let q : i < s.taken = subst (λ (n : ℕ). i < n) kept.count p in
      let y : stands (line_at b i) ≡ true = sym (standing i q) ∙ ap (λ (n : ℕ). in_force (contract_at s n)) (sym e) ∙ force in
      ap (λ (n : ℕ). weight_at (shares_of rounding (contract_at s n).effective (row_at s n)) hour) e
      ∙ ap (λ (x : ℕ). weight_at (shares_of rounding x (row_at s i)) hour) (kept.effective i q y)
      ∙ ap (λ (row : List ℕ). weight_at (shares_of rounding (effective_in b i) row) hour) (kept.rows i q y)

module _ {V : Type 0} (s : State V) where
  pub turnover_told : (part : Offer → ℕ) (agent : ℕ) →
      OfEveryLife s (λ past. sum_by (λ (c : Contract). cond (in_force c && eqb (part (fields c.terms)) agent) c.effective 0) (contracts s) ≡ amounts_of part (ledger past) agent)
  turnover_told part agent k laws past lived = amounts_same k (ledger past) s (kept_in_life k laws lived) part agent

  pub quantity_told : (number index hour : ℕ) → place_of number (contracts s) ≡ Some (index + 1) → in_force (contract_at s index) ≡ true →
      OfEveryLife s (λ past. (i : ℕ) → i < length (ledger past).lines → (line_at (ledger past) i).fields.number ≡ number →
      weight_at (shares_of rounding (contract_at s index).effective (row_at s index)) hour ≡ weight_at (quantities_in (ledger past) i) hour)
  quantity_told number index hour found force k laws past lived i p is =
      quantity_same k (ledger past) s (kept_in_life k laws lived) number index i hour found force p is
