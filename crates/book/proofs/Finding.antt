-- The place where a search for a number ends.
use Rattle.std.proofs.Common.{◌≡◌, ℕ, zero, suc, ◌+◌, ◌-◌, ◌<◌, ◌≢◌, List, [], ◌∷◌, length, get_or, Some, None, Option, MatchOption, sym, refl, ap, ◌∙◌, arith}
use Rattle.std.proofs.lemmas.Bool.{cond-true, cond-false, eq-eqb, ne_eqb}
use Rattle.book.specs.Lookup.{Absent, FirstPlace, place_from, place_of}
use Rattle.book.specs.Terms.{blank}
use Rattle.book.specs.declared.contract.Contract.{Contract}

none_from : (place number : ℕ) (taken : List Contract) → Absent number taken → place_from place number taken ≡ None
none_from place number [] none = refl
none_from place number (c ∷ cs) none =
    cond-false _ _ _ (ne_eqb _ _ (none 0 blank (omega arith)))
    ∙ none_from (place + 1) number cs (λ k d lt. none (suc k) d (omega arith))

some_from : (place number : ℕ) (taken : List Contract) (i : ℕ) → i < length taken
    → ((d : Contract) → (get_or taken i d).terms.number ≡ number)
    → ((k : ℕ) (d : Contract) → k < i → k < length taken → (get_or taken k d).terms.number ≢ number)
    → place_from place number taken ≡ Some (place + i)
some_from place number [] i lt stands first = absurd (omega arith)
some_from place number (c ∷ cs) zero lt stands first = cond-true _ _ _ (eq-eqb _ _ (stands blank)) ∙ ap (λ (n : ℕ). Some n) (omega arith)
some_from place number (c ∷ cs) (suc i) lt stands first =
    cond-false _ _ _ (ne_eqb _ _ (first 0 blank (omega arith) (omega arith)))
    ∙ some_from (place + 1) number cs i (omega arith) stands (λ k d below inside. first (suc k) d (omega arith) (omega arith))
    ∙ ap (λ (n : ℕ). Some n) (omega arith)

-- what is told of the first place tells the place
pub place_told : (number : ℕ) (taken : List Contract) (r : Option ℕ) → MatchOption r (Absent number taken) (FirstPlace number taken)
    → r ≡ place_of number taken
place_told number taken None none = sym (none_from 1 number taken none)
place_told number taken (Some place) f =
    ap (λ (n : ℕ). Some n) (omega (arith, f.low))
    ∙ sym (some_from 1 number taken (place - 1) (omega (arith, f.low, f.high)) f.stands (λ k d below inside. f.first k d (omega (arith, f.low)) inside))
