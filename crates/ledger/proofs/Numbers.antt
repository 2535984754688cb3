-- What a lookup of a number tells, and what checks that pass tell.
use Rattle.std.proofs.Common.{◌≡◌, ℕ, zero, suc, ◌+◌, ◌<◌, Bool, true, false, eqb, ◌≢◌, List, [], ◌∷◌, length, get_or, is_some, Some, None, Option, sym, refl, ap, ◌∙◌, inl, inr, arith}
use Rattle.std.proofs.lemmas.Bool.{cases_Bool, cond-true, cond-false, eq-eqb, eqb-true, both_ways}
use Rattle.scale.specs.Refusals.{Refusal, unless, first_of}
use Rattle.book.specs.declared.contract.Contract.{Contract}
use Rattle.book.specs.Lookup.{place_from}
use Rattle.book.specs.Terms.{blank}

pub some≢none : {A : Type 0} (a : A) → Some a ≡ None → ⊥
some≢none a e = both_ways true (ap is_some e) refl

-- where nothing is refused, no check refuses
pub first_none : (check : Option Refusal) (checks : List (Option Refusal)) → first_of (check ∷ checks) ≡ None → (check ≡ None) × (first_of checks ≡ None)
first_none None checks e = (refl, e)
first_none (Some r) checks e = absurd (some≢none r e)

pub unless_none : (b : Bool) (n s : ℕ) → unless b n s ≡ None → b ≡ true
unless_none true n s e = refl
unless_none false n s e = absurd (some≢none _ e)

-- a number that is nowhere
pub place_none : (place number : ℕ) (cs : List Contract) → place_from place number cs ≡ None →
    (i : ℕ) → i < length cs → (get_or cs i blank).terms.number ≢ number
place_none place number [] e i p same = absurd (let bad : ⊥ = omega arith in bad)
place_none place number (c ∷ cs) e zero p same = some≢none place (sym (cond-true _ _ _ (eq-eqb c.terms.number number same)) ∙ e)
place_none place number (c ∷ cs) e (suc i) p same = elim (cases_Bool (eqb c.terms.number number)) [
  | inl y ↦ some≢none place (sym (cond-true _ _ _ y) ∙ e)
  | inr n ↦ place_none (place + 1) number cs (sym (cond-false _ _ _ n) ∙ e) i (omega arith) same
]

some_same : (a b : ℕ) → Some a ≡ Some b → a ≡ b
some_same a b e = cc

-- a number that is found
pub place_some : (place number : ℕ) (cs : List Contract) (index : ℕ) → place_from place number cs ≡ Some (place + index) →
    (index < length cs) × ((get_or cs index blank).terms.number ≡ number)
place_some place number [] index e = absurd (some≢none (place + index) (sym e))
place_some place number (c ∷ cs) zero e = elim (cases_Bool (eqb c.terms.number number)) [
  | inl y ↦ (omega arith, eqb-true c.terms.number number y)
  | inr n ↦ absurd (later (place + 1) cs (place + 0) (sym (cond-false _ _ _ n) ∙ e) (omega arith))
]
  where
    later : (from : ℕ) (ds : List Contract) (q : ℕ) → place_from from number ds ≡ Some q → q < from → ⊥
    later from [] q f p = some≢none q (sym f)
    later from (d ∷ ds) q f p = elim (cases_Bool (eqb d.terms.number number)) [
      | inl y ↦ let same : from ≡ q = some_same from q (sym (cond-true _ _ _ y) ∙ f) in let bad : ⊥ = omega arith in bad
      | inr n ↦ later (from + 1) ds q (sym (cond-false _ _ _ n) ∙ f) (omega arith)
    ]
place_some place number (c ∷ cs) (suc index) e = elim (cases_Bool (eqb c.terms.number number)) [
  | inl y ↦ let same : place ≡ place + suc index = some_same place (place + suc index) (sym (cond-true _ _ _ y) ∙ e) in absurd (let bad : ⊥ = omega arith in bad)
  | inr n ↦
      let rest = place_some (place + 1) number cs index (sym (cond-false _ _ _ n) ∙ e ∙ ap Some (let z : place + suc index ≡ place + 1 + index = omega arith in z)) in
      (let lt : index < length cs = rest.0 in omega arith, rest.1)
]
