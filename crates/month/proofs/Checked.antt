-- Checks that passed, one after another.
use Rattle.std.proofs.Common.{◌≡◌, ℕ, ◌*◌, ◌≤◌, leb, List, [], ◌∷◌, Some, None, Option, sym, ◌∙◌, refl, arith}
use Rattle.std.proofs.lemmas.Bool.{eqb-true, leb-true, and_parts}
use Rattle.scale.specs.Refusals.{Refusal, unless, first_of}
use Rattle.book.specs.Limits.{between}
use Rattle.ledger.specs.Checks.{length_check}
use Rattle.ledger.proofs.Numbers.{first_none as passed, unless_none as held}

refused : {X : Type 0} {r : Refusal} → ◌≡◌ {A = Option Refusal} (Some r) None → X
refused e = absurd (let z : ◌≡◌ {A = ℕ} 0 1 = cc in omega arith)

-- the first of several checks passed, so the others decide
pub first_none : (x : Option Refusal) (xs : List (Option Refusal)) → x ≡ None → first_of (x ∷ xs) ≡ first_of xs
first_none None xs e = refl
first_none (Some r) xs e = refused e

pub first_some : (x : Option Refusal) (xs : List (Option Refusal)) (r : Refusal) → x ≡ Some r → first_of (x ∷ xs) ≡ Some r
first_some None xs r e = refused (sym e)
first_some (Some q) xs r e = e

pub both_pass : (x y : Option Refusal) → None ≡ x → None ≡ y → None ≡ first_of (x ∷ y ∷ [])
both_pass x y p q = sym (first_none x (y ∷ []) (sym p) ∙ first_none y [] (sym q))

-- memories that passed are as long as the sizes say
pub record Long (agents hours size p r f b : ℕ) : Type 0 where
  pub places : p ≡ size
  pub rows : r ≡ size * hours
  pub shortfalls : f ≡ agents
  pub board : b ≡ agents * 4 * hours

pub long : (agents hours size places rows shortfalls board : ℕ) → None ≡ length_check agents hours size places rows shortfalls board
    → Long agents hours size places rows shortfalls board
long agents hours size places rows shortfalls board e =
    let p = passed _ _ (sym e) in
    let q = passed _ _ p.1 in
    let r = passed _ _ q.1 in
    let s = passed _ _ r.1 in
    record {
      places = eqb-true _ _ (held _ 1 1 p.0);
      rows = eqb-true _ _ (held _ 1 2 q.0);
      shortfalls = eqb-true _ _ (held _ 1 3 r.0);
      board = eqb-true _ _ (held _ 1 4 s.0);
    }

-- a number that passed lies within its limits
pub within : (low high x n s : ℕ) → None ≡ unless (between low high x) n s → (low ≤ x) × (x ≤ high)
within low high x n s e =
    let p = and_parts (leb low x) (leb x high) (held _ n s (sym e)) in
    (leb-true low x p.0, leb-true x high p.1)
