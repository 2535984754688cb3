-- What the laws give of joins over the numbers below a bound. Assumes nothing.
use Rattle.std.proofs.Common.{◌≡◌, ℕ, zero, suc, ◌+◌, ◌<◌, ◌≤◌, cond, eqb, sym, refl, ap, ◌∙◌, inl, inr, add-one, arith}
use Rattle.std.proofs.lemmas.Bool.{cases_eq, eq-eqb, ne_eqb, cond-true, cond-false}
use Rattle.entry.specs.Kinds.{Joins, Laws, up_to}

pub up_more : {V : Type 0} (k : Joins V) (n : ℕ) (f : ℕ → V) → up_to k (n + 1) f ≡ k.join (up_to k n f) (f n)
up_more k n f = ap (λ m. up_to k m f) (add-one n)

module _ {V : Type 0} (k : Joins V) (laws : Laws k) where
  pub unit_left : (x : V) → k.join k.nothing x ≡ x
  unit_left x = laws.comm k.nothing x ∙ laws.unit x

  pub exchange : (a b c d : V) → k.join (k.join a b) (k.join c d) ≡ k.join (k.join a c) (k.join b d)
  exchange a b c d =
      laws.assoc a b (k.join c d)
      ∙ ap (k.join a) (sym (laws.assoc b c d) ∙ ap (λ x. k.join x d) (laws.comm b c) ∙ laws.assoc c b d)
      ∙ sym (laws.assoc a c (k.join b d))

  pub up_same : (n : ℕ) (f f' : ℕ → V) → ((i : ℕ) → i < n → f i ≡ f' i) → up_to k n f ≡ up_to k n f'
  up_same zero f f' e = refl
  up_same (suc n) f f' e = ap (λ x. k.join x (f n)) (up_same n f f' (λ i p. e i (omega arith))) ∙ ap (k.join (up_to k n f')) (e n (omega arith))

  pub up_none : (n : ℕ) (f : ℕ → V) → ((i : ℕ) → i < n → f i ≡ k.nothing) → up_to k n f ≡ k.nothing
  up_none zero f e = refl
  up_none (suc n) f e = ap (λ x. k.join x (f n)) (up_none n f (λ i p. e i (omega arith))) ∙ ap (k.join k.nothing) (e n (omega arith)) ∙ laws.unit k.nothing

  pub up_join : (n : ℕ) (f f' : ℕ → V) → up_to k n (λ i. k.join (f i) (f' i)) ≡ k.join (up_to k n f) (up_to k n f')
  up_join zero f f' = sym (laws.unit k.nothing)
  up_join (suc n) f f' = ap (λ x. k.join x (k.join (f n) (f' n))) (up_join n f f') ∙ exchange (up_to k n f) (up_to k n f') (f n) (f' n)

  pub up_swap : (n m : ℕ) (f : ℕ → ℕ → V) → up_to k n (λ i. up_to k m (λ a. f i a)) ≡ up_to k m (λ a. up_to k n (λ i. f i a))
  up_swap zero m f = sym (up_none m (λ a. k.nothing) (λ a p. refl))
  up_swap (suc n) m f = ap (λ x. k.join x (up_to k m (λ a. f n a))) (up_swap n m f) ∙ sym (up_join m (λ a. up_to k n (λ i. f i a)) (λ a. f n a))

  pub up_only : (n x : ℕ) (v : V) → x < n → up_to k n (λ i. cond (eqb i x) v k.nothing) ≡ v
  up_only zero x v p = absurd (omega arith)
  up_only (suc n) x v p = elim (cases_eq n x) [
    | inl e ↦ ap (λ y. k.join y (cond (eqb n x) v k.nothing)) (up_none n (λ i. cond (eqb i x) v k.nothing) (λ i q. cond-false (eqb i x) v k.nothing (ne_eqb i x (λ e'. let bad : ⊥ = omega arith in bad))))
        ∙ ap (k.join k.nothing) (cond-true (eqb n x) v k.nothing (eq-eqb n x e)) ∙ unit_left v
    | inr ne ↦ ap (λ y. k.join y (cond (eqb n x) v k.nothing)) (up_only n x v (omega arith))
        ∙ ap (k.join v) (cond-false (eqb n x) v k.nothing (ne_eqb n x ne)) ∙ laws.unit v
  ]

  -- places past the last put nothing
  pub up_longer : (m n : ℕ) (f : ℕ → V) → n ≤ m → ((i : ℕ) → n ≤ i → f i ≡ k.nothing) → up_to k m f ≡ up_to k n f
  up_longer zero n f le e = ap (λ x. up_to k x f) (let z : zero ≡ n = omega arith in z)
  up_longer (suc m) n f le e = elim (cases_eq (suc m) n) [
    | inl q ↦ ap (λ x. up_to k x f) q
    | inr ne ↦ ap (k.join (up_to k m f)) (e m (omega arith)) ∙ laws.unit (up_to k m f) ∙ up_longer m n f (omega arith) e
  ]
