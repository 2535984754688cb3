-- What the cut rule reads, and what a recut leaves at each place.
use Rattle.std.proofs.Common.{◌≡◌, ℕ, zero, suc, ◌+◌, ◌-◌, ◌<◌, Bool, true, false, cond, eqb, ◌≢◌, ◌⊎◌, List, [], ◌∷◌, ◌++◌, map, length, get_or, sum, sym, refl, ap, ◌∙◌, subst, inl, inr, arith}
use mathlib.Core.Path.{fun_ext}
use Rattle.std.proofs.lemmas.List.{map_push, get_or_append_left, length-map, get_or-map, ext_get_or}
use Rattle.std.proofs.lemmas.List.Sums.{sum_by_push}
use Rattle.std.proofs.lemmas.Bool.{ne_eqb, cond-false, and_left, and_right}
use Rattle.scale.specs.Shares.{Rule, shared_by, shares_of}
use Rattle.book.specs.declared.contract.Contract.{Contract}
use Rattle.book.specs.Cuts.{Claim, no_claim, claim_of, weight, class_weights, class_cut, effective_at, map_from, recut, stands_for, with_effective}
use Rattle.book.specs.Terms.{blank}

-- more weights at the end change no share before them
pub shared_longer : (run : ℕ → ℕ) (before : ℕ) (ws vs : List ℕ) (i : ℕ) → i < length ws →
    get_or (shared_by run before (ws ++ vs)) i 0 ≡ get_or (shared_by run before ws) i 0
shared_longer run before [] vs i p = absurd (omega arith)
shared_longer run before (w ∷ ws) vs zero p = refl
shared_longer run before (w ∷ ws) vs (suc i) p = shared_longer run (before + w) ws vs i (omega arith)

-- what the cut leaves of a claim, where `weights` has those of its seller in each class
abbrev left : Rule → ℕ → ℕ → Claim → (ℕ → List ℕ) → ℕ
left rule short i c weights =
    c.amount - get_or (shares_of rule (class_cut short (λ class. sum (weights class)) c.class) (weights c.class)) i 0

module _ (rule : Rule) (short : ℕ) where
  -- the rule reads a claim, and the weights of its seller
  pub effective_same : (cs ds : List Claim) (i : ℕ) → get_or cs i no_claim ≡ get_or ds i no_claim →
      ((class : ℕ) → class_weights (get_or ds i no_claim).seller class cs ≡ class_weights (get_or ds i no_claim).seller class ds) →
      effective_at rule short cs i ≡ effective_at rule short ds i
  effective_same cs ds i same weights =
      ap (λ (c : Claim). left rule short i c (λ class. class_weights c.seller class cs)) same
      ∙ ap (λ (ws : ℕ → List ℕ). left rule short i (get_or ds i no_claim) ws) (fun_ext weights)

  -- a claim more that does not stand changes nothing
  pub effective_longer : (cs : List Claim) (c : Claim) (i : ℕ) → c.standing ≡ false → i < length cs →
      effective_at rule short (cs ++ (c ∷ [])) i ≡ effective_at rule short cs i
  effective_longer cs c i idle p =
      let d = get_or cs i no_claim in
      let ws : ℕ → List ℕ = λ class. class_weights d.seller class cs in
      let longer : (class : ℕ) → class_weights d.seller class (cs ++ (c ∷ [])) ≡ ws class ++ (0 ∷ []) =
      λ class. map_push (weight d.seller class) cs c
      ∙ ap (λ (w : ℕ). ws class ++ (w ∷ [])) (cond-false _ c.amount 0 (and_left c.standing _ idle)) in
      let total : (class : ℕ) → sum (ws class ++ (0 ∷ [])) ≡ sum (ws class) = λ class. sum_by_push (λ x. x) (ws class) 0 ∙ (let z : sum (ws class) + 0 ≡ sum (ws class) = omega arith in z) in
      let inside : i < length (ws d.class) = subst (λ (n : ℕ). i < n) (sym (length-map cs (weight d.seller d.class))) p in
      ap (λ (e : Claim). left rule short i e (λ class. class_weights e.seller class (cs ++ (c ∷ [])))) (get_or_append_left cs (c ∷ []) no_claim i p)
      ∙ ap (λ (vs : ℕ → List ℕ). left rule short i d vs) (fun_ext longer)
      ∙ ap (λ (t : ℕ → ℕ). d.amount - get_or (shares_of rule (class_cut short t d.class) (ws d.class ++ (0 ∷ []))) i 0) (fun_ext total)
      ∙ ap (λ (W : ℕ). d.amount - get_or (shared_by (rule (class_cut short (λ class. sum (ws class)) d.class) W) 0 (ws d.class ++ (0 ∷ []))) i 0) (total d.class)
      ∙ ap (λ (x : ℕ). d.amount - x) (shared_longer (rule (class_cut short (λ class. sum (ws class)) d.class) (sum (ws d.class))) 0 (ws d.class) (0 ∷ []) i inside)

-- two lists of claims that agree wherever a claim is of the seller have the same weights for it
pub weights_same : (seller class : ℕ) (cs ds : List Claim) → length cs ≡ length ds →
    ((i : ℕ) → i < length cs → (get_or cs i no_claim ≡ get_or ds i no_claim) ⊎ (((get_or cs i no_claim).seller ≢ seller) × ((get_or ds i no_claim).seller ≢ seller))) →
    class_weights seller class cs ≡ class_weights seller class ds
weights_same seller class cs ds long same =
    ext_get_or 0 _ _ (length-map cs (weight seller class) ∙ long ∙ sym (length-map ds (weight seller class))) (λ i p.
    let inside : i < length cs = subst (λ (n : ℕ). i < n) (length-map cs (weight seller class)) p in
    get_or-map (weight seller class) cs i no_claim 0 inside
    ∙ elim (same i inside) [
      | inl e ↦ ap (weight seller class) e
      | inr ne ↦ none (get_or cs i no_claim) ne.0 ∙ sym (none (get_or ds i no_claim) ne.1)
    ]
    ∙ sym (get_or-map (weight seller class) ds i no_claim 0 (subst (λ (n : ℕ). i < n) long inside)))
  where
    none : (c : Claim) → c.seller ≢ seller → weight seller class c ≡ 0
    none c ne = cond-false _ c.amount 0 (and_right c.standing _ (and_left (eqb c.seller seller) _ (ne_eqb c.seller seller ne)))

module _ {X Y : Type 0} (f : ℕ → X → Y) where
  length_map_from : (j : ℕ) (xs : List X) → length (map_from f j xs) ≡ length xs
  length_map_from j [] = refl
  length_map_from j (x ∷ xs) = ap suc (length_map_from (suc j) xs)

  get_or_map_from : (j : ℕ) (xs : List X) (i : ℕ) (d : X) (e : Y) → i < length xs → get_or (map_from f j xs) i e ≡ f (j + i) (get_or xs i d)
  get_or_map_from j [] i d e p = absurd (omega arith)
  get_or_map_from j (x ∷ xs) zero d e p = ap (λ (n : ℕ). f n x) (let z : j ≡ j + 0 = omega arith in z)
  get_or_map_from j (x ∷ xs) (suc i) d e p =
      get_or_map_from (suc j) xs i d e (omega arith) ∙ ap (λ (n : ℕ). f n (get_or xs i d)) (let z : suc j + i ≡ j + suc i = omega arith in z)

-- what a recut leaves at a place
abbrev pub recut_at : Rule → ℕ → ℕ → List Contract → ℕ → Contract → Contract
recut_at rule seller short cs i c = cond (stands_for seller c) (with_effective (effective_at rule short (map claim_of cs) i) c) c

module _ (rule : Rule) (seller short : ℕ) (cs : List Contract) where
  pub length_recut : length (recut rule seller short cs) ≡ length cs
  length_recut = length_map_from (recut_at rule seller short cs) 0 cs

  pub get_or_recut : (i : ℕ) → i < length cs → get_or (recut rule seller short cs) i blank ≡ recut_at rule seller short cs i (get_or cs i blank)
  get_or_recut i p = get_or_map_from (recut_at rule seller short cs) 0 cs i blank blank p
      ∙ ap (λ (n : ℕ). recut_at rule seller short cs n (get_or cs i blank)) (let z : 0 + i ≡ i = omega arith in z)

  -- it changes neither terms nor states
  pub recut_terms : (i : ℕ) (c : Contract) → (recut_at rule seller short cs i c).terms ≡ c.terms
  recut_terms i c = kept (stands_for seller c)
    where
      kept : (b : Bool) → (cond b (with_effective (effective_at rule short (map claim_of cs) i) c) c).terms ≡ c.terms
      kept true = refl
      kept false = refl

  pub recut_state : (i : ℕ) (c : Contract) → (recut_at rule seller short cs i c).state ≡ c.state
  recut_state i c = kept (stands_for seller c)
    where
      kept : (b : Bool) → (cond b (with_effective (effective_at rule short (map claim_of cs) i) c) c).state ≡ c.state
      kept true = refl
      kept false = refl
