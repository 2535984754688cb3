-- What a cut takes off contracts: no more than is there, and all that is due.
use Rattle.std.proofs.Common.{◌≡◌, ℕ, zero, suc, ◌+◌, ◌-◌, ◌<◌, ◌≤◌, min, Bool, true, false, cond, ◌&&◌, eqb, leb, List, [], ◌∷◌, map, length, get_or, take, sum_by, sum, refl, ap, ◌∙◌, subst, inl, inr, add-zero, mul-le-mul_right, add-mul, mul-add, add-one, arith}
use Rattle.std.proofs.lemmas.List.{length-map, get_or-map, take_all}
use Rattle.std.proofs.lemmas.List.Sums.{sum_by-cons, sum_by_more}
use Rattle.std.proofs.lemmas.Bool.{cases_lt, cases_eq, cond_both, cond-true, cond-false, and_right, ne_eqb, le-leb, lt-leb}
use Rattle.scale.specs.Shares.{Rule, Sound, Running, shared_by, shares_of}
use Rattle.scale.proofs.Running.{below_next, length_shared, of_total}
use Rattle.book.specs.Cuts.{Claim, claim_of, no_claim, weight, class_weights, class_sum, remaining, class_cut, cut_shares, effective_at}
use Rattle.book.specs.Limits.{most_total}
use Rattle.book.specs.Sound.{sold_by, seller_total, SoundBook}
use Rattle.book.specs.States.{in_force}
use Rattle.book.specs.Terms.{blank, class_number}
use Rattle.book.specs.declared.contract.Class.{Class}
use Rattle.book.specs.declared.contract.Class.TheVariants.{Free, Retail, Regulated, Plant}
use Rattle.book.specs.declared.contract.Contract.{Contract}
use Rattle.book.specs.declared.sizes.Sizes.{Sizes}

-- over lists alone

pub get_or_map_at : {X Y : Type 0} (f : X → Y) (xs : List X) (i : ℕ) (d : X) → get_or (map f xs) i (f d) ≡ f (get_or xs i d)
get_or_map_at f [] i d = refl
get_or_map_at f (x ∷ xs) zero d = refl
get_or_map_at f (x ∷ xs) (suc i) d = get_or_map_at f xs i d

pub part_in_sum : (ws : List ℕ) (i : ℕ) → get_or ws i 0 ≤ sum ws
part_in_sum [] i = omega arith
part_in_sum (w ∷ ws) zero = omega (arith, sum_by-cons (λ x. x) w ws)
part_in_sum (w ∷ ws) (suc i) = omega (arith, sum_by-cons (λ x. x) w ws, part_in_sum ws i)

-- shares

-- a part of weight 0 gets nothing, by any rule
pub no_weight : (run : ℕ → ℕ) (before : ℕ) (ws : List ℕ) (i : ℕ) → get_or ws i 0 ≡ 0 → get_or (shared_by run before ws) i 0 ≡ 0
no_weight run before [] i e = refl
no_weight run before (w ∷ ws) zero e =
    let same : run (before + w) ≡ run before = ap run (omega arith) in omega arith
no_weight run before (w ∷ ws) (suc i) e = no_weight run (before + w) ws i e

pub no_weights : (run : ℕ → ℕ) (before : ℕ) (ws : List ℕ) → sum ws ≡ 0 → sum (shared_by run before ws) ≡ 0
no_weights run before [] e = refl
no_weights run before (w ∷ ws) e =
    let split = sum_by-cons (λ x. x) w ws in
    let rest : sum (shared_by run (before + w) ws) ≡ 0 = no_weights run (before + w) ws (omega arith) in
    let same : run (before + w) ≡ run before = ap run (omega arith) in
    omega (arith, sum_by-cons (λ x. x) (run (before + w) - run before) (shared_by run (before + w) ws))

module _ (q W : ℕ) (run : ℕ → ℕ) (rule : Running q W run) (le : q ≤ W) where
  pub run_step : (a d : ℕ) → run (a + d) ≤ run a + d
  run_step a d =
      below_next (run (a + d)) (run a + d) W
      (omega (arith, rule.low (a + d), rule.high a, mul-add q a d, add-mul (run a) d W, mul-le-mul_right d le))

  pub shared_most : (before : ℕ) (ws : List ℕ) (i : ℕ) → get_or (shared_by run before ws) i 0 ≤ get_or ws i 0
  shared_most before [] i = omega arith
  shared_most before (w ∷ ws) zero = omega (arith, run_step before w)
  shared_most before (w ∷ ws) (suc i) = shared_most (before + w) ws i

-- no more than the weights is shared over them
module _ (rule : Rule) (sound : Sound rule) (q : ℕ) (ws : List ℕ) (le : q ≤ sum ws) where
  pub share_most : (i : ℕ) → get_or (shares_of rule q ws) i 0 ≤ get_or ws i 0
  share_most i =
      elim (cases_lt 0 (sum ws)) [
        | inl some ↦ shared_most q (sum ws) (rule q (sum ws)) (sound q (sum ws) some) le 0 ws i
        | inr none ↦ omega (arith, no_weight (rule q (sum ws)) 0 ws i (omega (arith, part_in_sum ws i)))
      ]

  pub share_total : sum (shares_of rule q ws) ≡ q
  share_total =
      elim (cases_lt 0 (sum ws)) [
        | inl some ↦ of_total rule sound q ws some
        | inr none ↦ omega (arith, no_weights (rule q (sum ws)) 0 ws (omega arith))
      ]

-- what remains, and the cuts of the classes

pub remaining_falls : (short : ℕ) (total : ℕ → ℕ) (k more : ℕ) → remaining short total (k + more) ≤ remaining short total k
remaining_falls short total k zero = rw add-zero (omega arith)
remaining_falls short total k (suc more) =
    let next : k + suc more ≡ suc (k + more) = omega arith in
    let step : remaining short total (k + suc more) ≡ remaining short total (suc (k + more)) = ap (remaining short total) next in
    omega (arith, remaining_falls short total k more)

-- a class's cut is the lesser of what remains and its total, if the class can be cut
pub class_cut_lem : (short : ℕ) (total : ℕ → ℕ) (class : ℕ) → class ≤ 3 → class_cut short total class ≡ min (remaining short total (class - 1)) (total class)
class_cut_lem short total class le = cond-true _ _ _ (le-leb class 3 le)

pub class_whole : (short : ℕ) (total : ℕ → ℕ) (class : ℕ) → 3 < class → class_cut short total class ≡ 0
class_whole short total class more = cond-false _ _ _ (lt-leb class 3 more)

pub class_cut_most : (short : ℕ) (total : ℕ → ℕ) (class : ℕ) → class_cut short total class ≤ total class
class_cut_most short total class = cond_both (leb class 3) _ _ (λ (x : ℕ). x ≤ total class) (λ _. omega arith) (λ _. omega arith)

pub class_cut_short : (short : ℕ) (total : ℕ → ℕ) (class : ℕ) → class_cut short total class ≤ short
class_cut_short short total class =
    let falls : remaining short total (0 + (class - 1)) ≤ short = remaining_falls short total 0 (class - 1) in
    let same : remaining short total (0 + (class - 1)) ≡ remaining short total (class - 1) = ap (remaining short total) (omega arith) in
    cond_both (leb class 3) _ _ (λ (x : ℕ). x ≤ short) (λ _. omega arith) (λ _. omega arith)

-- a class is cut only where every class before it is cut whole
pub class_in_turn : (short : ℕ) (total : ℕ → ℕ) (class earlier : ℕ) → 1 ≤ earlier → earlier < class → 0 < class_cut short total class
    → class_cut short total earlier ≡ total earlier
class_in_turn short total class zero first before cut = omega arith
class_in_turn short total class (suc k) first before cut =
    elim (cases_lt 3 class) [
      | inl more ↦ omega (arith, class_whole short total class more)
      | inr le ↦
          let falls = remaining_falls short total (suc k) (class - 1 - suc k) in
          let same : remaining short total (suc k + (class - 1 - suc k)) ≡ remaining short total (class - 1) = ap (remaining short total) (omega arith) in
          let own : remaining short total (suc k - 1) ≡ remaining short total k = ap (remaining short total) (omega arith) in
          omega (arith, class_cut_lem short total class le, class_cut_lem short total (suc k) (omega arith))
    ]

-- the cuts together: the lesser of the shortfall and the totals of the classes that can be cut
pub cuts_together : (short : ℕ) (total : ℕ → ℕ)
    → class_cut short total 1 + class_cut short total 2 + class_cut short total 3 + class_cut short total 4 ≡ min short (total 1 + total 2 + total 3)
cuts_together short total = omega arith

-- what a claim weighs

pub all_or_none : (test : Bool) (a : ℕ) → cond test a 0 ≤ a
all_or_none true a = omega arith
all_or_none false a = omega arith

pub weight_most : (seller class : ℕ) (c : Claim) → weight seller class c ≤ c.amount
weight_most seller class c = all_or_none (c.standing && (eqb c.seller seller && eqb c.class class)) c.amount

pub weight_at_lem : (seller class : ℕ) (cs : List Claim) (i : ℕ) → get_or (class_weights seller class cs) i 0 ≡ weight seller class (get_or cs i no_claim)
weight_at_lem seller class cs i = get_or_map_at (weight seller class) cs i no_claim

-- the shares of a class's cut
module _ (rule : Rule) (short seller : ℕ) (cs : List Claim) (class : ℕ) where
  pub cut_length : length (cut_shares rule short seller cs class) ≡ length cs
  cut_length =
      length_shared (rule (class_cut short (class_sum seller cs) class) (class_sum seller cs class)) 0 (class_weights seller class cs)
      ∙ length-map cs (weight seller class)

  -- a claim that weighs nothing in the class is not cut
  pub cut_none : (i : ℕ) → weight seller class (get_or cs i no_claim) ≡ 0 → get_or (cut_shares rule short seller cs class) i 0 ≡ 0
  cut_none i none =
      no_weight (rule (class_cut short (class_sum seller cs) class) (class_sum seller cs class)) 0 (class_weights seller class cs) i
      (weight_at_lem seller class cs i ∙ none)

  module _ (sound : Sound rule) where
    pub cut_weight : (i : ℕ) → get_or (cut_shares rule short seller cs class) i 0 ≤ weight seller class (get_or cs i no_claim)
    cut_weight i =
        omega (arith, weight_at_lem seller class cs i, share_most rule sound (class_cut short (class_sum seller cs) class) (class_weights seller class cs) (class_cut_most short (class_sum seller cs) class) i)

    pub cut_amount : (i : ℕ) → get_or (cut_shares rule short seller cs class) i 0 ≤ (get_or cs i no_claim).amount
    cut_amount i = omega (arith, cut_weight i, weight_most seller class (get_or cs i no_claim))

    pub cut_total : sum (cut_shares rule short seller cs class) ≡ class_cut short (class_sum seller cs) class
    cut_total = share_total rule sound (class_cut short (class_sum seller cs) class) (class_weights seller class cs) (class_cut_most short (class_sum seller cs) class)

pub effective_most : (rule : Rule) (short : ℕ) (cs : List Claim) (i : ℕ) → effective_at rule short cs i ≤ (get_or cs i no_claim).amount
effective_most rule short cs i = omega arith

-- nothing is lost: what is left and what is cut make up the amount
pub effective_and_cut : (rule : Rule) → Sound rule → (short : ℕ) (cs : List Claim) (i : ℕ)
    → effective_at rule short cs i + get_or (cut_shares rule short (get_or cs i no_claim).seller cs (get_or cs i no_claim).class) i 0 ≡ (get_or cs i no_claim).amount
effective_and_cut rule sound short cs i =
    omega (arith, cut_amount rule short (get_or cs i no_claim).seller cs (get_or cs i no_claim).class sound i)

-- a seller's totals

-- an amount counts in exactly one of four classes
pub in_one_class : (stands own : Bool) (class a : ℕ) → (stands ≡ true → (1 ≤ class) × (class ≤ 4)) →
    cond (stands && (own && eqb class 1)) a 0 + cond (stands && (own && eqb class 2)) a 0
    + cond (stands && (own && eqb class 3)) a 0 + cond (stands && (own && eqb class 4)) a 0
    ≡ cond (stands && own) a 0
in_one_class false own class a h = refl
in_one_class true false class a h = refl
in_one_class true true zero a h = omega (arith, h refl)
in_one_class true true (suc zero) a h = omega arith
in_one_class true true (suc (suc zero)) a h = omega arith
in_one_class true true (suc (suc (suc zero))) a h = omega arith
in_one_class true true (suc (suc (suc (suc zero)))) a h = omega arith
in_one_class true true (suc (suc (suc (suc (suc n))))) a h = omega (arith, h refl)

pub class_known : (k : Class) → (1 ≤ class_number k) × (class_number k ≤ 4)
class_known Free = (omega arith, omega arith)
class_known Retail = (omega arith, omega arith)
class_known Regulated = (omega arith, omega arith)
class_known Plant = (omega arith, omega arith)

pub class_totals : (seller : ℕ) (cs : List Contract) →
    class_sum seller (map claim_of cs) 1 + class_sum seller (map claim_of cs) 2 + class_sum seller (map claim_of cs) 3 + class_sum seller (map claim_of cs) 4
    ≡ seller_total seller cs
class_totals seller [] = refl
class_totals seller (c ∷ cs) =
    let more : (class : ℕ) → class_sum seller (map claim_of (c ∷ cs)) class ≡ weight seller class (claim_of c) + class_sum seller (map claim_of cs) class =
    λ class. sum_by-cons (λ x. x) (weight seller class (claim_of c)) (class_weights seller class (map claim_of cs)) in
    let one = in_one_class (in_force c) (eqb c.terms.seller seller) (class_number c.terms.class) c.terms.amount (λ _. class_known c.terms.class) in
    omega (arith, more 1, more 2, more 3, more 4, class_totals seller cs, sum_by-cons (sold_by seller) c cs)

pub further_test : (stands own further : Bool) (a : ℕ) → cond (stands && (own && further)) a 0 ≤ cond (stands && own) a 0
further_test false own further a = omega arith
further_test true false further a = omega arith
further_test true true further a = all_or_none further a

pub sold_weight : (seller class : ℕ) (c : Contract) → weight seller class (claim_of c) ≤ sold_by seller c
sold_weight seller class c = further_test (in_force c) (eqb c.terms.seller seller) (eqb (class_number c.terms.class) class) c.terms.amount

pub class_total_most : (seller class : ℕ) (cs : List Contract) → class_sum seller (map claim_of cs) class ≤ seller_total seller cs
class_total_most seller class [] = omega arith
class_total_most seller class (c ∷ cs) =
    omega (arith, sum_by-cons (λ x. x) (weight seller class (claim_of c)) (class_weights seller class (map claim_of cs)), sum_by-cons (sold_by seller) c cs, sold_weight seller class c, class_total_most seller class cs)

-- the same, for the contracts that the claims are of

pub class_total_sum : (seller class : ℕ) (cs : List Contract) → class_sum seller (map claim_of cs) class ≡ sum_by (λ c. weight seller class (claim_of c)) cs
class_total_sum seller class [] = refl
class_total_sum seller class (c ∷ cs) =
    omega (arith, sum_by-cons (λ x. x) (weight seller class (claim_of c)) (class_weights seller class (map claim_of cs)), sum_by-cons (λ x. weight seller class (claim_of x)) c cs, class_total_sum seller class cs)

pub effective_of_place : (rule : Rule) (short : ℕ) (cs : List Contract) (i : ℕ) (d : Contract) → i < length cs →
    effective_at rule short (map claim_of cs) i
    ≡ (get_or cs i d).terms.amount - get_or (cut_shares rule short (get_or cs i d).terms.seller (map claim_of cs) (class_number (get_or cs i d).terms.class)) i 0
effective_of_place rule short cs i d less =
    ap (λ (c : Claim). c.amount - get_or (cut_shares rule short c.seller (map claim_of cs) c.class) i 0) (get_or-map claim_of cs i d no_claim less)

pub effective_of_place_most : (rule : Rule) (short : ℕ) (cs : List Contract) (i : ℕ) (d : Contract) → i < length cs →
    effective_at rule short (map claim_of cs) i ≤ (get_or cs i d).terms.amount
effective_of_place_most rule short cs i d less = omega (arith, effective_of_place rule short cs i d less)

-- in a sound book
module _ (sizes : Sizes) (taken : List Contract) (rows shortfalls : List ℕ) (book : SoundBook sizes taken rows shortfalls) (seller : ℕ) where
  pub seller_front : (n : ℕ) → n ≤ length taken → seller_total seller (take n taken) ≤ most_total
  seller_front zero h = omega arith
  seller_front (suc n) h =
      elim (cases_eq (get_or taken n blank).terms.seller seller) [
        | inl own ↦ subst (λ (s : ℕ). seller_total s (take (suc n) taken) ≤ most_total) own
            (rw add-one at (book.place n blank (omega arith)).seller)
        | inr other ↦
            let none : sold_by seller (get_or taken n blank) ≡ 0 =
            cond-false (in_force (get_or taken n blank) && eqb (get_or taken n blank).terms.seller seller) (get_or taken n blank).terms.amount 0
            (and_right _ _ (ne_eqb _ _ other)) in
            let more : seller_total seller (take (suc n) taken) ≡ seller_total seller (take n taken) + sold_by seller (get_or taken n blank) =
            rw add-one at (sum_by_more (sold_by seller) taken n blank (omega arith)) in
            omega (arith, seller_front n (omega arith))
      ]

  pub seller_most : seller_total seller taken ≤ most_total
  seller_most = rw (take_all (length taken) taken (omega arith)) at (seller_front (length taken) (omega arith))

  pub sound_class_total : (class : ℕ) → class_sum seller (map claim_of taken) class ≤ most_total
  sound_class_total class = omega (arith, seller_most, class_total_most seller class taken)
