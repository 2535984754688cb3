-- One class cut after another is the cut rule.
use Rattle.std.proofs.Common.{◌≡◌, ℕ, zero, suc, ◌+◌, ◌-◌, ◌<◌, ◌≤◌, min, Bool, true, false, cond, ◌&&◌, eqb, leb, List, [], ◌∷◌, ◌++◌, map, length, get_or, take, drop, set, replicate, None, Ok, Err, sum, Result, sym, refl, ap, ◌∙◌, subst, inl, inr, add-one, arith, MatchResult}
use Rattle.std.proofs.lemmas.List.{append_assoc, append-nil, drop_all, drop_more, drop-set-lt, get_or_default, get_or-map, get_or-replicate, length-replicate, same_lists, take_all, take_more_set}
use Rattle.std.proofs.lemmas.Bool.{and_right, cases_eq, cond-false, leb-true, ne_eqb}
use Rattle.scale.specs.Refusals.{refusal_of}
use Rattle.scale.specs.Shares.{Rule, Sound, shares_of}
use Rattle.scale.specs.declared.fault.Fault.{Fault}
use Rattle.scale.proofs.Running.{length_shared}
use Rattle.book.specs.Cuts.{Claim, claim_of, no_claim, class_cut, class_sum, class_weights, counts, cut_in, cut_shares, effective_at, left, left_by, map_from, recut, remaining, stands_for, with_effective}
use Rattle.book.specs.Limits.{most_total}
use Rattle.book.specs.Sound.{seller_total}
use Rattle.book.specs.States.{in_force}
use Rattle.book.specs.Terms.{class_number}
use Rattle.book.specs.declared.contract.Class.{Class}
use Rattle.book.specs.declared.contract.Class.TheVariants.{Free, Retail, Regulated, Plant}
use Rattle.book.specs.declared.contract.Contract.{Contract}
use Rattle.book.proofs.Cutting.{class_cut_lem, class_total_most, effective_of_place, part_in_sum, share_most, share_total, weight_at_lem, weight_most}

-- each element by its index

pub map_from_twice : {X : Type 0} (f g : ℕ → X → X) (j : ℕ) (xs : List X) → map_from f j (map_from g j xs) ≡ map_from (λ i x. f i (g i x)) j xs
map_from_twice f g j [] = refl
map_from_twice f g j (x ∷ xs) = ap (λ r. f j (g j x) ∷ r) (map_from_twice f g (suc j) xs)

pub map_from_same : {X Y : Type 0} (f g : ℕ → X → Y) (j : ℕ) (xs : List X)
    → ((k i : ℕ) (d : X) → i ≡ j + k → k < length xs → f i (get_or xs k d) ≡ g i (get_or xs k d)) → map_from f j xs ≡ map_from g j xs
map_from_same f g j [] h = refl
map_from_same f g j (x ∷ xs) h =
    ap (λ y. y ∷ map_from f (suc j) xs) (h 0 j x (omega arith) (omega arith))
    ∙ ap (λ r. g j x ∷ r) (map_from_same f g (suc j) xs (λ k i d e less. h (suc k) i d (omega arith) (omega arith)))

-- one more element written, and the last
pub map_from_step : {X : Type 0} (f : ℕ → X → X) (t all : List X) (i : ℕ) (y d : X) → i < length t → y ≡ f i (get_or t i d)
    → take i t ++ map_from f i (drop i t) ≡ all → take (i + 1) (set t i y) ++ map_from f (i + 1) (drop (i + 1) (set t i y)) ≡ all
map_from_step f t all i y d less e inv =
    ap (λ r. r ++ map_from f (i + 1) (drop (i + 1) (set t i y))) (take_more_set t i y less)
    ∙ ap (λ r. (take i t ++ (y ∷ [])) ++ map_from f (i + 1) r) (drop-set-lt (i + 1) t i y (omega arith))
    ∙ append_assoc (take i t) (y ∷ []) (map_from f (i + 1) (drop (i + 1) t))
    ∙ ap (λ k. take i t ++ (y ∷ map_from f k (drop (i + 1) t))) (add-one i)
    ∙ ap (λ z. take i t ++ (z ∷ map_from f (suc i) (drop (i + 1) t))) e
    ∙ ap (λ r. take i t ++ map_from f i r) (sym (drop_more t i d less))
    ∙ inv

pub map_from_done : {X : Type 0} (f : ℕ → X → X) (t all : List X) (i : ℕ) → length t ≤ i → take i t ++ map_from f i (drop i t) ≡ all → t ≡ all
map_from_done f t all i past inv =
    sym (append-nil t)
    ∙ ap (λ r. r ++ []) (sym (take_all i t past))
    ∙ ap (λ r. take i t ++ map_from f i r) (sym (drop_all i t past))
    ∙ inv

-- the shares of a cut

-- where nothing is cut, each share is 0
pub no_shares : (rule : Rule) → Sound rule → (ws zeros : List ℕ) → zeros ≡ replicate (length ws) 0 → zeros ≡ shares_of rule 0 ws
no_shares rule sound ws zeros z =
    z
    ∙ same_lists (replicate (length ws) 0) (shares_of rule 0 ws)
    (length-replicate (length ws) 0 ∙ sym (length_shared (rule 0 (sum ws)) 0 ws))
    (λ k d less.
    let inside : k < length ws = omega (arith, length-replicate {A = ℕ} (length ws) 0) in
    let none : get_or (shares_of rule 0 ws) k 0 ≡ 0 = omega (arith, part_in_sum (shares_of rule 0 ws) k, share_total rule sound 0 ws (omega arith)) in
    get_or-replicate (length ws) k 0 d inside ∙ sym none
    ∙ get_or_default (shares_of rule 0 ws) k 0 d (omega (arith, length_shared (rule 0 (sum ws)) 0 ws)))

pub share_amount : (rule : Rule) → Sound rule → (seller class cut : ℕ) (cs : List Contract) → cut ≤ class_sum seller (map claim_of cs) class
    → (i : ℕ) (d : Contract) → i < length cs → get_or (shares_of rule cut (class_weights seller class (map claim_of cs))) i 0 ≤ (get_or cs i d).terms.amount
share_amount rule sound seller class cut cs most i d less =
    let same : (get_or (map claim_of cs) i no_claim).amount ≡ (get_or cs i d).terms.amount = ap (λ (c : Claim). c.amount) (get_or-map claim_of cs i d no_claim less) in
    omega (arith, share_most rule sound cut (class_weights seller class (map claim_of cs)) most i, weight_at_lem seller class (map claim_of cs) i, weight_most seller class (get_or (map claim_of cs) i no_claim))

-- an answer that refuses nothing
pub not_refused : {A : Type 0} (r : Result A Fault) (P Q : Type 0) → refusal_of r ≡ None → MatchResult r (λ _. P) (λ _. Q) → P
not_refused (Ok a) P Q e h = h
not_refused (Err f) P Q e h = let z : ◌≡◌ {A = ℕ} 0 1 = cc in let no : ⊥ = omega arith in absurd no

-- a contract left its amount less a share, or as it is

abbrev keep : Bool → ℕ → Contract → Contract
keep b e c = cond b (with_effective e c) c

claim_kept : (b : Bool) (e : ℕ) (c : Contract) → claim_of (keep b e c) ≡ claim_of c
claim_kept true e c = refl
claim_kept false e c = refl

pub claims_kept : (seller class : ℕ) (shares : List ℕ) (j : ℕ) (cs : List Contract)
    → map claim_of (map_from (λ i c. left seller class (get_or shares i 0) c) j cs) ≡ map claim_of cs
claims_kept seller class shares j [] = refl
claims_kept seller class shares j (c ∷ cs) =
    ap (λ x. x ∷ map claim_of (map_from (λ i c. left seller class (get_or shares i 0) c) (suc j) cs))
    (claim_kept (counts seller class (claim_of c)) (c.terms.amount - get_or shares j 0) c)
    ∙ ap (λ r. claim_of c ∷ r) (claims_kept seller class shares (suc j) cs)

left_as : (seller class share : ℕ) (c x : Contract) → claim_of x ≡ claim_of c
    → left seller class share x ≡ keep (counts seller class (claim_of c)) (c.terms.amount - share) x
left_as seller class share c x same = ap (λ (m : Claim). keep (counts seller class m) (m.amount - share) x) same

-- a contract counts in one class, and the cut of that class is what it is left by
one_class : (stands own : Bool) (class : Class) (e : ℕ → ℕ) (c : Contract) →
    keep (stands && (own && eqb (class_number class) 4)) (e 4)
    (keep (stands && (own && eqb (class_number class) 3)) (e 3)
    (keep (stands && (own && eqb (class_number class) 2)) (e 2)
    (keep (stands && (own && eqb (class_number class) 1)) (e 1) c)))
    ≡ keep (stands && own) (e (class_number class)) c
one_class false own class e c = refl
one_class true false class e c = refl
one_class true true Free e c = refl
one_class true true Retail e c = refl
one_class true true Regulated e c = refl
one_class true true Plant e c = refl

own_seller : (stands : Bool) (s seller : ℕ) (e : ℕ → ℕ) (c : Contract)
    → keep (stands && eqb s seller) (e seller) c ≡ keep (stands && eqb s seller) (e s) c
own_seller stands s seller e c =
    elim (cases_eq s seller) [
      | inl same ↦ ap (λ (x : ℕ). keep (stands && eqb s seller) (e x) c) (sym same)
      | inr other ↦
          let no : (stands && eqb s seller) ≡ false = and_right _ _ (ne_eqb s seller other) in
          cond-false _ _ _ no ∙ sym (cond-false _ _ _ no)
    ]

-- the four classes in turn, whatever their shares
four_steps : (seller : ℕ) (share : ℕ → ℕ) (c : Contract) →
    left seller 4 (share 4) (left seller 3 (share 3) (left seller 2 (share 2) (left seller 1 (share 1) c)))
    ≡ keep (stands_for seller c) (c.terms.amount - share (class_number c.terms.class)) c
four_steps seller share c =
    let b : ℕ → Bool = λ k. counts seller k (claim_of c) in
    let e : ℕ → ℕ = λ k. c.terms.amount - share k in
    let one : Contract = keep (b 1) (e 1) c in
    let two : Contract = keep (b 2) (e 2) one in
    let three : Contract = keep (b 3) (e 3) two in
    let same1 : claim_of one ≡ claim_of c = claim_kept (b 1) (e 1) c in
    let same2 : claim_of two ≡ claim_of c = claim_kept (b 2) (e 2) one ∙ same1 in
    let same3 : claim_of three ≡ claim_of c = claim_kept (b 3) (e 3) two ∙ same2 in
    ap (λ (x : Contract). left seller 4 (share 4) (left seller 3 (share 3) x)) (left_as seller 2 (share 2) c one same1)
    ∙ ap (λ (x : Contract). left seller 4 (share 4) x) (left_as seller 3 (share 3) c two same2)
    ∙ left_as seller 4 (share 4) c three same3
    ∙ one_class (in_force c) (eqb c.terms.seller seller) c.terms.class e c

module _ (rule : Rule) (seller short : ℕ) (cs : List Contract) where
  abbrev share_of : ℕ → ℕ → ℕ → ℕ
  share_of s i class = get_or (cut_shares rule short s (map claim_of cs) class) i 0

  abbrev step : ℕ → ℕ → Contract → Contract
  step class i c = left seller class (share_of seller i class) c

  place : (i : ℕ) (d : Contract) → i < length cs →
      step 4 i (step 3 i (step 2 i (step 1 i (get_or cs i d))))
      ≡ cond (stands_for seller (get_or cs i d)) (with_effective (effective_at rule short (map claim_of cs) i) (get_or cs i d)) (get_or cs i d)
  place i d less =
      let c : Contract = get_or cs i d in
      four_steps seller (share_of seller i) c
      ∙ own_seller (in_force c) c.terms.seller seller (λ s. c.terms.amount - share_of s i (class_number c.terms.class)) c
      ∙ ap (λ (e : ℕ). keep (stands_for seller c) e c) (sym (effective_of_place rule short cs i d less))

  -- the contracts after the classes up to k
  abbrev pub cut_up_to : ℕ → List Contract
  cut_up_to zero = cs
  cut_up_to (suc k) = map_from (step (suc k)) 0 (cut_up_to k)

  -- the claims, and so the class totals, stay
  pub claims_up_to : (k : ℕ) → map claim_of (cut_up_to k) ≡ map claim_of cs
  claims_up_to zero = refl
  claims_up_to (suc k) = claims_kept seller (suc k) (cut_shares rule short seller (map claim_of cs) (suc k)) 0 (cut_up_to k) ∙ claims_up_to k

  cut_next : (k class cut : ℕ) (before after : List Contract) → class ≡ suc k → before ≡ cut_up_to k
      → cut ≡ class_cut short (class_sum seller (map claim_of cs)) (suc k) → after ≡ cut_in rule seller class cut before → after ≡ cut_up_to (suc k)
  cut_next k class cut before after at b q e =
      e
      ∙ ap (λ (n : ℕ). cut_in rule seller n cut before) at
      ∙ ap (λ (xs : List Contract). cut_in rule seller (suc k) cut xs) b
      ∙ ap (λ (n : ℕ). cut_in rule seller (suc k) n (cut_up_to k)) q
      ∙ ap (λ (m : List Claim). left_by seller (suc k) (shares_of rule (class_cut short (class_sum seller (map claim_of cs)) (suc k)) (class_weights seller (suc k) m)) (cut_up_to k)) (claims_up_to k)

  cut_all : cut_up_to 4 ≡ recut rule seller short cs
  cut_all =
      ap (λ (r : List Contract). map_from (step 4) 0 (map_from (step 3) 0 r)) (map_from_twice (step 2) (step 1) 0 cs)
      ∙ ap (λ (r : List Contract). map_from (step 4) 0 r) (map_from_twice (step 3) (λ i x. step 2 i (step 1 i x)) 0 cs)
      ∙ map_from_twice (step 4) (λ i x. step 3 i (step 2 i (step 1 i x))) 0 cs
      ∙ map_from_same (λ i x. step 4 i (step 3 i (step 2 i (step 1 i x))))
      (λ i c. cond (stands_for seller c) (with_effective (effective_at rule short (map claim_of cs) i) c) c) 0 cs
      (λ k i d at less.
      let same : i ≡ k = omega arith in
      subst (λ (n : ℕ). step 4 i (step 3 i (step 2 i (step 1 i (get_or cs n d))))
      ≡ cond (stands_for seller (get_or cs n d)) (with_effective (effective_at rule short (map claim_of cs) i) (get_or cs n d)) (get_or cs n d))
      same (place i d (omega arith)))

  -- no class sells more than the limit, whatever was cut before
  pub class_within : (k class : ℕ) (before : List Contract) → before ≡ cut_up_to k → leb (seller_total seller cs + 0) most_total ≡ true
      → class_sum seller (map claim_of before) class ≤ most_total
  class_within k class before b room =
      let same : class_sum seller (map claim_of before) class ≡ class_sum seller (map claim_of cs) class =
      ap (λ (m : List Claim). class_sum seller m class) (ap (map claim_of) b ∙ claims_up_to k) in
      omega (arith, class_total_most seller class cs, leb-true (seller_total seller cs + 0) most_total room)

  -- one class more, and what then remains
  pub cut_one : (i class cut rest : ℕ) (before after : List Contract) → i < 3 → class ≡ suc i → before ≡ cut_up_to i
      → rest ≡ remaining short (class_sum seller (map claim_of cs)) i → cut ≡ min rest (class_sum seller (map claim_of before) class)
      → after ≡ cut_in rule seller class cut before
      → (after ≡ cut_up_to (i + 1)) × (rest - cut ≡ remaining short (class_sum seller (map claim_of cs)) (i + 1))
  cut_one i class cut rest before after less at b r m e =
      let total : ℕ → ℕ = class_sum seller (map claim_of cs) in
      let here : class_sum seller (map claim_of before) class ≡ total (suc i) =
      ap (λ (s : List Claim). class_sum seller s class) (ap (map claim_of) b ∙ claims_up_to i) ∙ ap total at in
      let own : remaining short total (suc i - 1) ≡ remaining short total i = ap (remaining short total) (omega arith) in
      let next : remaining short total (i + 1) ≡ remaining short total (suc i) = ap (remaining short total) (add-one i) in
      let due : cut ≡ class_cut short total (suc i) = omega (arith, class_cut_lem short total (suc i) (omega arith)) in
      (cut_next i class cut before after at b due e ∙ ap cut_up_to (sym (add-one i)), omega arith)

  -- the last class is cut by nothing
  pub cut_last : (i : ℕ) (before after : List Contract) → i ≡ 3 → before ≡ cut_up_to i → after ≡ cut_in rule seller 4 0 before
      → after ≡ recut rule seller short cs
  cut_last i before after at b e = cut_next 3 4 0 before after refl (b ∙ ap cut_up_to at) refl e ∙ cut_all
