-- The cuts of a ledger: they come to the shortfall, class after class, and what is delivered is fair.
use Rattle.std.proofs.Common.{◌≡◌, ℕ, zero, suc, ◌+◌, ◌-◌, ◌*◌, ◌<◌, ◌≤◌, min, Bool, true, false, cond, ◌&&◌, eqb, leb, List, map, length, get_or, sum, sym, refl, ap, ◌∙◌, subst, inl, inr, arith}
use Rattle.std.proofs.lemmas.List.{length-map}
use Rattle.std.proofs.lemmas.List.Sums.{sum-map}
use Rattle.std.proofs.lemmas.Bool.{cases_eq, eq-eqb, ne_eqb, eqb-true}
use Rattle.scale.specs.Shares.{Within, shares_of, stretch}
use Rattle.scale.specs.Fairness.{Fair}
use Rattle.scale.proofs.Running.{down_sound, fair}
use Rattle.book.specs.Cuts.{Claim, no_claim, weight, class_sum, class_cut, cut_shares}
use Rattle.book.proofs.Cutting.{get_or_map_at, cut_length, cut_weight, cut_total, class_in_turn, cuts_together, effective_most}
use Rattle.ledger.specs.Balance.{amounts_in, cuts_in, Delivered}
use Rattle.ledger.specs.Calls.{rounding}
use Rattle.ledger.specs.Past.{Ledger, line_at, no_line, stands, claim_in, effective_in, quantities_in}
use Rattle.ledger.proofs.Sums.{sum_to_same, sum_to_list, sum_to_three, sum_to_four}

ap3 : {a b c d e f : ℕ} → a ≡ d → b ≡ e → c ≡ f → a + b + c ≡ d + e + f
ap3 p q r = cc

ap4 : {a b c d e f g h : ℕ} → a ≡ e → b ≡ f → c ≡ g → d ≡ h → a + b + c + d ≡ e + f + g + h
ap4 p q r s = cc

-- the claims of a ledger's lines
abbrev pub claims_in : Ledger → List Claim
claims_in b = map claim_in b.lines

pub eqb_turned : (a b : ℕ) → eqb a b ≡ eqb b a
eqb_turned a b =
    elim (cases_eq a b) [
      | inl same ↦ eq-eqb a b same ∙ sym (eq-eqb b a (sym same))
      | inr other ↦ ne_eqb a b other ∙ sym (ne_eqb b a (λ e. other (sym e)))
    ]

pub claim_at : (b : Ledger) (i : ℕ) → get_or (claims_in b) i no_claim ≡ claim_in (line_at b i)
claim_at b i = get_or_map_at claim_in b.lines i no_line

-- what is left of a line of the seller and the class
pub effective_of_line : (b : Ledger) (seller class i : ℕ) → (line_at b i).fields.seller ≡ seller → (line_at b i).fields.class ≡ class
    → effective_in b i ≡ (line_at b i).fields.amount - get_or (cut_shares rounding (b.shortfall seller) seller (claims_in b) class) i 0
effective_of_line b seller class i own kind =
    ap (λ (c : Claim). c.amount - get_or (cut_shares rounding (b.shortfall (line_at b i).fields.seller) c.seller (claims_in b) c.class) i 0) (claim_at b i)
    ∙ ap (λ (s : ℕ). (line_at b i).fields.amount - get_or (cut_shares rounding (b.shortfall s) s (claims_in b) (line_at b i).fields.class) i 0) own
    ∙ ap (λ (k : ℕ). (line_at b i).fields.amount - get_or (cut_shares rounding (b.shortfall seller) seller (claims_in b) k) i 0) kind

pub effective_most_of_line : (b : Ledger) (i : ℕ) → effective_in b i ≤ (line_at b i).fields.amount
effective_most_of_line b i =
    subst (λ (c : Claim). effective_in b i ≤ c.amount) (claim_at b i)
    (effective_most rounding (b.shortfall (line_at b i).fields.seller) (claims_in b) i)

-- what is left leaves what was taken
taken_off : (stands own kind : Bool) (amount left share : ℕ) → share ≤ cond (stands && (own && kind)) amount 0
    → (own ≡ true → kind ≡ true → left ≡ amount - share) → cond (stands && (own && kind)) (amount - left) 0 ≡ share
taken_off false own kind amount left share most is = omega arith
taken_off true false kind amount left share most is = omega arith
taken_off true true false amount left share most is = omega arith
taken_off true true true amount left share most is = omega (arith, is refl refl)

-- what a line loses, by its class
module _ (b : Ledger) (seller class : ℕ) where
  -- the weight of the line at an index, as the sums over lines write it
  pub weight_of_line : (i : ℕ) → weight seller class (get_or (claims_in b) i no_claim)
      ≡ cond (stands (line_at b i) && (eqb (line_at b i).fields.seller seller && eqb class (line_at b i).fields.class)) (line_at b i).fields.amount 0
  weight_of_line i =
      ap (weight seller class) (claim_at b i)
      ∙ ap (λ (t : Bool). cond (stands (line_at b i) && (eqb (line_at b i).fields.seller seller && t)) (line_at b i).fields.amount 0)
      (eqb_turned (line_at b i).fields.class class)

  pub amounts_of_class : amounts_in b seller (eqb class) ≡ class_sum seller (claims_in b) class
  amounts_of_class =
      sum_to_same (length b.lines) _ (λ i. weight seller class (get_or (claims_in b) i no_claim)) (λ i h. sym (weight_of_line i))
      ∙ sum_to_list (weight seller class) (claims_in b) no_claim (length b.lines) (sym (length-map b.lines claim_in))
      ∙ sym (sum-map (weight seller class) (claims_in b))

  -- what is cut off a line is its share of its class's cut; in every other class it has none
  pub cut_of_line : (i : ℕ) →
      cond (stands (line_at b i) && (eqb (line_at b i).fields.seller seller && eqb class (line_at b i).fields.class)) ((line_at b i).fields.amount - effective_in b i) 0
      ≡ get_or (cut_shares rounding (b.shortfall seller) seller (claims_in b) class) i 0
  cut_of_line i =
      taken_off (stands (line_at b i)) (eqb (line_at b i).fields.seller seller) (eqb class (line_at b i).fields.class) (line_at b i).fields.amount (effective_in b i)
      (get_or (cut_shares rounding (b.shortfall seller) seller (claims_in b) class) i 0)
      (subst (λ (w : ℕ). get_or (cut_shares rounding (b.shortfall seller) seller (claims_in b) class) i 0 ≤ w) (weight_of_line i)
      (cut_weight rounding (b.shortfall seller) seller (claims_in b) class down_sound i))
      (λ own kind. effective_of_line b seller class i (eqb-true _ _ own) (sym (eqb-true _ _ kind)))

  pub cuts_of_class : cuts_in b seller (eqb class) ≡ class_cut (b.shortfall seller) (class_sum seller (claims_in b)) class
  cuts_of_class =
      sum_to_same (length b.lines) _ (λ i. get_or (cut_shares rounding (b.shortfall seller) seller (claims_in b) class) i 0) (λ i h. cut_of_line i)
      ∙ sum_to_list (λ x. x) (cut_shares rounding (b.shortfall seller) seller (claims_in b) class) 0 (length b.lines)
      (sym (cut_length rounding (b.shortfall seller) seller (claims_in b) class ∙ length-map b.lines claim_in))
      ∙ cut_total rounding (b.shortfall seller) seller (claims_in b) class down_sound

-- an amount counts in one of four classes, and in one of the first three if its class is one of those
pub by_class : (stands own : Bool) (class a : ℕ) → (stands ≡ true → (1 ≤ class) × (class ≤ 4)) →
    (cond (stands && (own && true)) a 0
    ≡ cond (stands && (own && eqb 1 class)) a 0 + cond (stands && (own && eqb 2 class)) a 0 + cond (stands && (own && eqb 3 class)) a 0 + cond (stands && (own && eqb 4 class)) a 0)
    × (cond (stands && (own && leb class 3)) a 0
    ≡ cond (stands && (own && eqb 1 class)) a 0 + cond (stands && (own && eqb 2 class)) a 0 + cond (stands && (own && eqb 3 class)) a 0)
by_class false own class a h = (refl, refl)
by_class true false class a h = (refl, refl)
by_class true true zero a h = (omega (arith, h refl), omega (arith, h refl))
by_class true true (suc zero) a h = (omega arith, omega arith)
by_class true true (suc (suc zero)) a h = (omega arith, omega arith)
by_class true true (suc (suc (suc zero))) a h = (omega arith, omega arith)
by_class true true (suc (suc (suc (suc zero)))) a h = (omega arith, omega arith)
by_class true true (suc (suc (suc (suc (suc n))))) a h = (omega (arith, h refl), omega (arith, h refl))

-- every contract in force has one of the four classes
abbrev pub Classed : Ledger → Type 0
Classed b = (i : ℕ) → i < length b.lines → stands (line_at b i) ≡ true → (1 ≤ (line_at b i).fields.class) × ((line_at b i).fields.class ≤ 4)

module _ (b : Ledger) (classed : Classed b) (seller : ℕ) where
  pub cuts_by_class : cuts_in b seller (λ c. true) ≡ cuts_in b seller (eqb 1) + cuts_in b seller (eqb 2) + cuts_in b seller (eqb 3) + cuts_in b seller (eqb 4)
  cuts_by_class =
      sum_to_four (length b.lines) _ _ _ _ _ (λ i h.
      (by_class (stands (line_at b i)) (eqb (line_at b i).fields.seller seller) (line_at b i).fields.class ((line_at b i).fields.amount - effective_in b i) (classed i h)).0)

  pub amounts_by_class : amounts_in b seller (λ c. leb c 3) ≡ amounts_in b seller (eqb 1) + amounts_in b seller (eqb 2) + amounts_in b seller (eqb 3)
  amounts_by_class =
      sum_to_three (length b.lines) _ _ _ _ (λ i h.
      (by_class (stands (line_at b i)) (eqb (line_at b i).fields.seller seller) (line_at b i).fields.class (line_at b i).fields.amount (classed i h)).1)

  -- a seller's cuts come to the lesser of its shortfall and its amounts in the first three classes
  pub cuts : cuts_in b seller (λ c. true) ≡ min (b.shortfall seller) (amounts_in b seller (λ c. leb c 3))
  cuts =
      let t : ℕ → ℕ = class_sum seller (claims_in b) in
      let all : cuts_in b seller (λ c. true) ≡ min (b.shortfall seller) (t 1 + t 2 + t 3) =
      cuts_by_class ∙ ap4 (cuts_of_class b seller 1) (cuts_of_class b seller 2) (cuts_of_class b seller 3) (cuts_of_class b seller 4) ∙ cuts_together (b.shortfall seller) t in
      all ∙ ap (min (b.shortfall seller)) (sym (amounts_by_class ∙ ap3 (amounts_of_class b seller 1) (amounts_of_class b seller 2) (amounts_of_class b seller 3)))

-- a class is cut only where every class before it is cut whole
pub in_turn : (b : Ledger) (seller class earlier : ℕ) → 1 ≤ earlier → earlier < class → 0 < cuts_in b seller (eqb class)
    → cuts_in b seller (eqb earlier) ≡ amounts_in b seller (eqb earlier)
in_turn b seller class earlier first before cut =
    cuts_of_class b seller earlier
    ∙ class_in_turn (b.shortfall seller) (class_sum seller (claims_in b)) class earlier first before
    (subst (λ (x : ℕ). 0 < x) (cuts_of_class b seller class) cut)
    ∙ sym (amounts_of_class b seller earlier)

-- what is left of a contract's amount is delivered: in all, and near its exact share at every run of hours
pub delivered : (b : Ledger) (i : ℕ) → (line_at b i).row ≡ shares_of rounding (line_at b i).fields.amount (line_at b i).weights
    → 1 ≤ sum (line_at b i).weights → 1 ≤ (line_at b i).fields.amount → Delivered b i
delivered b i row pos some =
    let fairly : Fair (shares_of rounding) = fair rounding down_sound in
    let amount : ℕ = (line_at b i).fields.amount in
    let weights : List ℕ = (line_at b i).weights in
    let e : ℕ = effective_in b i in
    let most : e ≤ amount = effective_most_of_line b i in
    let quantities : shares_of rounding e (shares_of rounding amount weights) ≡ quantities_in b i = ap (shares_of rounding e) (sym row) in
    let whole : sum (shares_of rounding amount weights) ≡ amount = fairly.total amount weights pos in
    record {
      total = ap sum (sym quantities) ∙ fairly.total e (shares_of rounding amount weights) (omega arith);
      most = most;
      near = λ first count. subst (λ (qs : List ℕ). Within (2 * sum weights) (stretch first count qs * sum weights) (e * stretch first count weights)) quantities
          (fairly.again amount e weights pos some most first count);
      uncut = λ same first count. subst (λ (qs : List ℕ). Within (sum weights) (stretch first count qs * sum weights) (e * stretch first count weights)) quantities
          (subst (λ (x : ℕ). Within (sum weights) (stretch first count (shares_of rounding x (shares_of rounding amount weights)) * sum weights) (x * stretch first count weights)) (sym same)
          (fairly.whole_near amount weights pos some first count));
    }
