-- The cut rule: what a seller's shortfall takes off its contracts in force, class after class.
use Rattle.std.specs.Prelude.{ℕ, zero, suc, ◌-◌, min, Bool, false, cond, ◌&&◌, List, [], ◌∷◌, map, length, sum, Option, ◌==◌, nat_le, slice_index, slice_index_or}
use Rattle.scale.specs.Refusals.{Refusal, unless, first_of}
use Rattle.scale.specs.Shares.{Rule, shares_of}
use Rattle.book.specs.declared.contract.Contract.{Contract}
use Rattle.book.specs.Limits.{most_places, most_total}
use Rattle.book.specs.Sound.{seller_total}
use Rattle.book.specs.States.{in_force}
use Rattle.book.specs.Terms.{class_number}

-- What the rule reads of a contract: whose it is, its class from 1 to 4, its amount, and whether it is in force.
pub record Claim : Type 0 where
  pub seller : ℕ
  pub class : ℕ
  pub amount : ℕ
  pub standing : Bool

abbrev pub claim_of : Contract → Claim
claim_of c = record { seller = c.terms.seller; class = class_number c.terms.class; amount = c.terms.amount; standing = in_force c }

abbrev pub no_claim : Claim
no_claim = record { seller = 0; class = 0; amount = 0; standing = false }

-- in force for a seller, in a class
abbrev pub counts : ℕ → ℕ → Claim → Bool
counts seller class c = c.standing && (c.seller == seller && c.class == class)

-- what a contract weighs for a seller and a class: its amount if it counts, otherwise 0
abbrev pub weight : ℕ → ℕ → Claim → ℕ
weight seller class c = cond (counts seller class c) c.amount 0

abbrev pub class_weights : ℕ → ℕ → List Claim → List ℕ
class_weights seller class cs = map (weight seller class) cs

-- a seller's amounts in force in a class
abbrev pub class_sum : ℕ → List Claim → ℕ → ℕ
class_sum seller cs class = sum (class_weights seller class cs)

-- What remains of a shortfall after the classes up to k, where `total` has the amounts of each class:
-- the cut of a class is the lesser of what remains and its amounts, and is taken off what remains.
abbrev pub remaining : ℕ → (ℕ → ℕ) → ℕ → ℕ
remaining short total zero = short
remaining short total (suc k) = remaining short total k - min (remaining short total k) (total (suc k))

-- the cut of a class; the fourth is never cut
abbrev pub class_cut : ℕ → (ℕ → ℕ) → ℕ → ℕ
class_cut short total class = cond (nat_le class 3) (min (remaining short total (class - 1)) (total class)) 0

-- a seller's cut in a class, shared over its contracts of the class
abbrev pub cut_shares : Rule → ℕ → ℕ → List Claim → ℕ → List ℕ
cut_shares rule short seller cs class = shares_of rule (class_cut short (class_sum seller cs) class) (class_weights seller class cs)

-- what the cut leaves of the contract at index i, where its seller's shortfall is `short`
abbrev pub effective_at : Rule → ℕ → List Claim → ℕ → ℕ
effective_at rule short cs i =
    (slice_index_or cs i no_claim).amount - slice_index (cut_shares rule short (slice_index_or cs i no_claim).seller cs (slice_index_or cs i no_claim).class) i

-- f at each element and its index, counting from j
abbrev pub map_from : {X Y : Type 0} → (ℕ → X → Y) → ℕ → List X → List Y
map_from f j [] = []
map_from f j (x ∷ xs) = f j x ∷ map_from f (suc j) xs

abbrev pub with_effective : ℕ → Contract → Contract
with_effective e c = record { terms = c.terms; effective = e; state = c.state }

abbrev pub stands_for : ℕ → Contract → Bool
stands_for seller c = in_force c && c.terms.seller == seller

-- a seller's contracts in force, each with the effective amount that the cut rule gives it; the others as they are
abbrev pub recut : Rule → ℕ → ℕ → List Contract → List Contract
recut rule seller short cs =
    map_from (λ i c. cond (stands_for seller c) (with_effective (effective_at rule short (map claim_of cs) i) c) c) 0 cs

-- the checks before a seller's contracts are cut: how many places there are, then the seller's amounts in force
abbrev pub recut_check : ℕ → List Contract → Option Refusal
recut_check seller cs =
    first_of (unless (nat_le (length cs) most_places) 1 1 ∷ unless (nat_le (seller_total seller cs) most_total) 15 0 ∷ [])

-- one step of the rule: a contract that counts keeps its amount less its share
abbrev pub left : ℕ → ℕ → ℕ → Contract → Contract
left seller class share c = cond (counts seller class (claim_of c)) (with_effective (c.terms.amount - share) c) c

abbrev pub left_by : ℕ → ℕ → List ℕ → List Contract → List Contract
left_by seller class shares cs = map_from (λ i c. left seller class (slice_index shares i) c) 0 cs

abbrev pub cut_in : Rule → ℕ → ℕ → ℕ → List Contract → List Contract
cut_in rule seller class cut cs = left_by seller class (shares_of rule cut (class_weights seller class (map claim_of cs))) cs
