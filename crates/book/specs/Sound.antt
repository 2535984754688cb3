-- What a sound book is, and the refusal of one that is not.
use Rattle.std.specs.Prelude.{◌≡◌, ℕ, ◌+◌, ◌*◌, ◌<◌, ◌≤◌, Bool, true, cond, not, ◌&&◌, ◌||◌, List, [], ◌∷◌, length, take, drop, is_some, sum_by, sum, Option, ◌==◌, nat_le, slice_index, slice_index_or}
use Rattle.scale.specs.Refusals.{Refusal, unless, first_of}
use Rattle.book.specs.Limits.{most_total}
use Rattle.book.specs.States.{in_force}
use Rattle.book.specs.Terms.{Acceptable, fields, offer_checks}
use Rattle.book.specs.declared.contract.Contract.{Contract}
use Rattle.book.specs.declared.sizes.Sizes.{Sizes}

-- a contract's amount, if it is in force for the seller
abbrev pub sold_by : ℕ → Contract → ℕ
sold_by seller c = cond (in_force c && c.terms.seller == seller) c.terms.amount 0

-- the seller's amounts in force
abbrev pub seller_total : ℕ → List Contract → ℕ
seller_total seller contracts = sum_by (sold_by seller) contracts

-- the row of a place, counted from 0
abbrev pub row_of : ℕ → List ℕ → ℕ → List ℕ
row_of hours rows i = take hours (drop (i * hours) rows)

abbrev pub each_moderate : List ℕ → Bool
each_moderate [] = true
each_moderate (x ∷ xs) = nat_le x most_total && each_moderate xs

-- a contract whose terms could be offered, of which no more than all counts, and whose row totals its amount if it is in force
abbrev pub is_sound_alone : Sizes → List ℕ → Contract → Bool
is_sound_alone sizes row c =
    not (is_some (first_of (offer_checks sizes (fields c.terms))))
    && (nat_le c.effective c.terms.amount && (not (in_force c) || sum row == c.terms.amount))

-- the contract c at a taken place, counted from 0
abbrev pub sound_place : Sizes → List Contract → List ℕ → ℕ → Contract → Bool
sound_place sizes taken rows i c =
    is_sound_alone sizes (row_of sizes.hours rows i) c && nat_le (seller_total c.terms.seller (take (i + 1) taken)) most_total

-- the checks of the places from i on, where the list begins at place i
abbrev pub place_checks : Sizes → List Contract → List ℕ → ℕ → List Contract → List (Option Refusal)
place_checks sizes taken rows i [] = []
place_checks sizes taken rows i (c ∷ cs) =
    unless (sound_place sizes taken rows i c) 2 (i + 1) ∷ place_checks sizes taken rows (i + 1) cs

-- the shortfalls first, then place after place
abbrev pub book_check : Sizes → List Contract → List ℕ → List ℕ → Option Refusal
book_check sizes taken rows shortfalls =
    first_of (unless (each_moderate shortfalls) 2 0 ∷ place_checks sizes taken rows 0 taken)

-- what holds of a contract at a taken place of a sound book
pub record SoundPlace (sizes : Sizes) (taken : List Contract) (rows : List ℕ) (i : ℕ) (c : Contract) : Type 0 where
  pub terms : Acceptable sizes (fields c.terms)
  pub effective : c.effective ≤ c.terms.amount
  pub row : in_force c ≡ true → sum (row_of sizes.hours rows i) ≡ c.terms.amount
  pub seller : seller_total c.terms.seller (take (i + 1) taken) ≤ most_total

pub record SoundBook (sizes : Sizes) (taken : List Contract) (rows shortfalls : List ℕ) : Type 0 where
  pub shortfall : (k : ℕ) → k < length shortfalls → slice_index shortfalls k ≤ most_total
  pub place : (i : ℕ) (d : Contract) → i < length taken → SoundPlace sizes taken rows i (slice_index_or taken i d)
