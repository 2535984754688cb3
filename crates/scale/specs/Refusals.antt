-- Refusals as people are told them: a number and a spot, and the first check that fails.
use Rattle.std.specs.Prelude.{ℕ, Bool, true, false, List, [], ◌∷◌, Some, None, Ok, Err, Option, Result}
use Rattle.scale.specs.declared.fault.Fault.{Fault}
use Rattle.scale.specs.declared.fault.Reason.{Reason}
use Rattle.scale.specs.declared.fault.Reason.TheVariants.{WrongLength, UnsoundBook, SizeOutside, FieldOutside, SellerIsBuyer, NumberTaken, NoPlaceLeft, NumberAbsent, PartyNotAllowed, StateUnfit, ScaleLength, ScaleWeightless, ScaleHeavy, PageShort, SellerOverLimit, ShortfallOverLimit, LineUnreadable}

-- what is told of a refusal
pub record Refusal : Type 0 where
  pub number : ℕ
  pub spot : ℕ

abbrev pub refusal : ℕ → ℕ → Refusal
refusal n s = record { number = n; spot = s }

-- the number of each reason
abbrev pub number_of : Reason → ℕ
number_of WrongLength = 1
number_of UnsoundBook = 2
number_of SizeOutside = 3
number_of FieldOutside = 4
number_of SellerIsBuyer = 5
number_of NumberTaken = 6
number_of NoPlaceLeft = 7
number_of NumberAbsent = 8
number_of PartyNotAllowed = 9
number_of StateUnfit = 10
number_of ScaleLength = 11
number_of ScaleWeightless = 12
number_of ScaleHeavy = 13
number_of PageShort = 14
number_of SellerOverLimit = 15
number_of ShortfallOverLimit = 16
number_of LineUnreadable = 17

abbrev pub told : Fault → Refusal
told f = refusal (number_of f.reason) f.spot

-- the refusal that an answer is, if it is one
abbrev pub refusal_of : {A : Type 0} → Result A Fault → Option Refusal
refusal_of (Ok a) = None
refusal_of (Err f) = Some (told f)

-- a check: refused with number n at spot s, unless it holds
abbrev pub unless : Bool → ℕ → ℕ → Option Refusal
unless true n s = None
unless false n s = Some (refusal n s)

-- one check after another: the refusal of the first that fails
abbrev pub first_of : List (Option Refusal) → Option Refusal
first_of [] = None
first_of (None ∷ checks) = first_of checks
first_of (Some r ∷ checks) = Some r
