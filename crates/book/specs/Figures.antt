-- Figures worked by hand, and the test that the definitions give them.
use Rattle.std.specs.Prelude.{ℕ, ◌-◌, Bool, true, false, ◌&&◌, List, [], ◌∷◌, ◌==◌}
use Rattle.scale.specs.Shares.{Rule, shares_of}
use Rattle.book.specs.Cuts.{Claim, effective_at, map_from}

-- an amount over weights gives shares; a shortfall of the seller of claims cuts each by so much
pub data Figure : Type 0 where
  sharing : ℕ → List ℕ → List ℕ → Figure
  cutting : ℕ → List Claim → List ℕ → Figure

abbrev pub same_numbers : List ℕ → List ℕ → Bool
same_numbers [] [] = true
same_numbers [] (y ∷ ys) = false
same_numbers (x ∷ xs) [] = false
same_numbers (x ∷ xs) (y ∷ ys) = x == y && same_numbers xs ys

-- what the rule takes off each claim
abbrev pub cuts_of : Rule → ℕ → List Claim → List ℕ
cuts_of rule short cs = map_from (λ i c. c.amount - effective_at rule short cs i) 0 cs

abbrev pub given : Rule → Figure → Bool
given rule (sharing amount weights shares) = same_numbers (shares_of rule amount weights) shares
given rule (cutting short claims cuts) = same_numbers (cuts_of rule short claims) cuts

abbrev pub all_given : Rule → List Figure → Bool
all_given rule [] = true
all_given rule (f ∷ fs) = given rule f && all_given rule fs

-- in force for agent 1
abbrev pub claim : ℕ → ℕ → Claim
claim class amount = record { seller = 1; class = class; amount = amount; standing = true }

abbrev pub claims : List Claim
claims = claim 1 100 ∷ claim 1 50 ∷ claim 2 40 ∷ claim 4 90 ∷ []

-- rounded down
abbrev pub down_figures : List Figure
down_figures =
    sharing 10 (1 ∷ 1 ∷ 1 ∷ 1 ∷ []) (2 ∷ 3 ∷ 2 ∷ 3 ∷ [])
    ∷ sharing 5 (2 ∷ 3 ∷ 2 ∷ 3 ∷ []) (1 ∷ 1 ∷ 1 ∷ 2 ∷ [])
    ∷ sharing 0 (5 ∷ []) (0 ∷ [])
    ∷ sharing 3 (0 ∷ 1 ∷ 0 ∷ []) (0 ∷ 3 ∷ 0 ∷ [])
    ∷ sharing 1 (1 ∷ 1 ∷ 1 ∷ []) (0 ∷ 0 ∷ 1 ∷ [])
    ∷ cutting 31 claims (20 ∷ 11 ∷ 0 ∷ 0 ∷ [])
    ∷ cutting 170 claims (100 ∷ 50 ∷ 20 ∷ 0 ∷ [])
    ∷ cutting 500 claims (100 ∷ 50 ∷ 40 ∷ 0 ∷ [])
    ∷ []
