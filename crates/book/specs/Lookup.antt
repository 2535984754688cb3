-- The place of a contract number.
use Rattle.std.specs.Prelude.{◌≡◌, ℕ, ◌+◌, ◌-◌, ◌<◌, ◌≤◌, cond, ◌≢◌, List, [], ◌∷◌, length, Some, None, Option, ◌==◌, slice_index_or}
use Rattle.book.specs.declared.contract.Contract.{Contract}

-- the first place from `place` on that has the number, where the list begins at `place`
abbrev pub place_from : ℕ → ℕ → List Contract → Option ℕ
place_from place number [] = None
place_from place number (c ∷ cs) = cond (c.terms.number == number) (Some place) (place_from (place + 1) number cs)

abbrev pub place_of : ℕ → List Contract → Option ℕ
place_of number taken = place_from 1 number taken

-- no place below `place` has the number
abbrev pub NotBefore : ℕ → ℕ → List Contract → Type 0
NotBefore place number taken =
    (k : ℕ) (d : Contract) → k + 1 < place → k < length taken → (slice_index_or taken k d).terms.number ≢ number

-- the number stands at the place, and at no earlier one
pub record FirstPlace (number : ℕ) (taken : List Contract) (place : ℕ) : Type 0 where
  pub low : 1 ≤ place
  pub high : place ≤ length taken
  pub stands : (d : Contract) → (slice_index_or taken (place - 1) d).terms.number ≡ number
  pub first : NotBefore place number taken

-- the number stands nowhere
abbrev pub Absent : ℕ → List Contract → Type 0
Absent number taken = (k : ℕ) (d : Contract) → k < length taken → (slice_index_or taken k d).terms.number ≢ number
