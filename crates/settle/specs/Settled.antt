-- What the board needs of the book so that it can follow it.
use Rattle.std.specs.Prelude.{◌≡◌, ℕ, ◌*◌, ◌<◌, ◌≤◌, true, List, [], length, sum, Option, Some, None, slice_index_or, slice_set}
use Rattle.scale.specs.Totals.{limit}
use Rattle.book.specs.declared.contract.Contract.{Contract}
use Rattle.book.specs.declared.sizes.Sizes.{Sizes}
use Rattle.book.specs.Sound.{row_of}
use Rattle.book.specs.States.{in_force}
use Rattle.book.specs.Terms.{Acceptable, fields, blank}
use Rattle.ledger.specs.States.{State}

-- a state of which only the contracts, their rows and the board count
abbrev pub booked : {V : Type 0} → Sizes → List Contract → List ℕ → List V → State V
booked sizes contracts rows board =
    record { sizes = sizes; taken = length contracts; places = contracts; rows = rows; shortfalls = []; board = board }

-- the contracts as an event leaves them: with one changed at an index, from 0, or with none
abbrev pub marked : Option (ℕ × Contract) → List Contract → List Contract
marked None contracts = contracts
marked (Some change) contracts = slice_set contracts change.0 change.1

-- a contract at a place with this row: its parties are agents, and in force its row is its amount over the hours
pub record Placed (sizes : Sizes) (row : List ℕ) (c : Contract) : Type 0 where
  pub terms : Acceptable sizes (fields c.terms)
  pub total : in_force c ≡ true → sum row ≡ c.terms.amount
  pub effective : in_force c ≡ true → c.effective ≤ limit

-- the contracts of the places before and after, as a sound book has them; places count from 0
pub record Ready (sizes : Sizes) (old new : List Contract) (rows : List ℕ) (entries : ℕ) : Type 0 where
  pub long : length new ≡ length old
  pub covered : length old * sizes.hours ≤ length rows
  pub board : entries ≡ sizes.agents * 4 * sizes.hours
  pub before : (i : ℕ) → i < length old → Placed sizes (row_of sizes.hours rows i) (slice_index_or old i blank)
  pub after : (i : ℕ) → i < length old → Placed sizes (row_of sizes.hours rows i) (slice_index_or new i blank)
