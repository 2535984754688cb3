-- How the board follows one place.
use Rattle.std.specs.Prelude.{◌≡◌, ℕ, ◌<◌, ◌≤◌, true, false, List, length, sum}
use Rattle.scale.specs.Shares.{Rule}
use Rattle.scale.specs.Totals.{limit}
use Rattle.entry.specs.Kinds.{Kind}
use Rattle.board.specs.declared.deal.Deal.{Deal}
use Rattle.board.specs.Lanes.{room_for, fitting}
use Rattle.book.specs.declared.contract.Contract.{Contract}
use Rattle.book.specs.States.{in_force}
use Rattle.board.specs.Moves.{cell}
use Rattle.ledger.specs.Boards.{puts, takes_off, stays, AllCancel}
use Rattle.ledger.specs.Calls.{rounding}
use Rattle.settle.specs.declared.Way.{Way}
use Rattle.settle.specs.declared.Way.TheVariants.{On, Off}

-- who sells to whom under a contract, and where
abbrev pub contract_deal : Contract → Deal
contract_deal c = record { seller = c.terms.seller; buyer = c.terms.buyer; submarket = c.terms.submarket; source = c.terms.source }

-- a contract which, in force, fits a board of so many entries, and whose effective amount can be shared over its row
pub record Movable (entries : ℕ) (row : List ℕ) (c : Contract) : Type 0 where
  pub fits : in_force c ≡ true → fitting (room_for entries (length row)) (contract_deal c) ≡ true
  pub some : in_force c ≡ true → 1 ≤ sum row
  pub most : in_force c ≡ true → sum row ≤ limit
  pub effective : in_force c ≡ true → c.effective ≤ limit

-- what a contract in force puts on a lane at an hour, or what takes it off again
abbrev pub delivers : {V : Type 0} → Kind V → Rule → Contract → Way → List ℕ → ℕ → ℕ → V
delivers k rule c On row l hour = puts k rule c row l hour
delivers k rule c Off row l hour = takes_off k rule c row l hour

-- every lane has more, at each hour, what is joined to it there
pub record Joined {V : Type 0} (k : Kind V) (hours : ℕ) (more : ℕ → ℕ → V) (old new : List V) : Type 0 where
  pub long : length new ≡ length old
  pub cells : (l hour : ℕ) → hour < hours → cell k hours new l hour ≡ k.join (cell k hours old l hour) (more l hour)

-- what was moved for a place cancels
abbrev pub BothCancel : {V : Type 0} → Kind V → List ℕ → Contract → Contract → Type 0
BothCancel k row old new = stays old new ≡ false → AllCancel k rounding (length row) old row × AllCancel k rounding (length row) new row
