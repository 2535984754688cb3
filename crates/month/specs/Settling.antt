-- Places and board of a month after a seller was resettled.
use Rattle.std.specs.Prelude.{◌≡◌, ℕ, ◌+◌, ◌<◌, ◌≤◌, List, [], ◌∷◌, length, take, drop, Some, None, Option, Result, MatchResult}
use Rattle.scale.specs.declared.fault.Fault.{Fault}
use Rattle.scale.specs.Refusals.{Refusal, first_of, told}
use Rattle.entry.specs.Kinds.{Kind}
use Rattle.book.specs.declared.contract.Contract.{Contract}
use Rattle.book.specs.declared.sizes.Sizes.{Sizes}
use Rattle.book.specs.Cuts.{recut}
use Rattle.book.specs.declared.contract.State.TheVariants.{Offered}
use Rattle.book.specs.Limits.{most_total}
use Rattle.book.specs.Lookup.{place_of}
use Rattle.book.specs.Sound.{seller_total}
use Rattle.book.specs.Supply.{supply_check}
use Rattle.ledger.specs.Boards.{Revised}
use Rattle.ledger.specs.Calls.{rounding}
use Rattle.ledger.specs.Checks.{admitted, at_number}
use Rattle.ledger.specs.States.{State, contracts, contract_at}
use Rattle.settle.specs.Settled.{booked}
use Rattle.month.specs.Months.{Admitted}

-- An event left the contracts `marked` at the taken places: the seller's are cut by the rule, and the board followed.
pub record Settled {V : Type 0} (k : Kind V) (sizes : Sizes) (taken seller short : ℕ) (marked : List Contract) (rows : List ℕ)
    (old new : List Contract) (before after : List V) : Type 0 where
  pub contracts : take taken new ≡ recut rounding seller short marked
  pub others : drop taken new ≡ drop taken old
  pub long : length new ≡ length old
  pub board : Revised k rounding (booked sizes (take taken old) rows before) (booked sizes (take taken new) rows after)

-- the contract of a number was found at an index, from 0, in a book that was admitted, and is to stand changed there
pub record Chosen {V : Type 0} (s : State V) (number : ℕ) (changed : Contract → Contract) (index : ℕ) (contract : Contract) : Type 0 where
  pub admitted : Admitted s
  pub found : place_of number (contracts s) ≡ Some (index + 1)
  pub inside : index < s.taken
  pub is : contract ≡ changed (contract_at s index)

-- a call by number, as its checks at a place are
abbrev pub at_place : {V : Type 0} → State V → ℕ → (ℕ → Option Refusal) → Option Refusal
at_place s number checks = first_of (admitted s ∷ at_number (place_of number (contracts s)) checks ∷ [])

-- whatever a call by number checks at a place: it is refused before, or its checks decide at the contract found, by its index from 0
abbrev pub DecidedAt : {V : Type 0} → State V → ℕ → Result (ℕ × Contract) Fault → Type 0
DecidedAt s number r = (checks : ℕ → Option Refusal) →
    MatchResult r (λ found. at_place s number checks ≡ checks (found.0 + 1)) (λ fault. at_place s number checks ≡ Some (told fault))

-- the contract found there was offered, can be supplied on these weights, and fits within its seller's limit
pub record Supplied {V : Type 0} (s : State V) (weights : List ℕ) (index : ℕ) : Type 0 where
  pub offered : (contract_at s index).state ≡ Offered
  pub supply : supply_check s.sizes.hours (contract_at s index).terms weights ≡ None
  pub room : seller_total (contract_at s index).terms.seller (contracts s) + (contract_at s index).terms.amount ≤ most_total
