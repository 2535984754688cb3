-- The checks of each call, in their order: the first that fails refuses the call.
use Rattle.std.specs.Prelude.{ℕ, ◌+◌, ◌-◌, ◌*◌, List, [], ◌∷◌, length, is_some, Some, None, Option, ◌==◌, nat_le, nat_lt}
use Rattle.scale.specs.Refusals.{Refusal, refusal, unless, first_of}
use Rattle.book.specs.declared.contract.Event.{Event}
use Rattle.book.specs.declared.contract.Event.TheVariants.{Confirmation, Ending}
use Rattle.book.specs.declared.contract.Offer.{Offer}
use Rattle.book.specs.declared.sizes.Sizes.{Sizes}
use Rattle.book.specs.Limits.{between, most_total}
use Rattle.book.specs.Lookup.{place_of}
use Rattle.book.specs.Sizing.{size_checks}
use Rattle.book.specs.Sound.{book_check, seller_total}
use Rattle.book.specs.States.{state_after, allowed, in_force}
use Rattle.book.specs.Supply.{supply_check}
use Rattle.book.specs.Terms.{offer_checks}
use Rattle.ledger.specs.States.{State, contracts, contract_at}

-- the lengths of the four memories, exact; the first wrong one is told
abbrev pub length_check : ℕ → ℕ → ℕ → ℕ → ℕ → ℕ → ℕ → Option Refusal
length_check agents hours size places rows shortfalls board = first_of (
    unless (places == size) 1 1
    ∷ unless (rows == size * hours) 1 2
    ∷ unless (shortfalls == agents) 1 3
    ∷ unless (board == agents * 4 * hours) 1 4
    ∷ [])

abbrev pub open_refusal : ℕ → ℕ → ℕ → ℕ → ℕ → ℕ → ℕ → Option Refusal
open_refusal agents hours size places rows shortfalls board =
    first_of (first_of (size_checks agents hours size) ∷ length_check agents hours size places rows shortfalls board ∷ [])

-- a number must be a contract's, which then meets the checks that follow
abbrev pub at_number : Option ℕ → (ℕ → Option Refusal) → Option Refusal
at_number None checks = Some (refusal 8 0)
at_number (Some place) checks = checks place

-- a number must be no contract's
abbrev pub free : Option ℕ → Option Refusal
free None = None
free (Some place) = Some (refusal 6 place)

module _ {V : Type 0} (s : State V) where
  abbrev pub lengths_of : Option Refusal
  lengths_of = length_check s.sizes.agents s.sizes.hours s.sizes.places
      (length s.places) (length s.rows) (length s.shortfalls) (length s.board)

  -- the memories are as long as they must be, and the book is sound
  abbrev pub admitted : Option Refusal
  admitted = first_of (lengths_of ∷ book_check s.sizes (contracts s) s.rows s.shortfalls ∷ [])

  abbrev pub offer_refusal : Offer → Option Refusal
  offer_refusal o = first_of (
      admitted
      ∷ first_of (offer_checks s.sizes o)
      ∷ free (place_of o.number (contracts s))
      ∷ unless (nat_lt s.taken s.sizes.places) 7 0
      ∷ [])

  -- the party must be allowed the event, and the contract's state must fit it
  abbrev pub event_check : Event → ℕ → ℕ → Option Refusal
  event_check event agent place = first_of (
      unless (allowed event (contract_at s (place - 1)).terms agent) 9 place
      ∷ unless (is_some (state_after (contract_at s (place - 1)).state event)) 10 place
      ∷ [])

  abbrev pub confirm_refusal : ℕ → ℕ → List ℕ → Option Refusal
  confirm_refusal number agent weights = first_of (
      admitted
      ∷ at_number (place_of number (contracts s)) (λ place. first_of (
      event_check Confirmation agent place
      ∷ supply_check s.sizes.hours (contract_at s (place - 1)).terms weights
      ∷ unless (nat_le (seller_total (contract_at s (place - 1)).terms.seller (contracts s) + (contract_at s (place - 1)).terms.amount) most_total) 15 place
      ∷ []))
      ∷ [])

  abbrev pub end_refusal : ℕ → ℕ → Option Refusal
  end_refusal number agent = first_of (admitted ∷ at_number (place_of number (contracts s)) (event_check Ending agent) ∷ [])

  abbrev pub tell_refusal : ℕ → ℕ → Option Refusal
  tell_refusal agent kwh = first_of (
      admitted ∷ unless (between 1 s.sizes.agents agent) 4 1 ∷ unless (nat_le kwh most_total) 16 0 ∷ [])

  abbrev pub turnover_refusal : ℕ → Option Refusal
  turnover_refusal agent = first_of (admitted ∷ unless (between 1 s.sizes.agents agent) 4 1 ∷ [])

  abbrev pub certificate_refusal : ℕ → ℕ → Option Refusal
  certificate_refusal agent page = first_of (turnover_refusal agent ∷ unless (nat_le 64 page) 14 0 ∷ [])

  abbrev pub quantity_refusal : ℕ → ℕ → Option Refusal
  quantity_refusal number hour = first_of (
      admitted
      ∷ at_number (place_of number (contracts s)) (λ place. first_of (
      unless (between 1 s.sizes.hours hour) 4 2
      ∷ unless (in_force (contract_at s (place - 1))) 10 place
      ∷ []))
      ∷ [])

-- position takes only the board
abbrev pub position_refusal : Sizes → ℕ → ℕ → ℕ → ℕ → Option Refusal
position_refusal sizes board agent submarket hour = first_of (
    unless (board == sizes.agents * 4 * sizes.hours) 1 4
    ∷ unless (between 1 sizes.agents agent) 4 1
    ∷ unless (between 1 4 submarket) 4 2
    ∷ unless (between 1 sizes.hours hour) 4 3
    ∷ [])

abbrev pub balance_refusal : Sizes → ℕ → ℕ → ℕ → Option Refusal
balance_refusal sizes board submarket hour = first_of (
    unless (board == sizes.agents * 4 * sizes.hours) 1 4
    ∷ unless (between 1 4 submarket) 4 1
    ∷ unless (between 1 sizes.hours hour) 4 2
    ∷ [])
