-- The life of a contract: its states, and what leads from one to the next.
use Rattle.std.specs.Prelude.{ℕ, Bool, true, false, ◌||◌, Some, None, Option, ◌==◌}
use Rattle.book.specs.declared.contract.Contract.{Contract}
use Rattle.book.specs.declared.contract.Event.{Event}
use Rattle.book.specs.declared.contract.Event.TheVariants.{Confirmation, Ending}
use Rattle.book.specs.declared.contract.State.{State}
use Rattle.book.specs.declared.contract.State.TheVariants.{Offered, InForce, Ended}
use Rattle.book.specs.declared.contract.Terms.{Terms}

abbrev pub state_number : State → ℕ
state_number Offered = 1
state_number InForce = 2
state_number Ended = 3

abbrev pub is_in_force : State → Bool
is_in_force Offered = false
is_in_force InForce = true
is_in_force Ended = false

abbrev pub in_force : Contract → Bool
in_force c = is_in_force c.state

-- the state that an event leads to, if it fits the present one
abbrev pub state_after : State → Event → Option State
state_after Offered Confirmation = Some InForce
state_after Offered Ending = Some Ended
state_after InForce Confirmation = None
state_after InForce Ending = Some Ended
state_after Ended Confirmation = None
state_after Ended Ending = None

-- who may bring an event about: the buyer confirms, either party ends
abbrev pub allowed : Event → Terms → ℕ → Bool
allowed Confirmation t agent = agent == t.buyer
allowed Ending t agent = agent == t.seller || agent == t.buyer
