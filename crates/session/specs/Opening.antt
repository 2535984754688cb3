-- Opening a month in a session, whose memory is for 4 agents, 24 hours and 16 places.
use Rattle.std.specs.Prelude.{◌≡◌, ℕ, ◌*◌, false, ◌&&◌, [], ◌∷◌, Some, None, Option, nat_le}
use Rattle.scale.specs.Refusals.{Refusal, unless, first_of}
use Rattle.entry.specs.Kinds.{Kind}
use Rattle.book.specs.Sizing.{Holds, size_checks}
use Rattle.ledger.specs.Calls.{Opened}
use Rattle.ledger.specs.Lives.{Begins}
use Rattle.ledger.specs.States.{State}
use Rattle.session.specs.declared.desk.Lengths.{Lengths}
use Rattle.session.specs.Held.{Held}

-- a month must fit the memory, whichever size is larger
abbrev pub memory_check : ℕ → ℕ → ℕ → Option Refusal
memory_check agents hours places = unless (nat_le agents 4 && (nat_le hours 24 && nat_le places 16)) 1 1

abbrev pub opening_refusal : ℕ → ℕ → ℕ → Option Refusal
opening_refusal agents hours places = first_of (first_of (size_checks agents hours places) ∷ memory_check agents hours places ∷ [])

-- the lengths that a month asks for
pub record LongAs (agents hours size : ℕ) (l : Lengths) : Type 0 where
  pub places : l.places ≡ size
  pub rows : l.rows ≡ size * hours
  pub shortfalls : l.shortfalls ≡ agents
  pub entries : l.entries ≡ agents * 4 * hours

-- an open month with these sizes, in which nothing has happened, and whose life begins
pub record Fresh {V : Type 0} (k : Kind V) (agents hours places : ℕ) (held : Option (Held V)) : Type 0 where
  pub state : State V
  pub is : held ≡ Some (record { closed = false; state = state })
  pub sizes : Holds state.sizes agents hours places
  pub opened : Opened k state
  pub life : Begins k state

-- what an opening leaves: a fresh month, or none
abbrev pub Begun : {V : Type 0} → Kind V → ℕ → ℕ → ℕ → Option Refusal → Option (Held V) → Type 0
Begun k agents hours places None held = Fresh k agents hours places held
Begun k agents hours places (Some f) held = held ≡ None
