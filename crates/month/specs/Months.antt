-- A month and its four memories as one state.
use Rattle.std.specs.Prelude.{◌≡◌, ℕ, ◌*◌, List, length}
use Rattle.entry.specs.declared.joining.Joining as joining
use Rattle.entry.specs.Kinds.{values}
use Rattle.book.specs.declared.contract.Contract.{Contract}
use Rattle.book.specs.Sound.{SoundBook}
use Rattle.ledger.specs.States.{State, contracts}
use Rattle.month.specs.declared.memories.Memories.{Memories}
use Rattle.month.specs.declared.phase.Month.{Month}

abbrev pub state_of : {E P : Type 0} (j : joining.Ghosts E) → Month P → List Contract → List ℕ → List ℕ → List E → State j.Value
state_of j m places rows shortfalls board = record {
  sizes = m.sizes;
  taken = m.taken;
  places = places;
  rows = rows;
  shortfalls = shortfalls;
  board = values j board;
}

-- the same where the four are lent for reading
abbrev pub lent : {E P : Type 0} (j : joining.Ghosts E) → Month P → Memories E → State j.Value
lent j m l = state_of j m l.places.now l.rows.now l.shortfalls.now l.board.now

-- memories that a call goes on with: as long as they must be, and a sound book
pub record Admitted {V : Type 0} (s : State V) : Type 0 where
  pub places : length s.places ≡ s.sizes.places
  pub rows : length s.rows ≡ s.sizes.places * s.sizes.hours
  pub shortfalls : length s.shortfalls ≡ s.sizes.agents
  pub board : length s.board ≡ s.sizes.agents * 4 * s.sizes.hours
  pub sound : SoundBook s.sizes (contracts s) s.rows s.shortfalls
