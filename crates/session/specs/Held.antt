-- What a session holds: no month, or one that is open or closed, with the front of each memory as its state.
use Rattle.std.specs.Prelude.{ℕ, Bool, true, false, List, take, Some, None, Option}
use Rattle.entry.specs.declared.joining.Joining as joining
use Rattle.book.specs.declared.contract.Contract.{Contract}
use Rattle.ledger.specs.States.{State}
use Rattle.month.specs.declared.phase.Month.{Month}
use Rattle.month.specs.Months.{state_of}
use Rattle.session.specs.declared.desk.Desk.{Desk}
use Rattle.session.specs.declared.desk.Lengths.{Lengths}
use Rattle.session.specs.declared.stage.Stage.{Stage}
use Rattle.session.specs.declared.stage.Stage.TheVariants.{Idle, Open, Closed}

pub record Held (V : Type 0) : Type 0 where
  pub closed : Bool
  pub state : State V

-- a month with the front of each memory, as long as the lengths say
abbrev pub lent_to : {E P : Type 0} (j : joining.Ghosts E) → Month P → Lengths → List Contract → List ℕ → List ℕ → List E → State j.Value
lent_to j m l places rows shortfalls board =
    state_of j m (take l.places places) (take l.rows rows) (take l.shortfalls shortfalls) (take l.entries board)

abbrev pub state_on : {E P : Type 0} (j : joining.Ghosts E) → Desk E → Month P → State j.Value
state_on j d m = lent_to j m d.lengths d.places d.rows d.shortfalls d.board

abbrev pub held_at : {E : Type 0} (j : joining.Ghosts E) → Desk E → Stage → Option (Held j.Value)
held_at j d Idle = None
held_at j d (Open m) = Some (record { closed = false; state = state_on j d m })
held_at j d (Closed m) = Some (record { closed = true; state = state_on j d m })

abbrev pub held_of : {E : Type 0} (j : joining.Ghosts E) → Desk E → Option (Held j.Value)
held_of j d = held_at j d d.stage
