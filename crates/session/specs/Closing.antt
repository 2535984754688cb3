-- Closing the month of a session: its numbers and its memory stay.
use Rattle.std.specs.Prelude.{◌≡◌, ℕ, Bool, true, false, None, Option}
use Rattle.scale.specs.Refusals.{Refusal}
use Rattle.month.specs.declared.phase.Closed as closed
use Rattle.month.specs.declared.phase.Month.{Month}
use Rattle.session.specs.declared.desk.Desk.{Desk}
use Rattle.session.specs.declared.stage.Stage.{Stage}
use Rattle.session.specs.declared.stage.Stage.TheVariants.{Idle, Open, Closed}
use Rattle.session.specs.Turns.{Refused}

abbrev pub with_stage : {E : Type 0} → Stage → Desk E → Desk E
with_stage s d = record { stage = s; lengths = d.lengths; places = d.places; rows = d.rows; shortfalls = d.shortfalls; board = d.board }

abbrev pub Shut : {E : Type 0} → Stage → Desk E → Option Refusal → Desk E → Type 0
Shut Idle d answer t = Refused d answer t
Shut (Open m) d answer t = (answer ≡ None) × ((n : Month closed.Closed) × (n.sizes ≡ m.sizes) × (n.taken ≡ m.taken) × (t ≡ with_stage (Closed n) d))
Shut (Closed m) d answer t = Refused d answer t

abbrev pub is_idle : Stage → Bool
is_idle Idle = true
is_idle (Open m) = false
is_idle (Closed m) = false

-- the places taken by the month, if there is one
abbrev pub taken_at : Stage → ℕ
taken_at Idle = 0
taken_at (Open m) = m.taken
taken_at (Closed m) = m.taken
