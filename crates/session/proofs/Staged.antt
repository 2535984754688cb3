-- A stage from which no open month could be taken.
use Rattle.std.proofs.Common.{◌≡◌, true, Some, Option, refl}
use Rattle.scale.specs.Refusals.{Refusal}
use Rattle.entry.specs.declared.joining.Joining as joining
use Rattle.ledger.specs.States.{State}
use Rattle.month.specs.declared.phase.Open as opening
use Rattle.month.specs.declared.phase.Month.{Month}
use Rattle.session.specs.declared.desk.Desk.{Desk}
use Rattle.session.specs.declared.stage.Stage.{Stage}
use Rattle.session.specs.declared.stage.Stage.TheVariants.{Idle, Open, Closed}
use Rattle.session.specs.Held.{Held, held_at, state_on}
use Rattle.session.specs.Turns.{Doing, unfit}

-- no open month: the line is out of turn
pub not_open : {E : Type 0} (j : joining.Ghosts E) (does : Held j.Value → Option Refusal → Held j.Value → Type 0)
    → ((s : State j.Value) → does (record { closed = true; state = s }) (Some unfit) (record { closed = true; state = s }))
    → (d : Desk E) (s : Stage) → ((m : Month opening.Open) → s ≡ Open m → ⊥) → Doing does (held_at j d s) (Some unfit) (held_at j d s)
not_open j does late d Idle no-open = (refl, refl)
not_open j does late d (Open m) no-open = absurd (no-open m refl)
not_open j does late d (Closed m) no-open = (_, refl, late (state_on j d m))
