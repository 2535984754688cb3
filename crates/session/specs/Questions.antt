-- What the questions of a session answer.
use Rattle.std.specs.Prelude.{◌≡◌, ℕ, List, length, IfOk, Some, None, MatchBool, Option, Result, MatchResult}
use Rattle.scale.specs.declared.fault.Fault.{Fault}
use Rattle.scale.specs.Refusals.{refusal_of}
use Rattle.entry.specs.declared.joining.Joining as joining
use Rattle.entry.specs.Kinds.{Kind}
use Rattle.ledger.specs.Checks.{position_refusal, certificate_refusal}
use Rattle.lines.specs.declared.reply.Reply.{Reply}
use Rattle.month.specs.Questions.{certified}
use Rattle.page.specs.Page.{Fronted}
use Rattle.session.specs.declared.shown.Shown as shown
use Rattle.session.specs.Held.{Held}
use Rattle.session.specs.Turns.{Showing, Told, unfit}

-- how a kind of entry tells positions
abbrev pub showing_of : {E : Type 0} (j : joining.Ghosts E) → shown.Ghosts E → Showing j.Value
showing_of {E} j s = record { Shows = λ v reply. (e : E) × (j.value e ≡ v) × (reply ≡ s.shows e); tells = s.tells }

abbrev pub PositionAsked : {V : Type 0} → Kind V → Showing V → ℕ → ℕ → ℕ → Option (Held V) → Result Reply Fault → Type 0
PositionAsked k tell agent submarket hour None r = refusal_of r ≡ Some unfit
PositionAsked k tell agent submarket hour (Some h) r =
    (refusal_of r ≡ position_refusal h.state.sizes (length h.state.board) agent submarket hour) × IfOk r (Told k tell h.state agent submarket hour)

-- the line stands at the front of the page; a refusal leaves the page
abbrev pub CertificateAsked : {V : Type 0} → ℕ → Option (Held V) → List ℕ → List ℕ → Result ℕ Fault → Type 0
CertificateAsked agent None before after r = (refusal_of r ≡ Some unfit) × (after ≡ before)
CertificateAsked agent (Some h) before after r = MatchBool h.closed
    ((refusal_of r ≡ certificate_refusal h.state agent 64) × MatchResult r (Fronted (certified h.state agent) before after) (λ _. after ≡ before))
    ((refusal_of r ≡ Some unfit) × (after ≡ before))
