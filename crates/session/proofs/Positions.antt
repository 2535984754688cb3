-- A position that a month's board answered, as the session's month has it.
use Rattle.std.proofs.Common.{◌≡◌, ℕ, List, length, get_or, IfOk, Ok, Err, Result, sym, refl, ap, ◌∙◌}
use Rattle.std.proofs.lemmas.List.{length-map}
use Rattle.scale.specs.declared.fault.Fault.{Fault}
use Rattle.scale.specs.Refusals.{refusal_of}
use Rattle.entry.specs.declared.joining.Joining as joining
use Rattle.entry.specs.declared.reversible.Reversible as reversible
use Rattle.entry.specs.Kinds.{meaning, values}
use Rattle.ledger.specs.Checks.{position_refusal}
use Rattle.ledger.specs.Past.{ledger}
use Rattle.ledger.specs.States.{State}
use Rattle.lines.specs.declared.reply.Reply.{Reply}
use Rattle.month.specs.Questions.{entry_index, InEveryLife}
use Rattle.month.proofs.Living.{placed, read}
use Rattle.session.specs.declared.shown.Shown as shown
use Rattle.session.specs.Turns.{Told}
use Rattle.session.specs.Questions.{showing_of}

module _ {E : Type 0} (j : joining.Ghosts E) (r : reversible.Ghosts E) (w : shown.Ghosts E) (s : State j.Value) (board : List E) (on : s.board ≡ values j board) (agent submarket hour : ℕ) where
  told : (y : Result Reply Fault) → refusal_of y ≡ position_refusal s.sizes (length board) agent submarket hour
      → IfOk y (λ a. (e : E) × (e ≡ get_or board (entry_index s.sizes agent submarket hour) e) × (a ≡ w.shows e))
      → IfOk y (λ a. InEveryLife (meaning j r) s.sizes (values j board) (λ past. a ≡ w.tells (ledger past) agent submarket hour))
      → IfOk y (Told (meaning j r) (showing_of j w) s agent submarket hour)
  told (Err f) a b c = tt
  told (Ok x) a b c = record {
    shown = (b.0, read (meaning j r) j.value s.sizes board agent submarket hour b.0 (placed s.sizes (length board) agent submarket hour a) b.1 s refl on, b.2);
    lived = λ past life. c past s life refl on;
  }

  pub asked : (y : Result Reply Fault) → refusal_of y ≡ position_refusal s.sizes (length board) agent submarket hour
      → IfOk y (λ a. (e : E) × (e ≡ get_or board (entry_index s.sizes agent submarket hour) e) × (a ≡ w.shows e))
      → IfOk y (λ a. InEveryLife (meaning j r) s.sizes (values j board) (λ past. a ≡ w.tells (ledger past) agent submarket hour))
      → (refusal_of y ≡ position_refusal s.sizes (length s.board) agent submarket hour) × IfOk y (Told (meaning j r) (showing_of j w) s agent submarket hour)
  asked y a b c = (
    a ∙ ap (λ (n : ℕ). position_refusal s.sizes n agent submarket hour) (sym (ap length on ∙ length-map board j.value)),
    told y a b c,
  )
