-- A month on memories of the right lengths opens.
use Rattle.std.proofs.Common.{◌≡◌, ℕ, ◌*◌, None, refl, ◌∙◌, eq-eqb}
use Rattle.scale.specs.Refusals.{first_of}
use Rattle.book.specs.Sizing.{size_checks}
use Rattle.ledger.specs.Checks.{open_refusal}
use Rattle.month.proofs.Checked.{first_none}

pub opens : (a h p w x y z : ℕ) → first_of (size_checks a h p) ≡ None → w ≡ p → x ≡ p * h → y ≡ a → z ≡ a * 4 * h → open_refusal a h p w x y z ≡ None
opens a h p w x y z lawful e f g i =
    first_none _ _ lawful ∙ rw (e, f, g, i) (rw (eq-eqb p p refl, eq-eqb (p * h) (p * h) refl, eq-eqb a a refl, eq-eqb (a * 4 * h) (a * 4 * h) refl) refl)
