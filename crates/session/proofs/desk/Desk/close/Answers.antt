use Rattle.std.proofs.Common.{◌≡◌, sym, refl, ap, ◌∙◌, rules}
use Rattle.month.specs.declared.phase.Closed as closed
use Rattle.month.specs.declared.phase.Open as opened
use Rattle.month.specs.declared.phase.Month.{Month}
use Rattle.session.specs.declared.desk.Desk.{Desk}
use Rattle.session.specs.declared.stage.Stage.{Stage}
use Rattle.session.specs.declared.stage.Stage.TheVariants.{Idle, Open, Closed}
use Rattle.session.specs.Closing.{with_stage}
use Rattle.session.proofs.desk.Desk.close.Goals as goal

-- the stage is that of a closed month with the numbers of this one
abbrev IsClosing : Stage → Month opened.Open → Type 0
IsClosing Idle m = ⊥
IsClosing (Open x) m = ⊥
IsClosing (Closed n) m = (n.sizes ≡ m.sizes) × (n.taken ≡ m.taken)

shuts : {E : Type 0} (s : Stage) (m : Month opened.Open) (d t : Desk E) → t ≡ with_stage s d → IsClosing s m →
    (n : Month closed.Closed) × (n.sizes ≡ m.sizes) × (n.taken ≡ m.taken) × (t ≡ with_stage (Closed n) d)
shuts Idle m d t e h = absurd h
shuts (Open x) m d t e h = absurd h
shuts (Closed n) m d t e h = (n, h.0, h.1, e)

-- What is put back is whatever the code makes of the month: the search shows that it is closing it.
pub returns-in-Open : goal.returns-in-Open
returns-in-Open g c =
    let p : c.args.self.now.stage ≡ Open c.in-Open.month = sym c.replace.ensures.value ∙ c.in-Open.is in
    rw p (refl, shuts _ c.in-Open.month c.args.self.now _ (ap (λ (s : Stage). with_stage s c.args.self.now) c.put_back.ensures) (search rules))
