use Rattle.std.proofs.Common.{refl}
use Rattle.entry.specs.Kinds.{meaning}
use Rattle.ledger.specs.Calls.{Telling}
use Rattle.ledger.specs.Past.{telling}
use Rattle.session.specs.Turns.{Changes}
use Rattle.session.proofs.Staged.{not_open}
use Rattle.session.proofs.desk.Desk.tell.Goals as goal

pub returns-in-Open : goal.returns-in-Open
returns-in-Open g c = rw c.in-Open.is (_, refl, (c.tell_on.ensures, refl))

pub returns-in_default : goal.returns-in_default
returns-in_default g c =
    let a = c.args in
    let k = meaning g.E.Joining g.E.Reversible in
    not_open g.E.Joining (Changes k (telling a.agent a.kwh) (Telling k a.agent a.kwh)) (λ s. (refl, refl)) a.self.now a.self.now.stage c.in_default.not-Open
