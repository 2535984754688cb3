use Rattle.std.proofs.Common.{take, refl}
use Rattle.session.specs.Held.{state_on}
use Rattle.session.proofs.Positions.{asked}
use Rattle.session.proofs.desk.Desk.position.Goals as goal

pub returns-in-Open : goal.returns-in-Open
returns-in-Open g c =
    let a = c.args in
    let d = a.self.now in
    let e = c.position.ensures in
    rw c.in-Open.is (asked g.E.Joining g.E.Reversible g.E.Shown (state_on g.E.Joining d c.in-Open.month) (take d.lengths.entries d.board) refl
    a.agent a.submarket a.hour c.position.result e.answer e.shown e.lived)

pub returns-in-Closed : goal.returns-in-Closed
returns-in-Closed g c =
    let a = c.args in
    let d = a.self.now in
    let e = c.position-in-Closed.ensures in
    rw c.in-Closed.is (asked g.E.Joining g.E.Reversible g.E.Shown (state_on g.E.Joining d c.in-Closed.month) (take d.lengths.entries d.board) refl
    a.agent a.submarket a.hour c.position-in-Closed.result e.answer e.shown e.lived)
