use Rattle.std.proofs.Common.{replicate, refl, arith}
use Rattle.session.proofs.Fronts.{front}
use Rattle.session.proofs.desk.Desk.open.Goals as goal

pub returns-clause-begun : goal.returns-clause-begun
returns-clause-begun g c =
    let l = c.in_ok-lengths.lengths in
    let o = c.in_ok-month.ensures.opened in
    let s = front l.shortfalls (replicate 4 0) c.open.new.shortfalls (omega arith) c.open.auto.shortfalls in
    let b = front l.entries (replicate 384 c.empty-board.result) c.open.new.board (omega arith) c.open.auto.board in
    record { state = _; is = refl; sizes = o.0; opened = rw (s, b) o.1; life = rw (s, b) o.2 }
