-- The supply was examined, so the sharing is not refused, and the row is written where it was lent.
use Rattle.std.proofs.Common.{◌≡◌, None, ◌+◌, ◌-◌, ◌*◌, length, take, drop, ap, ◌∙◌, arith}
use Rattle.std.proofs.lemmas.List.{length-drop, length-take-le}
use Rattle.scale.specs.Refusals.{refusal_of}
use Rattle.scale.specs.Weights.{clipped}
use Rattle.ledger.specs.Calls.{put_row}
use Rattle.month.proofs.Supplying.{row_put, share_passes, shared_row, shares, supply}
use Rattle.month.proofs.phase.confirming.write_row.Goals as goal
use Rattle.month.proofs.phase.confirming.write_row.Goals.{After-fill_row}

passes : (g : _) (c : After-fill_row g) → refusal_of c.fill_row.result ≡ None
passes g c =
    let a = c.args in
    let t = a.terms.now in
    let ws = g.S.Scale.weights a.scale.now in
    let h = a.hours in
    let start = a.index * h in
    let n : length (take (start + h - start) (drop start a.rows.now)) ≡ h
    = length-take-le (start + h - start) (drop start a.rows.now) (omega (arith, length-drop start a.rows.now, c.requires.room)) ∙ omega arith in
    rw (c.from.ensures, c.from-2.ensures) at c.fill_row.ensures.answer ∙ share_passes h _ t ws (supply h t ws c.requires.supply) c.requires.amount n

pub unwrap-requires : goal.unwrap-requires
unwrap-requires g c = shares c.fill_row.result (passes g (goal.at.unwrap-requires g c).After-fill_row)

pub returns : goal.returns
returns g c =
    let a = c.args in
    let t = a.terms.now in
    let ws = g.S.Scale.weights a.scale.now in
    let memory = rw (c.from.ensures, c.from-2.ensures) at c.fill_row.ensures.memory in
    row_put a.hours a.index a.rows.now c.fill_row.new.row
    ∙ ap (λ row. put_row a.hours a.index row a.rows.now)
    (shared_row t.amount (clipped t.first t.last ws) c.fill_row.new.row _ c.fill_row.result (passes g (goal.at.returns g c).After-fill_row) memory)
