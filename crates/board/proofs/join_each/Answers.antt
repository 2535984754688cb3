use Rattle.std.proofs.Common.{◌≡◌, get_or, sym, ap, ◌∙◌, arith}
use Rattle.std.proofs.lemmas.List.{get_or-map}
use Rattle.entry.specs.Kinds.{values}
use Rattle.board.proofs.Joins.{below_one_more}
use Rattle.board.proofs.join_each.Goals as goal

pub loop-hour-preserved : goal.loop-hour-preserved
loop-hour-preserved g c =
    let j = g.E.Joining in
    let hour = c.loop-hour.hour in
    let read : j.value (get_or c.loop-hour.lane hour c.index-lane-hour.result) ≡ get_or (values j c.loop-hour.lane) hour j.nothing =
    sym (get_or-map j.value c.loop-hour.lane hour c.index-lane-hour.result j.nothing (omega arith)) in
    below_one_more j _ c.args.quantities.now c.args.lane.now hour c.loop-hour.lane c.join.result c.make.result (omega arith)
    c.make.ensures (c.join.ensures ∙ ap (λ v. j.joined v (j.value c.make.result)) read) c.loop-hour.invariant
