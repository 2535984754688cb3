use Rattle.std.proofs.Common.{◌∙◌, ap, map, arith, rules}
use Rattle.std.proofs.lemmas.List.{take_all}
use Rattle.month.proofs.Turnovers.{part, filled_map, turned_over, sold_most, bought_most}
use Rattle.month.proofs.turnover.turnover_over.Goals as goal

pub returns : goal.returns
returns c =
    let cs = c.args.taken.now in
    let ps = c.as_slice.result.now in
    let filled = filled_map c.args.agent cs ps (c.as_slice.ensures.value ∙ c.loop-contract.invariant ∙ ap (map (part c.args.agent)) (take_all c.loop-contract.contract-index cs (omega arith))) in
    let p = turned_over c.args.agent cs ps filled c.requires.few c.requires.moderate c.total.result (search rules) (search rules) c.total.ensures in
    let s = sold_most c.args.agent cs ps filled c.requires.few c.requires.moderate in
    let b = bought_most c.args.agent cs ps filled c.requires.few c.requires.moderate in
    record { sold = p.0; bought = p.1; most = (omega (arith, p.0, s), omega (arith, p.1, b)) }
