use Rattle.std.proofs.Common.{sum, ap, ◌∙◌, arith}
use Rattle.scale.specs.Shares.{down_to, shares_of}
use Rattle.scale.proofs.Running.{down_sound, shared_row}
use Rattle.scale.proofs.share.share.Goals as goal

pub returns-clause-memory : goal.returns-clause-memory
returns-clause-memory g c =
    let made = c.in_ok-over.ensures.value in
    let ws = g.S.Scale.weights c.args.scale.now in
    let same = ap (λ s. sum (g.S.Scale.weights s)) made.1 in
    shared_row down_to down_sound c.args.amount ws _ (omega arith) (c.spread.ensures ∙ λ i. shares_of down_to (made.0 i) (g.S.Scale.weights (made.1 i)))
