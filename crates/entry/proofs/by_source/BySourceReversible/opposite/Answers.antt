use Rattle.std.proofs.Common.{rules}
use Rattle.entry.proofs.Opposites.{opposes}
use Rattle.entry.proofs.by_source.BySourceReversible.opposite.Goals as goal

pub returns : goal.returns
returns c =
    let first = opposes c.args.self.conventional c.wrapping_neg.result (search rules) (search rules) c.wrapping_neg.ensures in
    let second = opposes c.args.self.incentivised c.wrapping_neg-2.result (search rules) (search rules) c.wrapping_neg-2.ensures in
    record { is = λ i. (first.is i, second.is i); cancels = λ i. (first.cancels i, second.cancels i) }
