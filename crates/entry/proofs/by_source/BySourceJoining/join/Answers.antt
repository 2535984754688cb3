use Rattle.std.proofs.Common.{rules}
use Rattle.entry.specs.Wrap.{adds}
use Rattle.entry.proofs.by_source.BySourceJoining.join.Goals as goal

pub returns : goal.returns
returns c =
    let a = c.args.self in
    let b = c.args.other in
    let first = adds a.conventional b.conventional (search rules) (search rules) in
    let second = adds a.incentivised b.incentivised (search rules) (search rules) in
    λ i. (first i, second i)
