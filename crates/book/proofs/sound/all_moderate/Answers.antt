use Rattle.std.proofs.Common.{◌≤◌, get_or, rules, IsTrue, ◌↔◌, EachIndex}
use Rattle.book.specs.Limits.{most_total}
use Rattle.book.proofs.Passing.{moderate_told}
use Rattle.book.proofs.sound.all_moderate.Goals as goal

pub returns : goal.returns
returns c =
    let each : IsTrue c.all.result ↔ EachIndex c.args.shortfalls.now (λ k. get_or c.args.shortfalls.now k 0 ≤ most_total) = search rules in
    moderate_told _ _ each
