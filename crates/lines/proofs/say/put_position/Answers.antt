use Rattle.std.proofs.Common.{◌≡◌, nat_abs, arith, rules}
use borrow.Author.Differences.{ints}
use Rattle.page.proofs.Over.{then}
use Rattle.lines.proofs.Signed.{minus, plain}
use Rattle.lines.proofs.say.put_position.Goals.{then-kwh-lt0, else-kwh-lt0}
use Rattle.lines.proofs.say.put_position.Goals as goal

pub returns-after-kwh-lt0-clause-wrote : goal.returns-after-kwh-lt0-clause-wrote
returns-after-kwh-lt0-clause-wrote c =
    let abs : c.unsigned_abs.result ≡ nat_abs c.args.kwh = search (rules, c.unsigned_abs.ensures.value) in
    let digits = rw abs at c.put_short.ensures.wrote in
    elim c.if-kwh-lt0.branch [
      | then-kwh-lt0 w ↦ rw (minus c.args.kwh (omega (arith, ints))) (then w.byte.ensures.wrote (rw w.pen-is at digits))
      | else-kwh-lt0 w ↦ rw (plain c.args.kwh (λ below. omega (arith, ints))) (rw w.pen-is at digits)
    ]
