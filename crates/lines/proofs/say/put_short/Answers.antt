use Rattle.std.proofs.Common.{◌/◌, arith}
use Rattle.std.proofs.lemmas.Fmt.{decimal_digit, decimal_step}
use Rattle.page.proofs.Over.{then}
use Rattle.lines.proofs.say.put_short.Goals as goal

pub returns-then-n-lt10-clause-wrote : goal.returns-then-n-lt10-clause-wrote
returns-then-n-lt10-clause-wrote c = rw (decimal_digit c.args.n (omega arith)) c.byte.ensures.wrote

pub returns-else-n-lt10-clause-wrote : goal.returns-else-n-lt10-clause-wrote
returns-else-n-lt10-clause-wrote c =
    rw (decimal_step c.args.n (omega arith) (omega arith), decimal_digit (c.args.n / 10) (omega arith)) (then c.byte-else-n-lt10.ensures.wrote c.byte-else-n-lt10-2.ensures.wrote)
