-- Each part is written after the one before it.
use Rattle.std.proofs.Common.{rules}
use Rattle.page.proofs.Over.{then, front}
use Rattle.month.proofs.line.put_line.Goals as goal

pub returns : goal.returns
returns c =
    let w5 = then c.text-3.ensures.wrote (then c.number-3.ensures.wrote c.byte.ensures.wrote) in
    let w3 = then c.text-2.ensures.wrote (then c.number-2.ensures.wrote w5) in
    let line = front c.new-pen.ensures.front (then c.text.ensures.wrote (then c.number.ensures.wrote w3)) in
    search (rules, line)
