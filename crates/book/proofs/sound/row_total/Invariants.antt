use Rattle.std.proofs.Common.{◌≡◌, ◌+◌, ◌*◌, ◌%◌, ◌≤◌, take, sum}
use Rattle.book.proofs.sound.row_total.Given as goal

abbrev pub invariant-loop-quantity : goal.invariant-loop-quantity
invariant-loop-quantity l =
    (l.all ≡ sum (take l.quantity-index l.row) % 4294967296)
    × (l.high * 65536 ≤ sum (take l.quantity-index l.row))
    × (sum (take l.quantity-index l.row) ≤ l.high * 65536 + 65535 * l.quantity-index)
    × (l.high ≤ 65535 * l.quantity-index)
