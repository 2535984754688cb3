use Rattle.std.proofs.Common.{◌≡◌, ◌+◌, take}
use Rattle.book.specs.Limits.{most_total}
use Rattle.book.specs.Sound.{seller_total}
use Rattle.book.proofs.room.room_left.Given as goal

abbrev pub invariant-loop-contract : goal.invariant-loop-contract
invariant-loop-contract l = l.left + seller_total l.seller (take l.contract-index l.taken) + l.amount ≡ most_total
