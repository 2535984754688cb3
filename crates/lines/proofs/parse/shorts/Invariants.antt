use Rattle.std.proofs.Common.{◌≡◌, ℕ, ◌^◌, ◌<◌, get_or, take}
use Rattle.lines.proofs.parse.shorts.Given as goal

abbrev pub invariant-loop-n : goal.invariant-loop-n
invariant-loop-n g l = (l.shorts.items ≡ take l.n-index l.numbers) × ((k : ℕ) → k < l.n-index → get_or l.numbers k 0 < 2 ^ 16)
