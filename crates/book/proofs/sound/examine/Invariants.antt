use Rattle.std.proofs.Common.{◌≡◌, ℕ, ◌*◌, ◌≤◌, get_or, take, drop}
use Rattle.scale.specs.Refusals.{first_of}
use Rattle.book.specs.Limits.{most_total}
use Rattle.book.specs.Sound.{place_checks, seller_total}
use Rattle.book.proofs.sound.examine.Given as goal

abbrev pub invariant-loop-i : goal.invariant-loop-i
invariant-loop-i l =
    (l.rest ≡ drop (l.i * l.sizes.hours) l.rows)
    × (first_of (place_checks l.sizes l.taken l.rows l.i (drop l.i l.taken)) ≡ first_of (place_checks l.sizes l.taken l.rows 0 l.taken))
    × ((s : ℕ) → s ≤ 64 → get_or l.totals s 0 ≡ seller_total s (take l.i l.taken))
    × ((s : ℕ) → s ≤ 64 → get_or l.totals s 0 ≤ most_total)
