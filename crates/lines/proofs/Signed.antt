-- How a signed number is written.
use Rattle.std.proofs.Common.{◌≡◌, ℤ, pos, negsuc, ◌<ℤ◌, ◌∷◌, decimal, nat_abs, refl, arith}
use borrow.Author.Differences.{ints}
use Rattle.std.specs.Fmt.{signed_decimal}

pub minus : (z : ℤ) → z <ℤ pos 0 → signed_decimal z ≡ 45 ∷ decimal (nat_abs z)
minus (pos n) below = absurd (omega (arith, ints))
minus (negsuc n) below = refl

pub plain : (z : ℤ) → (z <ℤ pos 0 → ⊥) → signed_decimal z ≡ decimal (nat_abs z)
plain (pos n) not_below = refl
plain (negsuc n) not_below = absurd (not_below (omega (arith, ints)))
