-- What the code's negation of a number of 64 bits means: the opposite, which joins with the number to nothing.
use Rattle.std.proofs.Common.{◌≡◌, ◌-◌, ◌%◌, ◌^◌, ℤ, neg_ℤ, of_z, to_z, sym, ap, ◌∙◌, w64, SFits}
use Rattle.entry.specs.Words.{Word, word, word_of, plus}
use Rattle.entry.specs.Wrap.{negates, of_neg, cancels}

pub record Opposes (a : ℤ) (w : Word) : Type 0 where
  pub is : w ≡ word_of (neg_ℤ a)
  pub cancels : plus (word_of a) w ≡ word 0

pub opposes : (a r : ℤ) → SFits w64 a → SFits w64 r → r ≡ to_z w64 ((2 ^ 64 - of_z w64 (to_z w64 (of_z w64 a))) % 2 ^ 64) → Opposes a (word_of (to_z w64 (of_z w64 r)))
opposes a r f g e =
    let minus = negates a r f g e in
    record { is = minus ∙ sym (of_neg a); cancels = ap (plus (word_of a)) minus ∙ cancels (word_of a) }
