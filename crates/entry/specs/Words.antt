-- Numbers that wrap at 64 bits: a word is what 64 bits keep of a number.
use Rattle.std.specs.Prelude.{ℕ, ◌+◌, ◌-◌, ◌%◌, ◌^◌, ℤ, pos, negsuc, ◌+ℤ◌}
use Prim.Native.Nat.{zero-le, suc-le-suc, Fin}
use Rattle.std.proofs.Common.{mod-lt}
use Rattle.entry.specs.Kinds.{Joins}

abbrev pub Word : Type 0
Word = Fin (2 ^ 64)

-- the word of a natural number
unfoldable pub word : ℕ → Word
word n = (n % 2 ^ 64, mod-lt n (suc-le-suc zero-le))

-- the word of an integer, in two's complement
abbrev pub word_of : ℤ → Word
word_of (pos n) = word n
word_of (negsuc n) = word (2 ^ 64 - 1 - n % 2 ^ 64)

abbrev pub plus : Word → Word → Word
plus x y = word (x.0 + y.0)

abbrev pub minus : Word → Word
minus x = word (2 ^ 64 - x.0)

-- two words side by side
abbrev pub Words : Type 0
Words = Word × Word

abbrev pub no_words : Words
no_words = (word 0, word 0)

abbrev pub plus_both : Words → Words → Words
plus_both x y = (plus x.0 y.0, plus x.1 y.1)

-- words join by their sums; so do numbers that never wrap
abbrev pub word_joins : Joins Word
word_joins = record { nothing = word 0; join = plus }

abbrev pub both_joins : Joins Words
both_joins = record { nothing = no_words; join = plus_both }

abbrev pub naturals : Joins ℕ
naturals = record { nothing = 0; join = ◌+◌ }

abbrev pub integers : Joins ℤ
integers = record { nothing = pos 0; join = ◌+ℤ◌ }
