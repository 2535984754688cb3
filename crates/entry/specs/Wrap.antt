-- Words of numbers: their laws, sums and opposites, and that within limits nothing wraps. Assumes nothing.
use Rattle.std.specs.Prelude.{◌≡◌, ℕ, ◌+◌, ◌-◌, ◌%◌, ◌^◌, ◌<◌, ℤ, pos, negsuc, ◌+ℤ◌, neg_ℤ, FitsSigned, refl}
use Rattle.std.proofs.Common.{sym, ap, ◌∙◌, arith, to_z, of_z}
use native.Mathlib.Fin
use Rattle.std.specs.Int.{w64}
use mir.ValLaws.{of_z_fits}
use borrow.Author.Differences.{up, down, sum_is_lem, neg_is}
use Rattle.std.proofs.lemmas.Int.{ints, to_z-of_z, of_z-to_z}
use Rattle.entry.specs.Words.{Word, word, word_of, plus, minus, Words, no_words, plus_both, word_joins, both_joins}
use Rattle.entry.specs.Kinds.{Laws}

-- words of natural numbers
pub word_same : (m n : ℕ) → m % 2 ^ 64 ≡ n % 2 ^ 64 → word m ≡ word n
unfolding word
word_same m n e = Fin.val_path e

pub word_at : (n : ℕ) → (word n).0 ≡ n % 2 ^ 64
unfolding word
word_at n = refl

pub word_back : (x : Word) → word x.0 ≡ x
unfolding word
word_back x = Fin.val_path (let small : x.0 < 2 ^ 64 = x.1 in let e : x.0 % 2 ^ 64 ≡ x.0 = omega arith in e)

-- the laws of words
pub assoc : (x y z : Word) → plus (plus x y) z ≡ plus x (plus y z)
assoc x y z = word_same _ _ (omega (arith, word_at (x.0 + y.0), word_at (y.0 + z.0)))

pub comm : (x y : Word) → plus x y ≡ plus y x
comm x y = word_same _ _ (omega arith)

pub unit : (x : Word) → plus x (word 0) ≡ x
unit x = word_same _ _ (omega (arith, word_at 0)) ∙ word_back x

-- a word and its opposite join to nothing
pub cancels : (x : Word) → plus x (minus x) ≡ word 0
cancels x = let small : x.0 < 2 ^ 64 = x.1 in word_same _ _ (omega (arith, word_at (2 ^ 64 - x.0)))

-- and of two words side by side
pub assoc_both : (x y z : Words) → plus_both (plus_both x y) z ≡ plus_both x (plus_both y z)
assoc_both x y z = λ i. (assoc x.0 y.0 z.0 i, assoc x.1 y.1 z.1 i)

pub comm_both : (x y : Words) → plus_both x y ≡ plus_both y x
comm_both x y = λ i. (comm x.0 y.0 i, comm x.1 y.1 i)

pub unit_both : (x : Words) → plus_both x no_words ≡ x
unit_both x = λ i. (unit x.0 i, unit x.1 i)

pub word_laws : Laws word_joins
word_laws = record { assoc = assoc; comm = comm; unit = unit }

pub both_laws : Laws both_joins
both_laws = record { assoc = assoc_both; comm = comm_both; unit = unit_both }

-- a sum of words is the word of the sum
pub word_sum : (m n : ℕ) → word (m + n) ≡ plus (word m) (word n)
word_sum m n = word_same _ _ (omega (arith, word_at m, word_at n))

-- the word of an integer, told by naturals
pub of_at : (z : ℤ) → ((word_of z).0 + down z) % 2 ^ 64 ≡ up z % 2 ^ 64
of_at (pos n) = omega (arith, word_at n)
of_at (negsuc n) = omega (arith, word_at (2 ^ 64 - 1 - n % 2 ^ 64))

pub of_same : (m : ℕ) (z : ℤ) → (m + down z) % 2 ^ 64 ≡ up z % 2 ^ 64 → word m ≡ word_of z
of_same m (pos n) e = word_same _ _ (omega arith)
of_same m (negsuc n) e = word_same _ _ (omega arith)

pub of_sum : (a b : ℤ) → word_of (a +ℤ b) ≡ plus (word_of a) (word_of b)
of_sum a b = sym (of_same _ (a +ℤ b) (omega (arith, sum_is_lem a b, of_at a, of_at b)))

pub of_neg : (a : ℤ) → word_of (neg_ℤ a) ≡ minus (word_of a)
of_neg a = let small : (word_of a).0 < 2 ^ 64 = (word_of a).1 in sym (of_same _ (neg_ℤ a) (omega (arith, neg_is a, of_at a)))

pub of_alike : (a b : ℤ) → word_of a ≡ word_of b → word_of (neg_ℤ a) ≡ word_of (neg_ℤ b)
of_alike a b e = of_neg a ∙ ap minus e ∙ sym (of_neg b)

-- the word of a signed number is that of its bits
pub of_bits : (z : ℤ) → FitsSigned w64 z → word_of z ≡ word (of_z w64 z)
of_bits (pos n) f = refl
of_bits (negsuc n) f = word_same _ _ (let small : n < 2 ^ 63 = f.sfits in omega arith)

pub bits_of : (n : ℕ) → n < 2 ^ 64 → word_of (to_z w64 n) ≡ word n
bits_of n p = of_bits (to_z w64 n) (omega (arith, ints)) ∙ ap word (of_z-to_z w64 n p)

-- what the code's additions and negations answer
pub adds_bits : (m n : ℕ) → word ((m + n) % 2 ^ 64) ≡ plus (word m) (word n)
adds_bits m n = word_same _ _ (omega (arith, word_at m, word_at n))

pub adds : (a b : ℤ) → FitsSigned w64 a → FitsSigned w64 b → word_of (to_z w64 ((of_z w64 a + of_z w64 b) % 2 ^ 64)) ≡ plus (word_of a) (word_of b)
adds a b f g = bits_of _ (omega arith) ∙ word_same _ _ (omega (arith, word_at (of_z w64 a), word_at (of_z w64 b))) ∙ (λ i. plus (sym (of_bits a f) i) (sym (of_bits b g) i))

pub negates : (a r : ℤ) → FitsSigned w64 a → FitsSigned w64 r → r ≡ to_z w64 ((2 ^ 64 - of_z w64 (to_z w64 (of_z w64 a))) % 2 ^ 64) → word_of (to_z w64 (of_z w64 r)) ≡ minus (word_of a)
negates a r f g e = ap word_of (to_z-of_z w64 r g ∙ e ∙ ap (λ x. to_z w64 ((2 ^ 64 - of_z w64 x) % 2 ^ 64)) (to_z-of_z w64 a f)) ∙ bits_of _ (omega arith) ∙ word_same _ _ (omega (arith, ap (λ (x : Word). x.0) (of_bits a f), word_at (of_z w64 a), (of_z_fits w64 a f).fits))

-- within 64 bits nothing wraps: a number that means the word of z is z
pub of_exact : (a z : ℤ) → FitsSigned w64 a → FitsSigned w64 z → word_of a ≡ word_of z → a ≡ z
of_exact a z f g e = let same = ap (λ (x : Word). x.0) e in omega (arith, ints, of_at a, of_at z)

pub word_exact : (m n : ℕ) → m < 2 ^ 64 → n < 2 ^ 64 → word m ≡ word n → m ≡ n
word_exact m n p q e = let same = ap (λ (x : Word). x.0) e in omega (arith, word_at m, word_at n)
