-- Within 64 bits nothing wraps: totals of words are words of totals, and an entry that means the word of a number holds that number. Assumes nothing.
use Rattle.std.proofs.Common.{◌≡◌, ℕ, zero, suc, ◌*◌, ◌^◌, ◌<◌, ◌≤◌, ℤ, pos, neg_ℤ, sym, refl, ap, ◌∙◌, suc-mul, arith, w64, SFits}
use lib.IntN.{neg_ℤ-+ℤ, +ℤ_assoc, +ℤ_comm, +ℤ_idr}
use Rattle.entry.specs.declared.kinds.Net.{Net}
use Rattle.entry.specs.declared.kinds.BySource.{BySource}
use Rattle.entry.specs.declared.kinds.Turnover.{Turnover}
use Rattle.entry.specs.Kinds.{Joins, Laws, up_to}
use Rattle.entry.specs.Words.{Word, word, word_of, Words, word_joins, both_joins, naturals, integers}
use Rattle.entry.specs.Meanings.{net_value, by_source_value, turnover_value}
use Rattle.entry.specs.Wrap.{word_sum, of_sum, word_exact, of_exact}

-- a map that keeps nothing and joins keeps totals
pub up_maps : {V W : Type 0} (j : Joins V) (k : Joins W) (h : V → W) → h j.nothing ≡ k.nothing → ((x y : V) → h (j.join x y) ≡ k.join (h x) (h y))
    → (n : ℕ) (f : ℕ → V) → up_to k n (λ i. h (f i)) ≡ h (up_to j n f)
up_maps j k h none both zero f = sym none
up_maps j k h none both (suc n) f = ap (λ x. k.join x (h (f n))) (up_maps j k h none both n f) ∙ sym (both (up_to j n f) (f n))

-- the join of words is the word of the sum
pub up_words : (n : ℕ) (f : ℕ → ℤ) → up_to word_joins n (λ i. word_of (f i)) ≡ word_of (up_to integers n f)
up_words n f = up_maps integers word_joins word_of refl of_sum n f

pub up_word : (n : ℕ) (f : ℕ → ℕ) → up_to word_joins n (λ i. word (f i)) ≡ word (up_to naturals n f)
up_word n f = up_maps naturals word_joins word refl word_sum n f

pub up_both : (n : ℕ) (f f' : ℕ → Word) → up_to both_joins n (λ i. (f i, f' i)) ≡ (up_to word_joins n f, up_to word_joins n f')
up_both zero f f' = refl
up_both (suc n) f f' = ap (λ (x : Words). both_joins.join x (f n, f' n)) (up_both n f f')

-- sums of integers
pub natural_laws : Laws naturals
natural_laws = record { assoc = λ x y z. omega arith; comm = λ x y. omega arith; unit = λ x. omega arith }

pub integer_laws : Laws integers
integer_laws = record { assoc = +ℤ_assoc; comm = +ℤ_comm; unit = +ℤ_idr }

pub up_pos : (n : ℕ) (f : ℕ → ℕ) → up_to integers n (λ i. pos (f i)) ≡ pos (up_to naturals n f)
up_pos n f = up_maps naturals integers pos refl (λ x y. refl) n f

pub up_neg : (n : ℕ) (f : ℕ → ℤ) → up_to integers n (λ i. neg_ℤ (f i)) ≡ neg_ℤ (up_to integers n f)
up_neg n f = up_maps integers integers neg_ℤ refl neg_ℤ-+ℤ n f

pub up_at_most : (b n : ℕ) (f : ℕ → ℕ) → ((i : ℕ) → i < n → f i ≤ b) → up_to naturals n f ≤ n * b
up_at_most b zero f le = omega arith
up_at_most b (suc n) f le = omega (arith, suc-mul n b, up_at_most b n f (λ i p. le i (omega arith)), le n (omega arith))

-- what an entry holds
pub net_exact : (e : Net) (z : ℤ) → SFits w64 e.units → SFits w64 z → net_value e ≡ word_of z → e.units ≡ z
net_exact e z f g is = of_exact e.units z f g is

pub by_source_exact : (e : BySource) (a b : ℤ) → SFits w64 e.conventional → SFits w64 e.incentivised → SFits w64 a → SFits w64 b
    → by_source_value e ≡ (word_of a, word_of b) → (e.conventional ≡ a) × (e.incentivised ≡ b)
by_source_exact e a b f f' g g' is =
    (of_exact e.conventional a f g (ap (λ (w : Words). w.0) is), of_exact e.incentivised b f' g' (ap (λ (w : Words). w.1) is))

pub turnover_exact : (e : Turnover) (m n : ℕ) → e.sold < 2 ^ 64 → e.bought < 2 ^ 64 → m < 2 ^ 64 → n < 2 ^ 64
    → turnover_value e ≡ (word m, word n) → (e.sold ≡ m) × (e.bought ≡ n)
turnover_exact e m n f f' g g' is =
    (word_exact e.sold m f g (ap (λ (w : Words). w.0) is), word_exact e.bought n f' g' (ap (λ (w : Words). w.1) is))
