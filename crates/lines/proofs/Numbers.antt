-- What a written number looks like.
use Rattle.std.proofs.Common.{◌≡◌, ℕ, zero, suc, ◌+◌, ◌*◌, ◌^◌, ◌<◌, ◌≤◌, List, [], ◌∷◌, length, get_or, take, decimal, inl, inr, sym, ap, ◌∙◌, arith}
use Rattle.std.proofs.Math.Nat.{eq-or-lt_of_le}
use Rattle.std.specs.Char.{digit_value}
use Rattle.std.specs.Int.{IsInRange}
use Rattle.std.specs.Str.Parse.{AllDigits, digits_value}
use Rattle.std.proofs.lemmas.Str.Parse.{IsNumeralModel, numerals_by_value, tells_digits, digit_at, digits_value-take-le}
use Rattle.std.proofs.lemmas.Int.Digits.{digits_value_more}
use Rattle.std.proofs.lemmas.Str.{digit_value_digit}
use Rattle.std.proofs.lemmas.Fmt.{decimal_nonempty, decimal_digit, digits_decimal, digits_value-decimal, first_decimal, decimal-digits_value}

own : IsNumeralModel (AllDigits 10) (digits_value 10)
own = numerals_by_value _ tells_digits

pub digits_all : (n : ℕ) → n < 2 ^ 64 → (i : ℕ) → i < length (decimal n) → IsInRange 48 57 (get_or (decimal n) i 0)
digits_all n small i h = digit_at (decimal n) i (digits_decimal own n small) h

-- the first k bytes are digits
abbrev pub Digits : List ℕ → ℕ → Type 0
Digits bs k = (i : ℕ) → i < k → digit_value (get_or bs i 0) < 10

pub one_more : (bs : List ℕ) (k : ℕ) → Digits bs k → digit_value (get_or bs k 0) < 10 → Digits bs (k + 1)
one_more bs k h digit i l = elim (eq-or-lt_of_le {n = i} {m = k} (omega arith)) [ inl is ↦ rw is digit | inr less ↦ h i less ]

all_digits : (bs : List ℕ) → Digits bs (length bs) → AllDigits 10 bs
all_digits [] h = tt
all_digits (b ∷ bs) h = (h 0 (omega arith), all_digits bs (λ i l. h (suc i) (omega arith)))

-- digits with no zero in front are what the number that they write is written as
pub are_decimal : (bs : List ℕ) → Digits bs (length bs) → 0 < length bs → (get_or bs 0 0 ≡ 48 → length bs ≤ 1) → digits_value 10 bs < 2 ^ 64 → bs ≡ decimal (digits_value 10 bs)
are_decimal bs digits some lead small = sym (decimal-digits_value own bs (all_digits bs digits) some (λ z. omega (arith, lead z)) small)

module _ (bs : List ℕ) (n : ℕ) (small : n < 2 ^ 64) (e : bs ≡ decimal n) where
  pub not_empty : length bs ≡ 0 → ⊥
  not_empty z = omega (arith, decimal_nonempty n small, ap length e)

  pub is_digit : Digits bs (length bs)
  is_digit = rw e (λ i l. let k = digits_all n small i l in omega (arith, digit_value_digit (get_or (decimal n) i 0) k))

  value : digits_value 10 bs ≡ n
  value = ap (digits_value 10) e ∙ digits_value-decimal own n small

  -- what is read with one digit more is no larger than the number
  pub so_far : (i : ℕ) → i < length bs → digits_value 10 (take i bs) * 10 + digit_value (get_or bs i 0) < 2 ^ 64
  so_far i l = omega (arith, digits_value_more 10 bs i l, digits_value-take-le 10 bs (i + 1) (omega arith), value)

pub no_zero_first : (bs : List ℕ) (n : ℕ) → n < 2 ^ 64 → bs ≡ decimal n → get_or bs 0 0 ≡ 48 → 1 < length bs → ⊥
no_zero_first bs zero small e z long = omega (arith, ap length (e ∙ decimal_digit 0 (omega arith)))
no_zero_first bs (suc n) small e z long = omega (arith, first_decimal (suc n) (omega arith) small, ap (λ (l : List ℕ). get_or l 0 0) e)
