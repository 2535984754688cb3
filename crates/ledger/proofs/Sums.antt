-- Sums over the numbers below a bound.
use Rattle.std.proofs.Common.{◌≡◌, ℕ, zero, suc, ◌+◌, ◌<◌, ◌≤◌, List, length, get_or, take, sum_by, refl, ap, ◌∙◌, add-one, arith}
use Rattle.std.proofs.lemmas.List.{take_all}
use Rattle.std.proofs.lemmas.List.Sums.{sum_by_more}
use Rattle.ledger.specs.Balance.{sum_to}

pub sum_to_same : (n : ℕ) (f g : ℕ → ℕ) → ((i : ℕ) → i < n → f i ≡ g i) → sum_to n f ≡ sum_to n g
sum_to_same zero f g same = refl
sum_to_same (suc n) f g same = omega (arith, sum_to_same n f g (λ i h. same i (omega arith)), same n (omega arith))

-- over the elements of a list
pub sum_to_take : {X : Type 0} (f : X → ℕ) (xs : List X) (d : X) (n : ℕ) → n ≤ length xs → sum_to n (λ i. f (get_or xs i d)) ≡ sum_by f (take n xs)
sum_to_take f xs d zero h = refl
sum_to_take f xs d (suc n) h =
    let more : sum_by f (take (suc n) xs) ≡ sum_by f (take n xs) + f (get_or xs n d) = rw add-one at (sum_by_more f xs n d (omega arith)) in
    omega (arith, sum_to_take f xs d n (omega arith))

pub sum_to_list : {X : Type 0} (f : X → ℕ) (xs : List X) (d : X) (n : ℕ) → n ≡ length xs → sum_to n (λ i. f (get_or xs i d)) ≡ sum_by f xs
sum_to_list f xs d n e = sum_to_take f xs d n (omega arith) ∙ ap (sum_by f) (take_all n xs (omega arith))

-- a sum taken apart
pub sum_to_three : (n : ℕ) (all f g h : ℕ → ℕ) → ((i : ℕ) → i < n → all i ≡ f i + g i + h i) → sum_to n all ≡ sum_to n f + sum_to n g + sum_to n h
sum_to_three zero all f g h parts = refl
sum_to_three (suc n) all f g h parts = omega (arith, sum_to_three n all f g h (λ i less. parts i (omega arith)), parts n (omega arith))

pub sum_to_four : (n : ℕ) (all f g h k : ℕ → ℕ) → ((i : ℕ) → i < n → all i ≡ f i + g i + h i + k i)
    → sum_to n all ≡ sum_to n f + sum_to n g + sum_to n h + sum_to n k
sum_to_four zero all f g h k parts = refl
sum_to_four (suc n) all f g h k parts = omega (arith, sum_to_four n all f g h k (λ i less. parts i (omega arith)), parts n (omega arith))
