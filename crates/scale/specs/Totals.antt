-- The total of a list of weights, and when it is refused.
use Rattle.std.specs.Prelude.{◌≡◌, ℕ, suc, ◌+◌, ◌<◌, ◌≤◌, cond, List, [], ◌∷◌, length, take, Some, sum, Option, nat_le}
use Rattle.scale.specs.Refusals.{Refusal, refusal, unless, first_of}

-- the largest total, and the largest amount that is shared
abbrev pub limit : ℕ
limit = 2000000000

-- how many parts it takes until a running total that stands at `before` passes the limit
abbrev pub passed_at : ℕ → List ℕ → ℕ
passed_at before [] = 1
passed_at before (w ∷ ws) = cond (nat_le (before + w) limit) (suc (passed_at (before + w) ws)) 1

-- a scale's total is refused where it weighs nothing, and where it passes the limit, at the part where it does
abbrev pub total_check : List ℕ → Option Refusal
total_check ws = first_of (unless (nat_le 1 (sum ws)) 12 0 ∷ unless (nat_le (sum ws) limit) 13 (passed_at 0 ws) ∷ [])

-- the running total passes the limit at part p, and at no part before
pub record Passes (ws : List ℕ) (p : ℕ) : Type 0 where
  pub first : 1 ≤ p
  pub last : p ≤ length ws
  pub before : (j : ℕ) → j < p → sum (take j ws) ≤ limit
  pub at : limit < sum (take p ws)

-- what the check tells, in both directions
pub record Told (ws : List ℕ) : Type 0 where
  pub weightless : total_check ws ≡ Some (refusal 12 0) → sum ws ≡ 0
  pub empty : sum ws ≡ 0 → total_check ws ≡ Some (refusal 12 0)
  pub heavy : (p : ℕ) → total_check ws ≡ Some (refusal 13 p) → Passes ws p
  pub passing : (p : ℕ) → Passes ws p → total_check ws ≡ Some (refusal 13 p)
