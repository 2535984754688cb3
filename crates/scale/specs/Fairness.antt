-- What is wanted of a way to share an amount over a list of weights.
use Rattle.std.specs.Prelude.{◌≡◌, ℕ, ◌*◌, ◌≤◌, List, sum}
use Rattle.scale.specs.Shares.{Rule, Sound, Within, shares_of, stretch}

-- `total` and `near`: the parts total the amount, and each run of parts lies under one from its exact share.
-- `again`: what is left of an amount, shared over the row of the whole, lies under two from its exact share of the weights.
-- `whole`: where all is left, it is that row again, so under one.
pub record Fair (share : ℕ → List ℕ → List ℕ) : Type 0 where
  pub total : (q : ℕ) (ws : List ℕ) → 1 ≤ sum ws → sum (share q ws) ≡ q
  pub near : (q : ℕ) (ws : List ℕ) → 1 ≤ sum ws → (i n : ℕ) → Within (sum ws) (stretch i n (share q ws) * sum ws) (q * stretch i n ws)
  pub again : (q e : ℕ) (ws : List ℕ) → 1 ≤ sum ws → 1 ≤ q → e ≤ q → (i n : ℕ) →
      Within (2 * sum ws) (stretch i n (share e (share q ws)) * sum ws) (e * stretch i n ws)
  pub whole : (q : ℕ) (ws : List ℕ) → 1 ≤ sum ws → 1 ≤ q → share q (share q ws) ≡ share q ws
  pub whole_near : (q : ℕ) (ws : List ℕ) → 1 ≤ sum ws → 1 ≤ q → (i n : ℕ) →
      Within (sum ws) (stretch i n (share q (share q ws)) * sum ws) (q * stretch i n ws)

abbrev pub SoundIsFair : Type 0
SoundIsFair = (rule : Rule) → Sound rule → Fair (shares_of rule)

-- by every sound rule, runs of shares lie under `whole` from their exact share, and those of what is left, shared over the row of the whole, under `cut`
pub record Bounds (whole cut : ℕ) : Type 0 where
  pub of_whole : (rule : Rule) → Sound rule → (q : ℕ) (ws : List ℕ) → 1 ≤ sum ws → (i n : ℕ) →
      Within (whole * sum ws) (stretch i n (shares_of rule q ws) * sum ws) (q * stretch i n ws)
  pub of_cut : (rule : Rule) → Sound rule → (q e : ℕ) (ws : List ℕ) → 1 ≤ sum ws → 1 ≤ q → e ≤ q → (i n : ℕ) →
      Within (cut * sum ws) (stretch i n (shares_of rule e (shares_of rule q ws)) * sum ws) (e * stretch i n ws)
