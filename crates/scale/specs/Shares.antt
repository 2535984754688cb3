-- An amount shared over a list of weights, by a running total that is rounded.
use Rattle.std.specs.Prelude.{◌≡◌, ℕ, ◌+◌, ◌-◌, ◌*◌, ◌/◌, ◌<◌, ◌≤◌, List, [], ◌∷◌, length, take, drop, sum, Option, ◌==◌, nat_le}
use Rattle.scale.specs.Refusals.{Refusal, unless, first_of}
use Rattle.scale.specs.Totals.{limit, total_check}

-- what each part gets where `run w` is what all parts of the first w weights get together, and `before` is the weight before the list
abbrev pub shared_by : (ℕ → ℕ) → ℕ → List ℕ → List ℕ
shared_by run before [] = []
shared_by run before (w ∷ ws) = (run (before + w) - run before) ∷ shared_by run (before + w) ws

-- a rule says, of an amount and a total, what all parts of the first w weights get together
abbrev pub Rule : Type 0
Rule = ℕ → ℕ → ℕ → ℕ

-- rounded down
abbrev pub down_to : Rule
down_to q W w = q * w / W

-- the amount q shared over the weights
abbrev pub shares_of : Rule → ℕ → List ℕ → List ℕ
shares_of rule q ws = shared_by (rule q (sum ws)) 0 ws

-- the total of a run of n parts, past the first i
abbrev pub stretch : ℕ → ℕ → List ℕ → ℕ
stretch i n xs = sum (take n (drop i xs))

-- a and b differ by less than d
abbrev pub Within : ℕ → ℕ → ℕ → Type 0
Within d a b = (a < b + d) × (b < a + d)

-- what a rounding rule keeps to, at the amount q over the total W: the running total is q * w / W, a lead of less than one added, rounded down
pub record Running (q W : ℕ) (run : ℕ → ℕ) : Type 0 where
  pub lead : ℕ
  pub small : lead < W
  pub low : (w : ℕ) → run w * W ≤ q * w + lead
  pub high : (w : ℕ) → q * w + lead < run w * W + W

-- a rule that keeps to that, at every amount and every total
abbrev pub Sound : Rule → Type 0
Sound rule = (q W : ℕ) → 1 ≤ W → Running q W (rule q W)

-- a sound rule whose lead is the same at every amount and total
abbrev pub RoundsWith : ℕ → Rule → Type 0
RoundsWith lead rule = (q W : ℕ) → 1 ≤ W → (r : Running q W (rule q W)) × (r.lead ≡ lead)

-- the row holds the amount q shared over the weights: all of it, and every run of parts under one from its exact share (times the total)
pub record Shared (rule : Rule) (q : ℕ) (ws row : List ℕ) : Type 0 where
  pub parts : row ≡ shares_of rule q ws
  pub total : sum row ≡ q
  pub near : (i n : ℕ) → Within (sum ws) (stretch i n row * sum ws) (q * stretch i n ws)

-- the checks before the amount q is shared, and before it is shared over the weights into so many places
abbrev pub amount_check : ℕ → Option Refusal
amount_check q = unless (nat_le q limit) 4 1

abbrev pub share_check : ℕ → ℕ → List ℕ → Option Refusal
share_check q places ws = first_of (amount_check q ∷ unless (places == length ws) 11 0 ∷ total_check ws ∷ [])

-- the checks before one part is told
abbrev pub part_check : ℕ → List ℕ → Option Refusal
part_check q ws = first_of (amount_check q ∷ total_check ws ∷ [])
