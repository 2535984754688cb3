-- What it means that a month balances with its past.
use Rattle.std.specs.Prelude.{◌≡◌, ℕ, zero, suc, ◌+◌, ◌-◌, ◌*◌, ◌<◌, ◌≤◌, min, Bool, true, cond, ◌&&◌, List, [], ◌∷◌, ◌++◌, length, sum, ◌==◌, nat_eq, nat_le}
use Rattle.scale.specs.Shares.{Within, stretch, shares_of}
use Rattle.entry.specs.Kinds.{Kind, joins, up_to}
use Rattle.book.specs.declared.contract.Offer.{Offer}
use Rattle.book.specs.States.{in_force}
use Rattle.book.specs.Terms.{fields}
use Rattle.ledger.specs.States.{State, contract_at, row_at}
use Rattle.ledger.specs.Boards.{position_of}
use Rattle.ledger.specs.Calls.{rounding}
use Rattle.ledger.specs.Past.{Event, Ledger, ledger, line_at, stands, effective_in, quantities_in, position_in}

-- A contract in force as it is compared: its nine fields, its effective amount and its quantities at every hour.
pub record Standing : Type 0 where
  pub fields : Offer
  pub effective : ℕ
  pub quantities : List ℕ

-- f at each number below n that passes the test, in order
abbrev pub collect : {X : Type 0} → ℕ → (ℕ → Bool) → (ℕ → X) → List X
collect zero test f = []
collect (suc n) test f = collect n test f ++ cond (test n) (f n ∷ []) []

-- the contracts in force in place order: as the memories have them, and as the ledger has them
abbrev pub standings : {V : Type 0} → State V → List Standing
standings s = collect s.taken (λ i. in_force (contract_at s i)) (λ i. record {
  fields = fields (contract_at s i).terms;
  effective = (contract_at s i).effective;
  quantities = shares_of rounding (contract_at s i).effective (row_at s i);
})

abbrev pub standings_in : Ledger → List Standing
standings_in b = collect (length b.lines) (λ i. stands (line_at b i)) (λ i. record {
  fields = (line_at b i).fields;
  effective = effective_in b i;
  quantities = quantities_in b i;
})

-- the sum of f at the numbers below n
abbrev pub sum_to : ℕ → (ℕ → ℕ) → ℕ
sum_to zero f = 0
sum_to (suc n) f = sum_to n f + f n

-- over a seller's contracts in force that pass a test on their class: the amounts, and what is cut off them
abbrev pub amounts_in : Ledger → ℕ → (ℕ → Bool) → ℕ
amounts_in b seller test = sum_to (length b.lines) (λ i.
    cond (stands (line_at b i) && ((line_at b i).fields.seller == seller && test (line_at b i).fields.class)) (line_at b i).fields.amount 0)

abbrev pub cuts_in : Ledger → ℕ → (ℕ → Bool) → ℕ
cuts_in b seller test = sum_to (length b.lines) (λ i.
    cond (stands (line_at b i) && ((line_at b i).fields.seller == seller && test (line_at b i).fields.class)) ((line_at b i).fields.amount - effective_in b i) 0)

-- The quantities of a contract in force: they total its effective amount, and every run of hours lies under two kWh from its
-- exact share of the clipped weights, under one if nothing is cut. Distances are compared after multiplying by the weights' total.
pub record Delivered (b : Ledger) (i : ℕ) : Type 0 where
  pub total : sum (quantities_in b i) ≡ effective_in b i
  pub most : effective_in b i ≤ (line_at b i).fields.amount
  pub near : (first count : ℕ) → Within (2 * sum (line_at b i).weights)
      (stretch first count (quantities_in b i) * sum (line_at b i).weights) (effective_in b i * stretch first count (line_at b i).weights)
  pub uncut : effective_in b i ≡ (line_at b i).fields.amount → (first count : ℕ) → Within (sum (line_at b i).weights)
      (stretch first count (quantities_in b i) * sum (line_at b i).weights) (effective_in b i * stretch first count (line_at b i).weights)

pub record Balanced {V : Type 0} (k : Kind V) (past : List Event) (s : State V) : Type 0 where
  -- the positions of all agents cancel at each submarket and hour
  pub cancels : (submarket hour : ℕ) → 1 ≤ submarket → submarket ≤ 4 → 1 ≤ hour → hour ≤ s.sizes.hours →
      up_to (joins k) s.sizes.agents (λ a. position_of k s (suc a) submarket hour) ≡ k.nothing
  -- each position is what was sold less what was bought, by the ledger
  pub positions : (agent submarket hour : ℕ) → 1 ≤ agent → agent ≤ s.sizes.agents → 1 ≤ submarket → submarket ≤ 4 → 1 ≤ hour → hour ≤ s.sizes.hours →
      position_of k s agent submarket hour ≡ position_in k (ledger past) agent submarket hour
  -- the contracts in force, their effective amounts and quantities are the ledger's
  pub contracts : standings s ≡ standings_in (ledger past)
  pub delivered : (i : ℕ) → i < length (ledger past).lines → stands (line_at (ledger past) i) ≡ true → Delivered (ledger past) i
  -- a seller's cuts come to the lesser of its shortfall and its amounts in classes 1 to 3, class after class
  pub cuts : (seller : ℕ) → cuts_in (ledger past) seller (λ c. true) ≡ min ((ledger past).shortfall seller) (amounts_in (ledger past) seller (λ c. nat_le c 3))
  pub in_turn : (seller class earlier : ℕ) → 1 ≤ earlier → earlier < class →
      0 < cuts_in (ledger past) seller (nat_eq class) → cuts_in (ledger past) seller (nat_eq earlier) ≡ amounts_in (ledger past) seller (nat_eq earlier)
