-- What an agent sold and bought by the ledger, and that the numbers of the board are the true differences: none wraps.
use Rattle.std.specs.Prelude.{◌≡◌, ℕ, ◌≤◌, Bool, true, cond, ◌&&◌, List, length, ℤ, pos, ◌-ℤ◌, FitsSigned, ◌==◌, nat_eq}
use Rattle.std.specs.Int.{w64}
use Rattle.scale.specs.Weights.{weight_at}
use Rattle.entry.specs.declared.kinds.BySource.{BySource}
use Rattle.entry.specs.declared.kinds.Net.{Net}
use Rattle.entry.specs.Kinds.{Kind}
use Rattle.entry.specs.Meanings.{net_kind, net_value, by_source_kind, by_source_value}
use Rattle.ledger.specs.States.{State}
use Rattle.ledger.specs.Boards.{position_of}
use Rattle.ledger.specs.Past.{Event, Ledger, ledger, line_at, stands, quantities_in}
use Rattle.ledger.specs.Balance.{sum_to}
use Rattle.ledger.specs.Lives.{Lived}

-- the contracts that count: in force at the submarket, of a source that passes the test
abbrev pub counts : Ledger → (ℕ → Bool) → ℕ → ℕ → Bool
counts b test submarket i = stands (line_at b i) && ((line_at b i).fields.submarket == submarket && test (line_at b i).fields.source)

-- an agent's quantities at an hour, as a seller and as a buyer
abbrev pub sales_in : Ledger → (ℕ → Bool) → ℕ → ℕ → ℕ → ℕ
sales_in b test agent submarket hour = sum_to (length b.lines) (λ i.
    cond (counts b test submarket i && (line_at b i).fields.seller == agent) (weight_at (quantities_in b i) hour) 0)

abbrev pub purchases_in : Ledger → (ℕ → Bool) → ℕ → ℕ → ℕ → ℕ
purchases_in b test agent submarket hour = sum_to (length b.lines) (λ i.
    cond (counts b test submarket i && (line_at b i).fields.buyer == agent) (weight_at (quantities_in b i) hour) 0)

abbrev pub difference_in : Ledger → (ℕ → Bool) → ℕ → ℕ → ℕ → ℤ
difference_in b test agent submarket hour = pos (sales_in b test agent submarket hour) -ℤ pos (purchases_in b test agent submarket hour)

-- the entry that holds it: of all sources, or of each
abbrev pub net_difference : Ledger → ℕ → ℕ → ℕ → Net
net_difference b agent submarket hour = record { units = difference_in b (λ _. true) agent submarket hour }

abbrev pub by_source_difference : Ledger → ℕ → ℕ → ℕ → BySource
by_source_difference b agent submarket hour = record {
  conventional = difference_in b (nat_eq 0) agent submarket hour;
  incentivised = difference_in b (nat_eq 1) agent submarket hour;
}

-- what holds of every position in every life
abbrev pub AtEachPosition : {V : Type 0} → Kind V → (Ledger → V → ℕ → ℕ → ℕ → Type 0) → Type 0
AtEachPosition k holds = (past : List Event) (s : State _) → Lived k past s → (agent submarket hour : ℕ) →
    1 ≤ agent → agent ≤ s.sizes.agents → 1 ≤ submarket → submarket ≤ 4 → 1 ≤ hour → hour ≤ s.sizes.hours →
    holds (ledger past) (position_of k s agent submarket hour) agent submarket hour

-- a net entry there holds the difference of all sources
abbrev pub NetIsTrue : Type 0
NetIsTrue = AtEachPosition net_kind (λ b value agent submarket hour.
    (e : Net) → FitsSigned w64 e.units → net_value e ≡ value → e.units ≡ difference_in b (λ _. true) agent submarket hour)

-- an entry by source holds that of each source
abbrev pub BySourceIsTrue : Type 0
BySourceIsTrue = AtEachPosition by_source_kind (λ b value agent submarket hour.
    (e : BySource) → FitsSigned w64 e.conventional → FitsSigned w64 e.incentivised → by_source_value e ≡ value →
    (e.conventional ≡ difference_in b (nat_eq 0) agent submarket hour) × (e.incentivised ≡ difference_in b (nat_eq 1) agent submarket hour))
