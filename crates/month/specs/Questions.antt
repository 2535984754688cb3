-- What the questions answer.
use Rattle.std.specs.Prelude.{◌≡◌, ℕ, ◌+◌, ◌-◌, ◌*◌, cond, ◌&&◌, List, sum_by, ◌==◌}
use Rattle.scale.specs.Shares.{shares_of}
use Rattle.scale.specs.Weights.{weight_at}
use Rattle.entry.specs.Kinds.{Kind}
use Rattle.book.specs.declared.contract.Contract.{Contract}
use Rattle.book.specs.declared.sizes.Sizes.{Sizes}
use Rattle.book.specs.States.{in_force}
use Rattle.board.specs.Lanes.{lane}
use Rattle.ledger.specs.Lives.{Lived}
use Rattle.ledger.specs.Past.{Event}
use Rattle.ledger.specs.Calls.{rounding}
use Rattle.ledger.specs.States.{State, contracts, contract_at, row_at}
use Rattle.month.specs.Line.{certificate_line}

-- where an agent's entry at a submarket and hour stands on the board, all from 1
abbrev pub entry_index : Sizes → ℕ → ℕ → ℕ → ℕ
entry_index sizes agent submarket hour = lane agent submarket * sizes.hours + (hour - 1)

-- the effective amount of a contract in force that the agent sells, or buys
abbrev pub sold_in : ℕ → Contract → ℕ
sold_in agent c = cond (in_force c && c.terms.seller == agent) c.effective 0

abbrev pub bought_in : ℕ → Contract → ℕ
bought_in agent c = cond (in_force c && c.terms.buyer == agent) c.effective 0

-- an agent's turnover: what its contracts in force come to, sold and bought
abbrev pub sold : ℕ → List Contract → ℕ
sold agent cs = sum_by (sold_in agent) cs

abbrev pub bought : ℕ → List Contract → ℕ
bought agent cs = sum_by (bought_in agent) cs

-- the certificate line of an agent, from the month's contracts
abbrev pub certified : {V : Type 0} → State V → ℕ → List ℕ
certified s agent = certificate_line agent (sold agent (contracts s)) (bought agent (contracts s))

-- P of the past of every life of a month with these sizes and this board
abbrev pub InEveryLife : {V : Type 0} → Kind V → Sizes → List V → (List Event → Type 0) → Type 0
InEveryLife {V} k sizes board P = (past : List Event) (s : State V) → Lived k past s → s.sizes ≡ sizes → s.board ≡ board → P past

-- the quantity at an hour, from 1, of the contract that a number is looked up as
abbrev pub quantity_at : {V : Type 0} → State V → ℕ → ℕ → ℕ
quantity_at s place hour = weight_at (shares_of rounding (contract_at s (place - 1)).effective (row_at s (place - 1))) hour
