-- What an agent sold and bought in the month, by the ledger.
use Rattle.std.specs.Prelude.{ℕ, cond, ◌&&◌, List, length, ◌==◌}
use Rattle.entry.specs.Kinds.{Kind, Laws, joins}
use Rattle.book.specs.declared.contract.Offer.{Offer}
use Rattle.ledger.specs.States.{State}
use Rattle.ledger.specs.Past.{Event, Ledger, line_at, stands, effective_in}
use Rattle.ledger.specs.Balance.{sum_to}
use Rattle.ledger.specs.Lives.{Lived}

-- the effective amounts of the contracts in force in which the agent has a part
abbrev pub amounts_of : (Offer → ℕ) → Ledger → ℕ → ℕ
amounts_of part b agent = sum_to (length b.lines) (λ i. cond (stands (line_at b i) && part (line_at b i).fields == agent) (effective_in b i) 0)

abbrev pub amount_sold : Ledger → ℕ → ℕ
amount_sold = amounts_of (λ o. o.seller)

abbrev pub amount_bought : Ledger → ℕ → ℕ
amount_bought = amounts_of (λ o. o.buyer)

-- P of every past that leads to this state, on a board of whatever lawful kind
abbrev pub OfEveryLife : {V : Type 0} → State V → (List Event → Type 0) → Type 0
OfEveryLife {V} s P = (k : Kind V) → Laws (joins k) → (past : List Event) → Lived k past s → P past
