-- The state of a month: its numbers, and what the four memories hold.
use Rattle.std.specs.Prelude.{ℕ, ◌-◌, List, take, slice_index, slice_index_or}
use Rattle.book.specs.declared.contract.Contract.{Contract}
use Rattle.book.specs.declared.sizes.Sizes.{Sizes}
use Rattle.book.specs.Sound.{row_of}
use Rattle.book.specs.Terms.{blank}

-- The board is held by what its entries mean.
pub record State (V : Type 0) : Type 0 where
  pub sizes : Sizes
  pub taken : ℕ
  pub places : List Contract
  pub rows : List ℕ
  pub shortfalls : List ℕ
  pub board : List V

-- the contracts at the taken places, in place order
abbrev pub contracts : {V : Type 0} → State V → List Contract
contracts s = take s.taken s.places

-- the contract at a taken place, and its row; places count from 0 here
abbrev pub contract_at : {V : Type 0} → State V → ℕ → Contract
contract_at s i = slice_index_or (contracts s) i blank

abbrev pub row_at : {V : Type 0} → State V → ℕ → List ℕ
row_at s i = row_of s.sizes.hours s.rows i

-- the shortfall of an agent, who counts from 1
abbrev pub agent_shortfall : {V : Type 0} → State V → ℕ → ℕ
agent_shortfall s agent = slice_index s.shortfalls (agent - 1)
