-- What stands on the board, and what contracts put there.
use Rattle.std.specs.Prelude.{◌≡◌, ℕ, ◌-◌, ◌*◌, ◌<◌, Bool, true, false, cond, ◌&&◌, List, length, ◌==◌, slice_index}
use Rattle.entry.specs.Kinds.{Kind, Cancels, joins, up_to}
use Rattle.board.specs.Lanes.{lane}
use Rattle.board.specs.Moves.{cell, share}
use Rattle.scale.specs.Shares.{Rule, shares_of}
use Rattle.book.specs.declared.contract.Contract.{Contract}
use Rattle.book.specs.States.{in_force}
use Rattle.ledger.specs.States.{State, contract_at, row_at}

-- an agent's position at a submarket and hour, all from 1
abbrev pub position_of : {V : Type 0} → Kind V → State V → ℕ → ℕ → ℕ → V
position_of k s agent submarket hour = cell k s.sizes.hours s.board (lane agent submarket) (hour - 1)

-- the lanes of a contract's seller and buyer
abbrev pub seller_lane : Contract → ℕ
seller_lane c = lane c.terms.seller c.terms.submarket

abbrev pub buyer_lane : Contract → ℕ
buyer_lane c = lane c.terms.buyer c.terms.submarket

-- the quantity of a contract at an hour, from 0: its effective amount shared over its row
abbrev pub quantity_of : Rule → Contract → List ℕ → ℕ → ℕ
quantity_of rule c row hour = slice_index (shares_of rule c.effective row) hour

-- what a contract in force puts on a lane at an hour, and what takes it off again
abbrev pub puts : {V : Type 0} → Kind V → Rule → Contract → List ℕ → ℕ → ℕ → V
puts k rule c row l hour = cond (in_force c) (share k (seller_lane c) (buyer_lane c) c.terms.source (quantity_of rule c row hour) l) k.nothing

abbrev pub takes_off : {V : Type 0} → Kind V → Rule → Contract → List ℕ → ℕ → ℕ → V
takes_off k rule c row l hour = cond (in_force c) (share k (buyer_lane c) (seller_lane c) c.terms.source (quantity_of rule c row hour) l) k.nothing

-- a contract in force before and after with the same effective amount: its quantities are the same
abbrev pub stays : Contract → Contract → Bool
stays old new = in_force old && (in_force new && old.effective == new.effective)

-- what a place puts on a lane at an hour as its contract changes: the old quantity is taken off, the new one added
abbrev pub changes : {V : Type 0} → Kind V → Rule → Contract → List ℕ → Contract → List ℕ → ℕ → ℕ → V
changes k rule old old_row new new_row l hour =
    cond (stays old new) k.nothing (k.join (takes_off k rule old old_row l hour) (puts k rule new new_row l hour))

-- each quantity of a contract in force cancels with its opposite
abbrev pub AllCancel : {V : Type 0} → Kind V → Rule → ℕ → Contract → List ℕ → Type 0
AllCancel k rule hours c row = in_force c ≡ true → (hour : ℕ) → hour < hours → Cancels k (quantity_of rule c row hour) c.terms.source

-- The board of one state became that of the next by exactly the old quantities taken off and the new ones added,
-- place after place. What was moved is known to cancel.
pub record Revised {V : Type 0} (k : Kind V) (rule : Rule) (s t : State V) : Type 0 where
  pub long : length t.board ≡ length s.board
  pub cells : (l hour : ℕ) → l < s.sizes.agents * 4 → hour < s.sizes.hours →
      cell k s.sizes.hours t.board l hour
      ≡ k.join (cell k s.sizes.hours s.board l hour)
      (up_to (joins k) s.taken (λ i. changes k rule (contract_at s i) (row_at s i) (contract_at t i) (row_at t i) l hour))
  pub cancels : (i : ℕ) → i < s.taken → stays (contract_at s i) (contract_at t i) ≡ false →
      AllCancel k rule s.sizes.hours (contract_at s i) (row_at s i) × AllCancel k rule s.sizes.hours (contract_at t i) (row_at t i)
