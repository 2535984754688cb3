-- What a move of quantities does to a board of values.
use Rattle.std.specs.Prelude.{◌≡◌, ℕ, ◌+◌, ◌*◌, ◌<◌, ◌≤◌, cond, List, length, ◌==◌, slice_index, slice_index_or}
use Rattle.entry.specs.declared.source.Source.{Source}
use Rattle.entry.specs.Kinds.{Kind, Cancels, values}
use Rattle.entry.specs.declared.joining.Joining as joining
use Rattle.board.specs.declared.deal.Deal.{Deal}
use Rattle.board.specs.Lanes.{seller_lane, buyer_lane}

-- each entry of a lane was joined with one that is made, as `makes` says, of the quantity of its hour
abbrev pub EachJoined : {E : Type 0} (j : joining.Ghosts E) → (ℕ → E → Type 0) → List ℕ → List E → List E → Type 0
EachJoined {E} j makes quantities old new = (hour : ℕ) → hour < length quantities → (entry : E) × makes (slice_index quantities hour) entry
    × (slice_index_or (values j new) hour j.nothing ≡ j.joined (slice_index_or (values j old) hour j.nothing) (j.value entry))

-- the value at an hour of a lane, on a board with `hours` entries to a lane; hours count from 0
abbrev pub cell : {V : Type 0} → Kind V → ℕ → List V → ℕ → ℕ → V
cell k hours vs lane hour = slice_index_or vs (lane * hours + hour) k.nothing

-- what a lane has of a quantity moved from one lane to another
abbrev pub share : {V : Type 0} → Kind V → ℕ → ℕ → Source → ℕ → ℕ → V
share k from to s q lane = cond (lane == from) (k.sold q s) (cond (lane == to) (k.bought q s) k.nothing)

-- what a lane has of a deal's quantity, and of the same taken off
abbrev pub put : {V : Type 0} → Kind V → Deal → ℕ → ℕ → V
put k d q lane = share k (seller_lane d) (buyer_lane d) d.source q lane

abbrev pub taken_back : {V : Type 0} → Kind V → Deal → ℕ → ℕ → V
taken_back k d q lane = share k (buyer_lane d) (seller_lane d) d.source q lane

-- The quantities of the hours below `done` moved from one lane to another: each lane has its share more,
-- the other hours are as they were, and each quantity moved is one that its opposite cancels.
pub record Moved {V : Type 0} (k : Kind V) (hours from to : ℕ) (s : Source) (q : ℕ → ℕ) (done : ℕ) (old new : List V) : Type 0 where
  pub long : length new ≡ length old
  pub cells : (lane hour : ℕ) → hour < done
      → cell k hours new lane hour ≡ k.join (cell k hours old lane hour) (share k from to s (q hour) lane)
  pub rest : (lane hour : ℕ) → done ≤ hour → hour < hours → cell k hours new lane hour ≡ cell k hours old lane hour
  pub cancels : (hour : ℕ) → hour < done → Cancels k (q hour) s

-- all the quantities of a deal put on the board, an hour each, or taken off it
abbrev pub Added : {V : Type 0} → Kind V → Deal → List ℕ → List V → List V → Type 0
Added k d qs old new = Moved k (length qs) (seller_lane d) (buyer_lane d) d.source (λ t. slice_index qs t) (length qs) old new

abbrev pub TakenOff : {V : Type 0} → Kind V → Deal → List ℕ → List V → List V → Type 0
TakenOff k d qs old new = Moved k (length qs) (buyer_lane d) (seller_lane d) d.source (λ t. slice_index qs t) (length qs) old new

-- a board on which the deal had just been put is again as it was before
abbrev pub Undoes : {V : Type 0} → Kind V → Deal → List ℕ → List V → List V → Type 0
Undoes {V} k d qs old new = (before : List V) → Added k d qs before old → new ≡ before
