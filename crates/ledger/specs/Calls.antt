-- What each changing call answers, and what it leaves: from one state of a month to the next.
use Rattle.std.specs.Prelude.{◌≡◌, ℕ, ◌+◌, ◌-◌, ◌*◌, List, ◌++◌, length, take, drop, replicate, Some, None, Option, slice_set}
use Rattle.scale.specs.Refusals.{Refusal}
use Rattle.scale.specs.Shares.{Rule, down_to, shares_of}
use Rattle.scale.specs.Weights.{clipped}
use Rattle.entry.specs.Kinds.{Kind}
use Rattle.book.specs.declared.contract.Contract.{Contract}
use Rattle.book.specs.declared.contract.Offer.{Offer}
use Rattle.book.specs.declared.contract.State as state
use Rattle.book.specs.declared.contract.State.TheVariants.{InForce, Ended}
use Rattle.book.specs.Cuts.{recut, with_effective}
use Rattle.book.specs.Lookup.{place_of}
use Rattle.book.specs.Terms.{Offers}
use Rattle.ledger.specs.States.{State, contracts, contract_at, agent_shortfall}
use Rattle.ledger.specs.Boards.{Revised}
use Rattle.ledger.specs.Checks.{offer_refusal, confirm_refusal, end_refusal, tell_refusal}

-- months round down
abbrev pub rounding : Rule
rounding = down_to

abbrev pub with_state : state.State → Contract → Contract
with_state st c = record { terms = c.terms; effective = c.effective; state = st }

-- a contract as it enters into force, and as it ends: with nothing left of its amount
abbrev pub enforced : Contract → Contract
enforced c = with_state InForce c

abbrev pub ended : Contract → Contract
ended c = with_effective 0 (with_state Ended c)

-- a row written at a place, which counts from 0
abbrev pub put_row : ℕ → ℕ → List ℕ → List ℕ → List ℕ
put_row hours i row rows = take (i * hours) rows ++ (row ++ drop (i * hours + hours) rows)

-- an accepted call leads on; a refused one leaves all as it was
abbrev pub Leads : {V : Type 0} → Option Refusal → Type 0 → State V → State V → Type 0
Leads None accepted s t = accepted
Leads (Some refusal) accepted s t = t ≡ s

-- what an accepted offer changes: the next place is taken by the contract offered
pub record Taken {V : Type 0} (o : Offer) (s t : State V) : Type 0 where
  pub contract : Contract
  pub offered : Offers o contract
  pub places : t.places ≡ slice_set s.places s.taken contract
  pub taken : t.taken ≡ s.taken + 1
  pub sizes : t.sizes ≡ s.sizes
  pub rows : t.rows ≡ s.rows
  pub shortfalls : t.shortfalls ≡ s.shortfalls
  pub board : t.board ≡ s.board

-- What every accepted confirmation, ending and telling has in common: the seller's effective amounts are set by the cut rule
-- from the contracts as the event leaves them, and the board moves from the old quantities to the new.
pub record Resettled {V : Type 0} (k : Kind V) (seller : ℕ) (after : List Contract) (s t : State V) : Type 0 where
  pub contracts : contracts t ≡ recut rounding seller (agent_shortfall t seller) after
  pub others : drop s.taken t.places ≡ drop s.taken s.places
  pub places : length t.places ≡ length s.places
  pub taken : t.taken ≡ s.taken
  pub sizes : t.sizes ≡ s.sizes
  pub board : Revised k rounding s t

-- an accepted confirmation puts the contract in force and writes its row: the amount over the clipped scale
pub record Enforced {V : Type 0} (k : Kind V) (number : ℕ) (weights : List ℕ) (s t : State V) : Type 0 where
  pub index : ℕ
  pub found : place_of number (contracts s) ≡ Some (index + 1)
  pub rows : t.rows ≡ put_row s.sizes.hours index
      (shares_of rounding (contract_at s index).terms.amount (clipped (contract_at s index).terms.first (contract_at s index).terms.last weights)) s.rows
  pub shortfalls : t.shortfalls ≡ s.shortfalls
  pub settled : Resettled k (contract_at s index).terms.seller (slice_set (contracts s) index (enforced (contract_at s index))) s t

-- an accepted ending ends the contract, and leaves nothing of its amount
pub record Finished {V : Type 0} (k : Kind V) (number : ℕ) (s t : State V) : Type 0 where
  pub index : ℕ
  pub found : place_of number (contracts s) ≡ Some (index + 1)
  pub rows : t.rows ≡ s.rows
  pub shortfalls : t.shortfalls ≡ s.shortfalls
  pub settled : Resettled k (contract_at s index).terms.seller (slice_set (contracts s) index (ended (contract_at s index))) s t

-- an accepted telling replaces the agent's shortfall
pub record Noted {V : Type 0} (k : Kind V) (agent kwh : ℕ) (s t : State V) : Type 0 where
  pub rows : t.rows ≡ s.rows
  pub shortfalls : t.shortfalls ≡ slice_set s.shortfalls (agent - 1) kwh
  pub settled : Resettled k agent (contracts s) s t

-- each call: the first check that fails is its answer, and what it then leaves
pub record Offering {V : Type 0} (o : Offer) (answer : Option Refusal) (s t : State V) : Type 0 where
  pub answered : answer ≡ offer_refusal s o
  pub leaves : Leads answer (Taken o s t) s t

pub record Confirming {V : Type 0} (k : Kind V) (number agent : ℕ) (weights : List ℕ) (answer : Option Refusal) (s t : State V) : Type 0 where
  pub answered : answer ≡ confirm_refusal s number agent weights
  pub leaves : Leads answer (Enforced k number weights s t) s t

pub record Ending {V : Type 0} (k : Kind V) (number agent : ℕ) (answer : Option Refusal) (s t : State V) : Type 0 where
  pub answered : answer ≡ end_refusal s number agent
  pub leaves : Leads answer (Finished k number s t) s t

pub record Telling {V : Type 0} (k : Kind V) (agent kwh : ℕ) (answer : Option Refusal) (s t : State V) : Type 0 where
  pub answered : answer ≡ tell_refusal s agent kwh
  pub leaves : Leads answer (Noted k agent kwh s t) s t

-- an opened month: no place is taken, every shortfall is 0 and every entry empty
pub record Opened {V : Type 0} (k : Kind V) (s : State V) : Type 0 where
  pub taken : s.taken ≡ 0
  pub places : length s.places ≡ s.sizes.places
  pub rows : length s.rows ≡ s.sizes.places * s.sizes.hours
  pub shortfalls : s.shortfalls ≡ replicate s.sizes.agents 0
  pub board : s.board ≡ replicate (s.sizes.agents * 4 * s.sizes.hours) k.nothing
