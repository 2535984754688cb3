-- The past of a month, and the ledger of a past, which reads no memory.
use Rattle.std.specs.Prelude.{ℕ, zero, suc, Bool, cond, List, [], ◌∷◌, ◌++◌, map, length, ◌==◌, slice_index_or}
use Rattle.scale.specs.Shares.{shares_of}
use Rattle.scale.specs.Weights.{clipped, weight_at}
use Rattle.entry.specs.declared.source.Source.{Source}
use Rattle.entry.specs.declared.source.Source.TheVariants.{Conventional, Incentivised}
use Rattle.entry.specs.Kinds.{Kind, joins, up_to}
use Rattle.book.specs.declared.contract.Offer.{Offer}
use Rattle.book.specs.declared.contract.State.{State}
use Rattle.book.specs.declared.contract.State.TheVariants.{Offered, InForce, Ended}
use Rattle.book.specs.Cuts.{Claim, effective_at}
use Rattle.book.specs.States.{is_in_force}
use Rattle.ledger.specs.Calls.{rounding}

-- a call with its arguments, a scale as its weights
pub data Call : Type 0 where
  offering : Offer → Call
  confirming : ℕ → ℕ → List ℕ → Call
  ending : ℕ → ℕ → Call
  telling : ℕ → ℕ → Call

-- a call, and whether it was accepted
pub record Event : Type 0 where
  pub call : Call
  pub accepted : Bool

-- A line of the ledger: a contract's nine fields and state, and from its confirmation on the clipped weights and the row.
pub record Line : Type 0 where
  pub fields : Offer
  pub state : State
  pub weights : List ℕ
  pub row : List ℕ

-- The ledger: contracts in order of offering, and each agent's shortfall.
pub record Ledger : Type 0 where
  pub lines : List Line
  pub shortfall : ℕ → ℕ

abbrev pub entered : Offer → Line
entered o = record { fields = o; state = Offered; weights = []; row = [] }

abbrev pub confirmed : List ℕ → Line → Line
confirmed ws l = record {
  fields = l.fields;
  state = InForce;
  weights = clipped l.fields.first l.fields.last ws;
  row = shares_of rounding l.fields.amount (clipped l.fields.first l.fields.last ws);
}

abbrev pub ended : Line → Line
ended l = record { fields = l.fields; state = Ended; weights = l.weights; row = l.row }

-- f at the line of a number
abbrev pub at_number : ℕ → (Line → Line) → Line → Line
at_number number f l = cond (l.fields.number == number) (f l) l

-- what an accepted call changes
abbrev pub noted : Call → Ledger → Ledger
noted (offering o) b = record { lines = b.lines ++ (entered o ∷ []); shortfall = b.shortfall }
noted (confirming number agent ws) b = record { lines = map (at_number number (confirmed ws)) b.lines; shortfall = b.shortfall }
noted (ending number agent) b = record { lines = map (at_number number ended) b.lines; shortfall = b.shortfall }
noted (telling agent kwh) b = record { lines = b.lines; shortfall = λ a. cond (a == agent) kwh (b.shortfall a) }

-- the ledger of a past, whose newest call comes first; a refused call changes nothing
abbrev pub ledger : List Event → Ledger
ledger [] = record { lines = []; shortfall = λ _. 0 }
ledger (e ∷ past) = cond e.accepted (noted e.call (ledger past)) (ledger past)

abbrev pub no_offer : Offer
no_offer = record { number = 0; seller = 0; buyer = 0; submarket = 0; class = 0; source = 0; first = 0; last = 0; amount = 0 }

abbrev pub no_line : Line
no_line = record { fields = no_offer; state = Ended; weights = []; row = [] }

-- the line of an index, from 0
abbrev pub line_at : Ledger → ℕ → Line
line_at b i = slice_index_or b.lines i no_line

abbrev pub stands : Line → Bool
stands l = is_in_force l.state

abbrev pub claim_in : Line → Claim
claim_in l = record { seller = l.fields.seller; class = l.fields.class; amount = l.fields.amount; standing = stands l }

-- the effective amount of a contract in force, by the cut rule on the ledger
abbrev pub effective_in : Ledger → ℕ → ℕ
effective_in b i = effective_at rounding (b.shortfall (line_at b i).fields.seller) (map claim_in b.lines) i

-- its quantities, hour after hour: the effective amount shared over its row
abbrev pub quantities_in : Ledger → ℕ → List ℕ
quantities_in b i = shares_of rounding (effective_in b i) (line_at b i).row

abbrev pub source_of : ℕ → Source
source_of zero = Conventional
source_of (suc n) = Incentivised

-- What a contract in force means to an agent at a submarket and hour: the entry of the quantity that it sold,
-- or the opposite of what it bought, there.
abbrev pub traded : {V : Type 0} → Kind V → Offer → ℕ → ℕ → ℕ → V
traded k o agent submarket q =
    cond (o.submarket == submarket)
    (cond (o.seller == agent) (k.sold q (source_of o.source))
    (cond (o.buyer == agent) (k.bought q (source_of o.source)) k.nothing))
    k.nothing

-- an agent's position by the ledger: joined over the contracts in force
abbrev pub position_in : {V : Type 0} → Kind V → Ledger → ℕ → ℕ → ℕ → V
position_in k b agent submarket hour = up_to (joins k) (length b.lines)
    (λ i. cond (stands (line_at b i)) (traded k (line_at b i).fields agent submarket (weight_at (quantities_in b i) hour)) k.nothing)
