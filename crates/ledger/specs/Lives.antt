-- The lives of a month: opened, and then called, each call on what the one before left.
use Rattle.std.specs.Prelude.{ℕ, not, List, [], ◌∷◌, is_some, Option}
use Rattle.scale.specs.Refusals.{Refusal}
use Rattle.entry.specs.Kinds.{Kind, Laws, joins}
use Rattle.book.specs.declared.contract.Offer.{Offer}
use Rattle.ledger.specs.States.{State}
use Rattle.ledger.specs.Calls.{Opened, Offering, Confirming, Ending, Telling}
use Rattle.ledger.specs.Past.{Call, offering, confirming, ending, telling, Event}
use Rattle.ledger.specs.Balance.{Balanced}

-- a call, and how it was answered
abbrev pub event : Call → Option Refusal → Event
event call answer = record { call = call; accepted = not (is_some answer) }

pub data Lived {V : Type 0} (k : Kind V) : List Event → State V → Type 0 where
  opened : {s : State V} → Opened k s → Lived k [] s
  offered : {past : List Event} {s t : State V} (o : Offer) (answer : Option Refusal) →
      Lived k past s → Offering o answer s t → Lived k (event (offering o) answer ∷ past) t
  confirmed : {past : List Event} {s t : State V} (number agent : ℕ) (weights : List ℕ) (answer : Option Refusal) →
      Lived k past s → Confirming k number agent weights answer s t → Lived k (event (confirming number agent weights) answer ∷ past) t
  ended : {past : List Event} {s t : State V} (number agent : ℕ) (answer : Option Refusal) →
      Lived k past s → Ending k number agent answer s t → Lived k (event (ending number agent) answer ∷ past) t
  told : {past : List Event} {s t : State V} (agent kwh : ℕ) (answer : Option Refusal) →
      Lived k past s → Telling k agent kwh answer s t → Lived k (event (telling agent kwh) answer ∷ past) t

-- a life begins with an opening, and balances
abbrev pub Begins : {V : Type 0} → Kind V → State V → Type 0
Begins k s = Lived k [] s × Balanced k [] s

-- a call leads every life of the month on, to one that balances
abbrev pub LeadsOn : {V : Type 0} → Kind V → Call → Option Refusal → State V → State V → Type 0
LeadsOn k call answer s t = (past : List Event) → Lived k past s → Lived k (event call answer ∷ past) t × Balanced k (event call answer ∷ past) t

-- every life of a month whose entries are of a kind balances
abbrev pub LivesBalance : {V : Type 0} → Kind V → Type 0
LivesBalance k = (past : List Event) (s : State _) → Lived k past s → Balanced k past s

-- and so for every kind of entry whose joins obey the laws
abbrev pub EveryLifeBalances : Type 1
EveryLifeBalances = (V : Type 0) (k : Kind V) → Laws (joins k) → LivesBalance k
