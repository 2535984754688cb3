-- What each command does to a month, and which line is replied.
use Rattle.std.specs.Prelude.{◌≡◌, ℕ, true, false, List, length, replicate, Some, None, MatchBool, Option}
use Rattle.scale.specs.Refusals.{Refusal, refusal}
use Rattle.entry.specs.Kinds.{Kind}
use Rattle.book.specs.declared.contract.Offer as offer
use Rattle.book.specs.declared.sizes.Sizes.{Sizes}
use Rattle.ledger.specs.Boards.{position_of}
use Rattle.ledger.specs.Calls.{Offering, Confirming, Ending, Telling}
use Rattle.ledger.specs.Checks.{position_refusal, certificate_refusal}
use Rattle.ledger.specs.Lives.{Lived, LeadsOn}
use Rattle.ledger.specs.Past.{Call, offering, confirming, ending, telling, Event, Ledger, ledger}
use Rattle.ledger.specs.States.{State}
use Rattle.ledger.specs.Turnovers.{amount_sold, amount_bought, OfEveryLife}
use Rattle.lines.specs.declared.command.Command.{Command}
use Rattle.lines.specs.declared.command.Command.TheVariants.{Open, Offer, Confirm, End, Tell, Position, Close, Certificate}
use Rattle.lines.specs.declared.reply.Reply.{Reply}
use Rattle.lines.specs.declared.reply.Reply.TheVariants.{Done}
use Rattle.lines.specs.Spoken.{spoken_line, refused_line}
use Rattle.month.specs.Line.{certificate_line}
use Rattle.month.specs.Questions.{certified}
use Rattle.page.specs.Page.{Fronted}
use Rattle.session.specs.Held.{Held}

-- the refusal of a line that cannot be read, or is out of turn
abbrev pub unfit : Refusal
unfit = refusal 17 0

-- what is replied to a call that is accepted or refused, and tells no more
abbrev pub ack : Option Refusal → List ℕ
ack None = spoken_line Done
ack (Some f) = refused_line f

-- out of turn: nothing changes
abbrev pub Refused : {X : Type 0} → X → Option Refusal → X → Type 0
Refused before answer after = (answer ≡ Some unfit) × (after ≡ before)

-- what a call does to the month, if there is one
abbrev pub Doing : {V : Type 0} → (Held V → Option Refusal → Held V → Type 0) → Option (Held V) → Option Refusal → Option (Held V) → Type 0
Doing does None answer after = Refused None answer after
Doing does (Some h) answer after = (t : Held _) × (after ≡ Some t) × does h answer t

-- a question: its refusal is replied, or the line that answers it
abbrev pub Asked : Option Refusal → (List ℕ → Type 0) → List ℕ → Type 0
Asked None Answers line = Answers line
Asked (Some f) Answers line = line ≡ refused_line f

-- Closing leaves all as it is, but that the month is closed.
abbrev pub Closes : {V : Type 0} → Held V → Option Refusal → Held V → Type 0
Closes h answer t = MatchBool h.closed (Refused h answer t) ((answer ≡ None) × (t ≡ record { closed = true; state = h.state }))

-- how positions of one kind of entry are told: by the entry's numbers, and by what the ledger makes of a past
pub record Showing (V : Type 0) : Type 1 where
  pub Shows : V → Reply → Type 0
  pub tells : Ledger → ℕ → ℕ → ℕ → Reply

module _ {V : Type 0} (k : Kind V) where
  -- a call leads the month on, and every life of it to one that balances
  pub record Called (call : Call) (does : Option Refusal → State V → State V → Type 0) (s : State V) (answer : Option Refusal) (t : State V) : Type 0 where
    pub step : does answer s t
    pub life : LeadsOn k call answer s t

  -- a changing call, which a closed month does not take
  abbrev pub Changes : Call → (Option Refusal → State V → State V → Type 0) → Held V → Option Refusal → Held V → Type 0
  Changes call does h answer t = MatchBool h.closed (Refused h answer t) (Called call does h.state answer t.state × (t.closed ≡ false))

  module _ (tell : Showing V) where
    -- the reply shows what stands on the board, and in every life it is what the ledger tells
    pub record Told (s : State V) (agent submarket hour : ℕ) (reply : Reply) : Type 0 where
      pub shown : tell.Shows (position_of k s agent submarket hour) reply
      pub lived : (past : List Event) → Lived k past s → reply ≡ tell.tells (ledger past) agent submarket hour

    abbrev pub Located : State V → ℕ → ℕ → ℕ → List ℕ → Type 0
    Located s agent submarket hour = Asked (position_refusal s.sizes (length s.board) agent submarket hour)
        (λ line. (reply : Reply) × (line ≡ spoken_line reply) × Told s agent submarket hour reply)

  -- a certificate line, which only a closed month writes, on a page of 64 bytes; in every life it certifies what the ledger says
  abbrev pub Certified : Held V → ℕ → List ℕ → Type 0
  Certified h agent line = MatchBool h.closed
      (Asked (certificate_refusal h.state agent 64) (λ l. (l ≡ certified h.state agent)
      × OfEveryLife h.state (λ past. l ≡ certificate_line agent (amount_sold (ledger past) agent) (amount_bought (ledger past) agent))) line)
      (line ≡ ack (Some unfit))

-- the even scale of a month's hours
abbrev pub evenly : Sizes → List ℕ
evenly sizes = replicate sizes.hours 1

abbrev pub Confirms : {V : Type 0} → Kind V → ℕ → ℕ → Held V → Option Refusal → Held V → Type 0
Confirms k number agent h = Changes k (confirming number agent (evenly h.state.sizes)) (Confirming k number agent (evenly h.state.sizes)) h

-- a call that is acknowledged
abbrev pub Acked : {V : Type 0} → (Held V → Option Refusal → Held V → Type 0) → Held V → List ℕ → Held V → Type 0
Acked does h line t = (answer : Option Refusal) × (line ≡ ack answer) × does h answer t

-- from h, a command leads to t and line is replied
abbrev pub Turned : {V : Type 0} → Kind V → Showing V → Command → Held V → List ℕ → Held V → Type 0
Turned k tell (Open agents hours places kind) h line t = Acked Refused h line t
Turned k tell (Offer number seller buyer submarket class source first last amount) h line t =
    let o : offer.Offer = record { number = number; seller = seller; buyer = buyer; submarket = submarket; class = class; source = source; first = first; last = last; amount = amount } in
    Acked (Changes k (offering o) (Offering o)) h line t
Turned k tell (Confirm number agent) h line t = Acked (Confirms k number agent) h line t
Turned k tell (End number agent) h line t = Acked (Changes k (ending number agent) (Ending k number agent)) h line t
Turned k tell (Tell agent kwh) h line t = Acked (Changes k (telling agent kwh) (Telling k agent kwh)) h line t
Turned k tell (Position agent submarket hour) h line t = Located k tell h.state agent submarket hour line × (t ≡ h)
Turned k tell Close h line t = Acked Closes h line t
Turned k tell (Certificate agent) h line t = Certified k h agent line × (t ≡ h)

-- the same where there may be no month: then a line other than M is out of turn
abbrev pub DeskTurned : {V : Type 0} → Kind V → Showing V → Command → Option (Held V) → List ℕ → Option (Held V) → Type 0
DeskTurned k tell c None line after = (line ≡ ack (Some unfit)) × (after ≡ None)
DeskTurned k tell c (Some h) line after = (t : Held _) × (after ≡ Some t) × Turned k tell c h line t

-- a line at the front of the page, of which something holds
pub record Replied (Holds : List ℕ → Type 0) (before after : List ℕ) (n : ℕ) : Type 0 where
  pub line : List ℕ
  pub fronted : Fronted line before after n
  pub holds : Holds line
