-- What a line does to a session, and what is replied.
use Rattle.std.specs.Prelude.{◌≡◌, ℕ, zero, suc, List, Some, None, Option}
use Rattle.scale.specs.Refusals.{Refusal}
use Rattle.entry.specs.Kinds.{Kind}
use Rattle.entry.specs.Meanings.{net_kind, by_source_kind}
use Rattle.entry.specs.Words.{Word, Words}
use Rattle.lines.specs.declared.command.Command.{Command}
use Rattle.lines.specs.declared.command.Command.TheVariants.{Open, Offer, Confirm, End, Tell, Position, Close, Certificate}
use Rattle.lines.specs.Grammar.{Parsed, Exact}
use Rattle.page.specs.Page.{Fronted}
use Rattle.session.specs.Held.{Held}
use Rattle.session.specs.Opening.{opening_refusal, Begun}
use Rattle.session.specs.Seen.{Seen, none, net, by_source, seen_as, net_showing, by_source_showing}
use Rattle.session.specs.Turns.{ack, unfit, Refused, Turned}

-- a month of one kind is opened, or refused
abbrev pub OpensAs : {V : Type 0} → Kind V → (Held V → Seen) → ℕ → ℕ → ℕ → Option Refusal → Seen → Type 0
OpensAs {V} k make agents hours places answer t =
    (answer ≡ opening_refusal agents hours places) × ((held : Option (Held V)) × (t ≡ seen_as make held) × Begun k agents hours places answer held)

-- by the number of the kind: 0 net, 1 by source, no other
abbrev pub Opens : ℕ → ℕ → ℕ → ℕ → Option Refusal → Seen → Type 0
Opens zero agents hours places answer t = OpensAs net_kind net agents hours places answer t
Opens (suc zero) agents hours places answer t = OpensAs by_source_kind by_source agents hours places answer t
Opens (suc (suc n)) agents hours places answer t = Refused none answer t

-- a session has one month: another is not opened
abbrev pub OpensFrom : ℕ → ℕ → ℕ → ℕ → Seen → Option Refusal → Seen → Type 0
OpensFrom kind agents hours places none answer t = Opens kind agents hours places answer t
OpensFrom kind agents hours places (net h) answer t = Refused (net h) answer t
OpensFrom kind agents hours places (by_source h) answer t = Refused (by_source h) answer t

-- before there is a month, every letter but M is out of turn
abbrev pub Early : List ℕ → Seen → Type 0
Early line t = (line ≡ ack (Some unfit)) × (t ≡ none)

abbrev pub First : Command → List ℕ → Seen → Type 0
First (Open agents hours places kind) line t = (answer : Option Refusal) × (line ≡ ack answer) × Opens kind agents hours places answer t
First (Offer number seller buyer submarket class source first last amount) line t = Early line t
First (Confirm number agent) line t = Early line t
First (End number agent) line t = Early line t
First (Tell agent kwh) line t = Early line t
First (Position agent submarket hour) line t = Early line t
First Close line t = Early line t
First (Certificate agent) line t = Early line t

-- from s, a command leads to t and line is replied
abbrev pub Stepped : Command → Seen → List ℕ → Seen → Type 0
Stepped c none line t = First c line t
Stepped c (net h) line t = (u : Held Word) × (t ≡ net u) × Turned net_kind net_showing c h line u
Stepped c (by_source h) line t = (u : Held Words) × (t ≡ by_source u) × Turned by_source_kind by_source_showing c h line u

-- the same of a line that may not be readable
abbrev pub Read : Option Command → Seen → List ℕ → Seen → Type 0
Read None s line t = (line ≡ ack (Some unfit)) × (t ≡ s)
Read (Some c) s line t = Stepped c s line t

-- From s, a line with this text leads to t. The reply stands at the front of the page and has n bytes.
pub record Answered (text : List ℕ) (s t : Seen) (before after : List ℕ) (n : ℕ) : Type 0 where
  pub command : Option Command
  pub reads : Parsed text command
  pub exact : Exact text command
  pub line : List ℕ
  pub does : Read command s line t
  pub fronted : Fronted line before after n
