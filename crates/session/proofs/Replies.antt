-- From what a call answered to the line that is replied.
use Rattle.std.proofs.Common.{◌≡◌, ℕ, Bool, true, false, List, take, Some, None, Ok, Err, Option, Result, MatchResult, sym, refl, ap, ◌∙◌, subst, arith}
use Rattle.scale.specs.declared.fault.Fault.{Fault}
use Rattle.scale.specs.Refusals.{Refusal, told}
use Rattle.entry.specs.declared.joining.Joining as joining
use Rattle.entry.specs.Kinds.{Kind, values}
use Rattle.ledger.specs.Past.{ledger}
use Rattle.ledger.specs.States.{State, contracts}
use Rattle.ledger.specs.Turnovers.{amount_sold, amount_bought, OfEveryLife}
use Rattle.ledger.proofs.Told.{turnover_told}
use Rattle.lines.specs.declared.command.Command.{Command}
use Rattle.lines.specs.declared.command.Command.TheVariants.{Position, Certificate}
use Rattle.lines.specs.declared.reply.Reply.{Reply}
use Rattle.lines.specs.Spoken.{spoken_line, refused, refused_line}
use Rattle.page.specs.Page.{Fronted}
use Rattle.month.specs.Line.{certificate_line}
use Rattle.month.specs.Questions.{bought, certified}
use Rattle.session.specs.declared.desk.Desk.{Desk}
use Rattle.session.specs.declared.stage.Stage.{Stage}
use Rattle.session.specs.declared.stage.Stage.TheVariants.{Idle, Open, Closed}
use Rattle.session.specs.Closing.{Shut}
use Rattle.session.specs.Held.{Held, held_at, held_of, state_on}
use Rattle.session.specs.Questions.{PositionAsked, CertificateAsked}
use Rattle.session.specs.Turns.{Showing, Doing, Closes, Refused, Turned, DeskTurned, ack, unfit, Replied}

nothing : {X : Type 0} {r : Refusal} → ◌≡◌ {A = Option Refusal} None (Some r) → X
nothing e = absurd (let z : ◌≡◌ {A = ℕ} 0 1 = cc in omega arith)

-- the line certifies, in every life, what the ledger says
pub certified_told : {V : Type 0} (s : State V) (agent : ℕ) →
    OfEveryLife s (λ past. certified s agent ≡ certificate_line agent (amount_sold (ledger past) agent) (amount_bought (ledger past) agent))
certified_told s agent k laws past life =
    ap (λ (n : ℕ). certificate_line agent n (bought agent (contracts s))) (turnover_told s (λ o. o.seller) agent k laws past life)
    ∙ ap (certificate_line agent (amount_sold (ledger past) agent)) (turnover_told s (λ o. o.buyer) agent k laws past life)

module _ {V : Type 0} (k : Kind V) (tell : Showing V) where
  -- a line that was replied to the command that was read, at the front of a page
  replied : (c d : Command) → c ≡ d → (before t : Option (Held V)) (line page after : List ℕ) (n : ℕ) → DeskTurned k tell d before line t → Fronted line page after n
      → Replied (λ l. DeskTurned k tell c before l t) page after n
  replied c d is before t line page after n turned put = record { line = line; fronted = put; holds = subst (λ (x : Command). DeskTurned k tell x before line t) (sym is) turned }

  turned : (d : Command) (does : Held V → Option Refusal → Held V → Type 0) → ((h t : Held V) (answer : Option Refusal) → does h answer t → Turned k tell d h (ack answer) t)
      → (before t : Option (Held V)) (answer : Option Refusal) → Doing does before answer t → DeskTurned k tell d before (ack answer) t
  turned d does so None t answer h = (ap ack h.0, h.1)
  turned d does so (Some b) t answer h = (h.0, h.1, so b h.0 answer h.2)

  -- a call that is acknowledged
  pub acked : (c d : Command) → c ≡ d → (does : Held V → Option Refusal → Held V → Type 0) → ((h t : Held V) (answer : Option Refusal) → does h answer t → Turned k tell d h (ack answer) t)
      → (before t : Option (Held V)) (answer : Option Refusal) → Doing does before answer t → (page after : List ℕ) (n : ℕ) → Fronted (ack answer) page after n
      → Replied (λ line. DeskTurned k tell c before line t) page after n
  acked c d is does so before t answer h page after n put = replied c d is before t (ack answer) page after n (turned d does so before t answer h) put

  -- a line out of turn
  pub unfitted : (held : Option (Held V)) → Doing {V = V} Refused held (Some unfit) held
  unfitted None = (refl, refl)
  unfitted (Some h) = (h, refl, (refl, refl))

  -- the reply to a position: what was told, or the refusal
  told_at : (agent submarket hour : ℕ) (held : Option (Held V)) (y : Result Reply Fault) (reply : Reply) → PositionAsked k tell agent submarket hour held y
      → MatchResult y (λ x. reply ≡ x) (λ f. reply ≡ refused (told f)) → DeskTurned k tell (Position agent submarket hour) held (spoken_line reply) held
  told_at agent submarket hour None (Ok x) reply h e = nothing h
  told_at agent submarket hour None (Err f) reply h e = (ap spoken_line e ∙ ap ack h, refl)
  told_at agent submarket hour (Some s) (Ok x) reply h e = (s, refl, (rw (sym h.0) (x, ap spoken_line e, h.1), refl))
  told_at agent submarket hour (Some s) (Err f) reply h e = (s, refl, (rw (sym h.0) (ap spoken_line e), refl))

  pub located : (c : Command) (agent submarket hour : ℕ) → c ≡ Position agent submarket hour → (held : Option (Held V)) (y : Result Reply Fault) (reply : Reply)
      → PositionAsked k tell agent submarket hour held y → MatchResult y (λ x. reply ≡ x) (λ f. reply ≡ refused (told f))
      → (page after : List ℕ) (n : ℕ) → Fronted (spoken_line reply) page after n → Replied (λ line. DeskTurned k tell c held line held) page after n
  located c agent submarket hour is held y reply h e page after n put = replied c _ is held held (spoken_line reply) page after n (told_at agent submarket hour held y reply h e) put

  -- a certificate line that was written, and one that was refused
  written : (agent : ℕ) (closed : Bool) (s : State V) (before after : List ℕ) (n : ℕ) → CertificateAsked agent (Some (record { closed = closed; state = s })) before after (Ok n)
      → Replied (λ line. DeskTurned k tell (Certificate agent) (Some (record { closed = closed; state = s })) line (Some (record { closed = closed; state = s }))) before after n
  written agent true s before after n h = record { line = certified s agent; fronted = h.1; holds = (_, refl, (rw (sym h.0) (refl, certified_told s agent), refl)) }
  written agent false s before after n h = nothing h.0

  asked : (agent : ℕ) (held : Option (Held V)) (before after : List ℕ) (n : ℕ) → CertificateAsked agent held before after (Ok n)
      → Replied (λ line. DeskTurned k tell (Certificate agent) held line held) before after n
  asked agent None before after n h = nothing h.0
  asked agent (Some x) before after n h = written agent x.closed x.state before after n h

  pub certified_on : (c : Command) (agent : ℕ) → c ≡ Certificate agent → (held : Option (Held V)) (before after : List ℕ) (n : ℕ) → CertificateAsked agent held before after (Ok n)
      → Replied (λ line. DeskTurned k tell c held line held) before after n
  certified_on c agent is held before after n h = subst (λ (x : Command). Replied (λ line. DeskTurned k tell x held line held) before after n) (sym is) (asked agent held before after n h)

  unwritten : (agent : ℕ) (closed : Bool) (s : State V) (before after : List ℕ) (f : Fault) → CertificateAsked agent (Some (record { closed = closed; state = s })) before after (Err f)
      → (after ≡ before) × DeskTurned k tell (Certificate agent) (Some (record { closed = closed; state = s })) (refused_line (told f)) (Some (record { closed = closed; state = s }))
  unwritten agent true s before after f h = (h.1, (_, refl, (rw (sym h.0) refl, refl)))
  unwritten agent false s before after f h = (h.1, (_, refl, (ap ack h.0, refl)))

  unasked : (agent : ℕ) (held : Option (Held V)) (before after : List ℕ) (f : Fault) → CertificateAsked agent held before after (Err f)
      → (after ≡ before) × DeskTurned k tell (Certificate agent) held (refused_line (told f)) held
  unasked agent None before after f h = (h.1, (ap ack h.0, refl))
  unasked agent (Some x) before after f h = unwritten agent x.closed x.state before after f h

  pub uncertified : (c : Command) (agent : ℕ) → c ≡ Certificate agent → (held : Option (Held V)) (before page : List ℕ) (f : Fault) → CertificateAsked agent held before page (Err f)
      → (reply : Reply) → reply ≡ refused (told f) → (after : List ℕ) (n : ℕ) → Fronted (spoken_line reply) page after n → Replied (λ line. DeskTurned k tell c held line held) before after n
  uncertified c agent is held before page f h reply e after n put =
      let p = unasked agent held before page f h in
      replied c _ is held held (refused_line (told f)) before after n p.1 (rw (e, p.0) at put)

-- what closing leaves, as the month is held
pub shut : {E : Type 0} (j : joining.Ghosts E) (s : Stage) (d t : Desk E) (answer : Option Refusal) → d.stage ≡ s → Shut s d answer t
    → Doing Closes (held_at j d s) answer (held_of j t)
shut j Idle d t answer e h = (h.0, ap (held_of j) h.1 ∙ ap (held_at j d) e)
shut j (Open m) d t answer e h =
    let x = h.1 in (
      record { closed = true; state = state_on j d m },
      ap (held_of j) x.3 ∙ (λ i. Some (record {
        closed = true;
        state = record {
          sizes = x.1 i;
          taken = x.2 i;
          places = take d.lengths.places d.places;
          rows = take d.lengths.rows d.rows;
          shortfalls = take d.lengths.shortfalls d.shortfalls;
          board = values j (take d.lengths.entries d.board);
        };
      })),
      (h.0, refl),
    )
shut j (Closed m) d t answer e h = (record { closed = true; state = state_on j d m }, ap (held_of j) h.1 ∙ ap (held_at j d) e, (h.0, refl))
