-- From what the desk did to what the session did.
use Rattle.std.proofs.Common.{◌≡◌, ℕ, List, Some, None, Option, sym, refl, ap, ◌∙◌, subst}
use Rattle.scale.specs.Refusals.{Refusal}
use Rattle.entry.specs.Meanings.{net_kind, by_source_kind}
use Rattle.entry.specs.Words.{Word, Words}
use Rattle.lines.specs.declared.command.Command.{Command}
use Rattle.lines.specs.declared.command.Command.TheVariants.{Open, Offer, Confirm, End, Tell, Position, Close, Certificate}
use Rattle.entry.specs.declared.kinds.BySource.{BySource}
use Rattle.entry.specs.declared.kinds.Net.{Net}
use Rattle.session.specs.declared.kind.BoardKind.{BoardKind}
use Rattle.session.specs.declared.desk.Desk.{Desk}
use Rattle.session.specs.declared.desk.any.AnyDesk.{AnyDesk}
use Rattle.session.specs.declared.desk.any.AnyDesk.TheVariants as desk
use Rattle.session.specs.Kinds.{kind_number}
use Rattle.session.specs.Held.{Held, held_of}
use Rattle.session.specs.Seen.{Seen, none, net, by_source, seen_as, seen_at, net_entries, by_source_entries, net_showing, by_source_showing}
use Rattle.session.specs.Steps.{Opens, OpensFrom, First, Stepped}
use Rattle.session.specs.Turns.{DeskTurned, Replied, ack, unfit}

-- the month that opens is of the kind with the number
pub opens_of : (number a h p : ℕ) (answer : Option Refusal) (t : Seen) (kind k : BoardKind) → kind ≡ k → kind_number kind ≡ number → Opens (kind_number k) a h p answer t
    → Opens number a h p answer t
opens_of number a h p answer t kind k is has o = subst (λ (x : ℕ). Opens x a h p answer t) (sym (ap kind_number is) ∙ has) o

-- M, whether it is in turn or not
pub step_open : (number a h p : ℕ) (before after : Seen) (answer : Option Refusal) → OpensFrom number a h p before answer after → Stepped (Open a h p number) before (ack answer) after
step_open number a h p none after answer o = (answer, refl, o)
step_open number a h p (net x) after answer o = (x, o.1, (answer, refl, (o.0, refl)))
step_open number a h p (by_source x) after answer o = (x, o.1, (answer, refl, (o.0, refl)))

early : (c : Command) → ((a h p k : ℕ) → c ≡ Open a h p k → ⊥) → (line : List ℕ) (t : Seen) → line ≡ ack (Some unfit) → t ≡ none → First c line t
early (Open a h p k) not-m line t e f = absurd (not-m a h p k refl)
early (Offer a b d e' g h i j x) not-m line t e f = (e, f)
early (Confirm a b) not-m line t e f = (e, f)
early (End a b) not-m line t e f = (e, f)
early (Tell a b) not-m line t e f = (e, f)
early (Position a b d) not-m line t e f = (e, f)
early Close not-m line t e f = (e, f)
early (Certificate a) not-m line t e f = (e, f)

step_net : (c : Command) → ((a h p k : ℕ) → c ≡ Open a h p k → ⊥) → (before after : Option (Held Word)) (line : List ℕ) → DeskTurned net_kind net_showing c before line after
    → Stepped c (seen_as net before) line (seen_as net after)
step_net c not-m None after line h = early c not-m line _ h.0 (ap (seen_as net) h.1)
step_net c not-m (Some x) after line h = (h.0, ap (seen_as net) h.1, h.2)

step_by_source : (c : Command) → ((a h p k : ℕ) → c ≡ Open a h p k → ⊥) → (before after : Option (Held Words)) (line : List ℕ) → DeskTurned by_source_kind by_source_showing c before line after
    → Stepped c (seen_as by_source before) line (seen_as by_source after)
step_by_source c not-m None after line h = early c not-m line _ h.0 (ap (seen_as by_source) h.1)
step_by_source c not-m (Some x) after line h = (h.0, ap (seen_as by_source) h.1, h.2)

module _ (c : Command) (not-m : (a h p k : ℕ) → c ≡ Open a h p k → ⊥) (s : AnyDesk) (page after : List ℕ) (n : ℕ) where
  abbrev Done : AnyDesk → AnyDesk → Type 0
  Done x t = Replied (λ line. Stepped c (seen_at x) line (seen_at t)) page after n

  pub on_net : (d e : Desk Net) → s ≡ desk.Net d → Replied (λ line. DeskTurned net_kind net_showing c (held_of net_entries d) line (held_of net_entries e)) page after n → Done s (desk.Net e)
  on_net d e is r = subst (λ (x : AnyDesk). Done x (desk.Net e)) (sym is) (record { line = r.line; fronted = r.fronted; holds = step_net c not-m _ _ r.line r.holds })

  pub on_by_source : (d e : Desk BySource) → s ≡ desk.BySource d → Replied (λ line. DeskTurned by_source_kind by_source_showing c (held_of by_source_entries d) line (held_of by_source_entries e)) page after n
      → Done s (desk.BySource e)
  on_by_source d e is r = subst (λ (x : AnyDesk). Done x (desk.BySource e)) (sym is) (record { line = r.line; fronted = r.fronted; holds = step_by_source c not-m _ _ r.line r.holds })
