-- Every life of a session goes on, and balances.
use Rattle.std.proofs.Common.{◌≡◌, ℕ, zero, suc, Bool, true, false, List, [], ◌∷◌, Some, None, MatchBool, Option, sym, refl, ap, subst, inl, inr}
use Rattle.scale.specs.Refusals.{Refusal}
use Rattle.entry.specs.Kinds.{Kind, Laws, joins}
use Rattle.entry.specs.Meanings.{net_kind, by_source_kind}
use Rattle.entry.specs.Words.{Word, Words}
use Rattle.entry.specs.Wrap.{word_laws, both_laws}
use Rattle.ledger.specs.Balance.{Balanced}
use Rattle.ledger.specs.Lives.{Lived, event}
use Rattle.ledger.specs.Past.{Call, Event}
use Rattle.ledger.specs.States.{State}
use Rattle.ledger.proofs.Law.{every_life}
use Rattle.lines.specs.declared.command.Command.{Command}
use Rattle.lines.specs.declared.command.Command.TheVariants.{Open, Offer, Confirm, End, Tell, Position, Close, Certificate}
use Rattle.session.specs.Held.{Held}
use Rattle.session.specs.Lives.{Lives, Balances, Grown, LivesOn}
use Rattle.session.specs.Opening.{Begun}
use Rattle.session.specs.Seen.{Seen, none, net, by_source, seen_as, net_showing, by_source_showing}
use Rattle.session.specs.Steps.{Opens, First, Stepped}
use Rattle.session.specs.Turns.{Showing, Turned, Called, Refused}

module _ {V : Type 0} (k : Kind V) (laws : Laws (joins k)) where
  -- one past leads on to t, and balances
  abbrev On : List Event → State V → Type 0
  On past t = (next : List Event) × Grown past next × Lived k next t × Balanced k next t

  stays : (past : List Event) (s t : State V) → t ≡ s → Lived k past s → On past t
  stays past s t e life = subst (On past) (sym e) (past, inl refl, life, every_life V k laws past s life)

  same : (past : List Event) (h t : Held V) → t ≡ h → Lived k past h.state → On past t.state
  same past h t e = stays past h.state t.state (ap (λ (x : Held V). x.state) e)

  changes : (closed : Bool) (call : Call) (does : Option Refusal → State V → State V → Type 0) (h t : Held V) (answer : Option Refusal) (past : List Event)
      → MatchBool closed (Refused h answer t) (Called k call does h.state answer t.state × (t.closed ≡ false)) → Lived k past h.state → On past t.state
  changes true call does h t answer past d life = same past h t d.1 life
  changes false call does h t answer past d life = let p = d.0.life past life in (event call answer ∷ past, inr (event call answer, refl), p.0, p.1)

  closes : (closed : Bool) (h t : Held V) (answer : Option Refusal) (past : List Event)
      → MatchBool closed (Refused h answer t) ((answer ≡ None) × (t ≡ record { closed = true; state = h.state })) → Lived k past h.state → On past t.state
  closes true h t answer past d life = same past h t d.1 life
  closes false h t answer past d life = stays past h.state t.state (ap (λ (x : Held V). x.state) d.1) life

  turned : (tell : Showing V) (c : Command) (h t : Held V) (line : List ℕ) (past : List Event) → Turned k tell c h line t → Lived k past h.state → On past t.state
  turned tell (Open a b d e) h t line past x life = same past h t x.2.1 life
  turned tell (Offer a b d e f g i j y) h t line past x life = changes h.closed _ _ h t x.0 past x.2 life
  turned tell (Confirm a b) h t line past x life = changes h.closed _ _ h t x.0 past x.2 life
  turned tell (End a b) h t line past x life = changes h.closed _ _ h t x.0 past x.2 life
  turned tell (Tell a b) h t line past x life = changes h.closed _ _ h t x.0 past x.2 life
  turned tell (Position a b d) h t line past x life = same past h t x.1 life
  turned tell Close h t line past x life = closes h.closed h t x.0 past x.2 life
  turned tell (Certificate a) h t line past x life = same past h t x.1 life

-- a session that stays as it is
stay : (s : Seen) → LivesOn s s
stay none past life = (past, inl refl, life, tt)
stay (net h) past life = (past, inl refl, life, every_life Word net_kind word_laws past h.state life)
stay (by_source h) past life = (past, inl refl, life, every_life Words by_source_kind both_laws past h.state life)

pub rests : (s t : Seen) → t ≡ s → LivesOn s t
rests s t e = subst (LivesOn s) (sym e) (stay s)

-- what an opening leaves
fresh_net : (a h p : ℕ) (answer : Option Refusal) (held : Option (Held Word)) → Begun net_kind a h p answer held → LivesOn none (seen_as net held)
fresh_net a h p None held b past life = subst (λ (x : Option (Held Word)). (next : List Event) × Grown past next × Lives (seen_as net x) next × Balances (seen_as net x) next) (sym b.is) ([], inl (sym life), b.life.0, b.life.1)
fresh_net a h p (Some f) held b past life = subst (λ (x : Option (Held Word)). (next : List Event) × Grown past next × Lives (seen_as net x) next × Balances (seen_as net x) next) (sym b) (past, inl refl, life, tt)

fresh_by_source : (a h p : ℕ) (answer : Option Refusal) (held : Option (Held Words)) → Begun by_source_kind a h p answer held → LivesOn none (seen_as by_source held)
fresh_by_source a h p None held b past life = subst (λ (x : Option (Held Words)). (next : List Event) × Grown past next × Lives (seen_as by_source x) next × Balances (seen_as by_source x) next) (sym b.is) ([], inl (sym life), b.life.0, b.life.1)
fresh_by_source a h p (Some f) held b past life = subst (λ (x : Option (Held Words)). (next : List Event) × Grown past next × Lives (seen_as by_source x) next × Balances (seen_as by_source x) next) (sym b) (past, inl refl, life, tt)

opening : (number a h p : ℕ) (answer : Option Refusal) (t : Seen) → Opens number a h p answer t → LivesOn none t
opening zero a h p answer t o = subst (LivesOn none) (sym o.1.1) (fresh_net a h p answer o.1.0 o.1.2)
opening (suc zero) a h p answer t o = subst (LivesOn none) (sym o.1.1) (fresh_by_source a h p answer o.1.0 o.1.2)
opening (suc (suc n)) a h p answer t o = rests none t o.1

first : (c : Command) (t : Seen) (line : List ℕ) → First c line t → LivesOn none t
first (Open a h p k) t line x = opening k a h p x.0 t x.2
first (Offer a b d e f g i j y) t line x = rests none t x.1
first (Confirm a b) t line x = rests none t x.1
first (End a b) t line x = rests none t x.1
first (Tell a b) t line x = rests none t x.1
first (Position a b d) t line x = rests none t x.1
first Close t line x = rests none t x.1
first (Certificate a) t line x = rests none t x.1

pub steps : (c : Command) (s t : Seen) (line : List ℕ) → Stepped c s line t → LivesOn s t
steps c none t line x = first c t line x
steps c (net h) t line x = subst (LivesOn (net h)) (sym x.1) (λ past life. turned net_kind word_laws net_showing c h x.0 line past x.2 life)
steps c (by_source h) t line x = subst (LivesOn (by_source h)) (sym x.1) (λ past life. turned by_source_kind both_laws by_source_showing c h x.0 line past x.2 life)
