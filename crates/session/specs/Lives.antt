-- The law of every session: its month always has a life, which balances.
use Rattle.std.specs.Prelude.{◌≡◌, ◌⊎◌, List, [], ◌∷◌, ◌++◌}
use Rattle.entry.specs.Meanings.{net_kind, by_source_kind}
use Rattle.ledger.specs.Balance.{Balanced}
use Rattle.ledger.specs.Lives.{Lived}
use Rattle.ledger.specs.Past.{Event}
use Rattle.session.specs.Seen.{Seen, none, net, by_source}

-- this past leads to the month of the session
abbrev pub Lives : Seen → List Event → Type 0
Lives none past = past ≡ []
Lives (net h) past = Lived net_kind past h.state
Lives (by_source h) past = Lived by_source_kind past h.state

abbrev pub Balances : Seen → List Event → Type 0
Balances none past = Unit {0}
Balances (net h) past = Balanced net_kind past h.state
Balances (by_source h) past = Balanced by_source_kind past h.state

-- a past that goes on by one call, or not at all
abbrev pub Grown : List Event → List Event → Type 0
Grown past next = (next ≡ past) ⊎ ((e : Event) × (next ≡ e ∷ past))

-- Every life of the session goes on, and balances.
abbrev pub LivesOn : Seen → Seen → Type 0
LivesOn s t = (past : List Event) → Lives s past → (next : List Event) × Grown past next × Lives t next × Balances t next

-- The same over any number of lines: every life goes on by some calls more, and balances.
abbrev pub LivesThrough : Seen → Seen → Type 0
LivesThrough s t = (past : List Event) → Lives s past → (more : List Event) × Lives t (more ++ past) × Balances t (more ++ past)
