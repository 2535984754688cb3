-- Every life of a session goes on over any number of lines.
use Rattle.std.proofs.Common.{◌≡◌, List, [], ◌∷◌, ◌++◌, sym, subst, inl, inr}
use Rattle.std.proofs.lemmas.List.{append_assoc}
use Rattle.entry.specs.Meanings.{net_kind, by_source_kind}
use Rattle.entry.specs.Words.{Word, Words}
use Rattle.entry.specs.Wrap.{word_laws, both_laws}
use Rattle.ledger.specs.Past.{Event}
use Rattle.ledger.proofs.Law.{every_life}
use Rattle.session.specs.Lives.{Lives, Balances, LivesOn, LivesThrough}
use Rattle.session.specs.Seen.{Seen, none, net, by_source}

balances : (s : Seen) (past : List Event) → Lives s past → Balances s past
balances none past life = tt
balances (net h) past life = every_life Word net_kind word_laws past h.state life
balances (by_source h) past life = every_life Words by_source_kind both_laws past h.state life

-- no line
pub rest : (s : Seen) → LivesThrough s s
rest s past life = ([], life, balances s past life)

-- one line more
pub more : (s t u : Seen) → LivesThrough s t → LivesOn t u → LivesThrough s u
more s t u so on past life =
    let a = so past life in
    let b = on (a.0 ++ past) a.1 in
    elim b.1 [
      | inl same ↦ (a.0, subst (Lives u) same b.2, subst (Balances u) same b.3)
      | inr grown ↦ (grown.0 ∷ a.0, subst (Lives u) grown.1 b.2, subst (Balances u) grown.1 b.3)
    ]

-- lines after lines
pub both : (s t u : Seen) → LivesThrough s t → LivesThrough t u → LivesThrough s u
both s t u so on past life =
    let a = so past life in
    let b = on (a.0 ++ past) a.1 in
    let e : b.0 ++ (a.0 ++ past) ≡ (b.0 ++ a.0) ++ past = sym (append_assoc b.0 a.0 past) in
    (b.0 ++ a.0, subst (Lives u) e b.1, subst (Balances u) e b.2)
