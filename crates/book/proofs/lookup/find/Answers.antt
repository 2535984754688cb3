use Rattle.std.proofs.Common.{rules, MatchOption}
use Rattle.book.specs.Lookup.{Absent, FirstPlace}
use Rattle.book.proofs.Finding.{place_told}
use Rattle.book.proofs.lookup.find.Goals as goal

pub returns-clause-place : goal.returns-clause-place
returns-clause-place c =
    let first : MatchOption c.map.result (Absent c.args.number c.args.taken.now) (FirstPlace c.args.number c.args.taken.now) = search rules in
    place_told _ _ _ first
