-- Both numbers of the entry fit their width, so the board's are the true differences.
use Rattle.std.proofs.Common.{w64, SFits, rules}
use Rattle.ledger.proofs.Exact.{by_source_true}
use Rattle.ledger.proofs.counted.BySourceCounted.exact.Goals as goal

pub returns-clause-counted : goal.returns-clause-counted
returns-clause-counted c =
    let e = c.args.self in
    let fits : SFits w64 e.conventional = search rules in
    let fits' : SFits w64 e.incentivised = search rules in
    λ past s lived agent submarket hour a1 aa m1 m4 h1 hh is i.
    let both = by_source_true past s lived agent submarket hour a1 aa m1 m4 h1 hh e fits fits' is in
    record { conventional = both.0 i; incentivised = both.1 i }
