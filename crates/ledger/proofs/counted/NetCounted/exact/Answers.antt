-- The number of the entry fits its width, so the board's is the true difference.
use Rattle.std.proofs.Common.{w64, SFits, rules}
use Rattle.ledger.proofs.Exact.{net_true}
use Rattle.ledger.proofs.counted.NetCounted.exact.Goals as goal

pub returns-clause-counted : goal.returns-clause-counted
returns-clause-counted c =
    let e = c.args.self in
    let fits : SFits w64 e.units = search rules in
    λ past s lived agent submarket hour a1 aa m1 m4 h1 hh is i.
    record { units = net_true past s lived agent submarket hour a1 aa m1 m4 h1 hh e fits is i }
