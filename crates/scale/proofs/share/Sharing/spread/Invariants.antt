use Rattle.std.proofs.Common.{◌≡◌, ◌++◌, take, drop, sum}
use Rattle.scale.specs.Shares.{down_to, shared_by, shares_of}
use Rattle.scale.proofs.share.Sharing.spread.Given as goal

abbrev pub invariant-loop-i : goal.invariant-loop-i
invariant-loop-i g l =
    (l.weight ≡ sum (take l.i (g.S.Scale.weights l.self.scale.now)))
    × (l.before ≡ down_to l.self.amount l.self.total l.weight)
    × (take l.i l.out ++ shared_by (down_to l.self.amount l.self.total) l.weight (drop l.i (g.S.Scale.weights l.self.scale.now))
    ≡ shares_of down_to l.self.amount (g.S.Scale.weights l.self.scale.now))
