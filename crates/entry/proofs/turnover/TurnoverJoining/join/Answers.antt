use Rattle.entry.specs.Wrap.{adds_bits}
use Rattle.entry.proofs.turnover.TurnoverJoining.join.Goals as goal

pub returns : goal.returns
returns c =
    let a = c.args.self in
    let b = c.args.other in
    λ i. (adds_bits a.sold b.sold i, adds_bits a.bought b.bought i)
