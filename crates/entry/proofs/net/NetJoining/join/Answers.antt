use Rattle.std.proofs.Common.{rules}
use Rattle.entry.specs.Wrap.{adds}
use Rattle.entry.proofs.net.NetJoining.join.Goals as goal

pub returns : goal.returns
returns c = adds c.args.self.units c.args.other.units (search rules) (search rules)
