use Rattle.std.proofs.Common.{rules}
use Rattle.entry.proofs.Opposites.{opposes}
use Rattle.entry.proofs.net.NetReversible.opposite.Goals as goal

pub returns : goal.returns
returns c =
    let units = opposes c.args.self.units c.wrapping_neg.result (search rules) (search rules) c.wrapping_neg.ensures in
    record { is = units.is; cancels = units.cancels }
