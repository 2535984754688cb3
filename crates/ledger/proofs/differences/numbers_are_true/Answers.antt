use Rattle.std.proofs.Common.{rules}
use Rattle.ledger.proofs.Exact.{net_true, by_source_true}
use Rattle.ledger.proofs.differences.numbers_are_true.Goals as goal

pub returns : goal.returns
returns c = record { net = net_true; by_source = by_source_true; zero = search rules }
