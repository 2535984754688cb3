use Rattle.std.proofs.Common.{arith}
use Rattle.scale.proofs.Running.{fair}
use Rattle.scale.proofs.theorems.run_bounds.Goals as goal

pub returns : goal.returns
returns c = record {
  fair = fair;
  bounds = record {
    of_whole = λ rule sound q ws some i n. let near = (fair rule sound).near q ws some i n in (omega (arith, near.0), omega (arith, near.1));
    of_cut = λ rule sound q e ws some one le i n. let near = (fair rule sound).again q e ws some one le i n in (omega (arith, near.0), omega (arith, near.1));
  };
}
