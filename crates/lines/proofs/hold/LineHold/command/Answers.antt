use Rattle.lines.proofs.Short.{too_long}
use Rattle.lines.proofs.hold.LineHold.command.Goals as goal

pub returns-in_err-line : goal.returns-in_err-line
returns-in_err-line c = record {
  reads = λ t h. simp c.from_residual.ensures (too_long t (c.in_err-line.ensures t h));
  exact = λ t h d fits e. absurd (too_long t (c.in_err-line.ensures t h) d fits e);
}
