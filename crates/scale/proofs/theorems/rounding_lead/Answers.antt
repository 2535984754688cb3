use Rattle.scale.proofs.Running.{down_rounds}
use Rattle.scale.proofs.theorems.rounding_lead.Goals as goal

pub returns : goal.returns
returns c = down_rounds
