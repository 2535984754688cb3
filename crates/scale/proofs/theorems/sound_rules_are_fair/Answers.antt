use Rattle.scale.proofs.Running.{fair}
use Rattle.scale.proofs.theorems.sound_rules_are_fair.Goals as goal

pub returns : goal.returns
returns c = fair
