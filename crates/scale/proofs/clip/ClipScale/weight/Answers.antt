use Rattle.std.proofs.Common.{rules}
use Rattle.scale.proofs.Parts.{clip_in, clip_out}
use Rattle.scale.proofs.clip.ClipScale.weight.Goals as goal

pub returns-then-contains : goal.returns-then-contains
returns-then-contains g c = search (rules, clip_in)

pub returns-else-contains : goal.returns-else-contains
returns-else-contains g c = search (rules, clip_out)
