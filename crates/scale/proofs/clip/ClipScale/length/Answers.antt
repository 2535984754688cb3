use Rattle.std.proofs.Common.{sym, ◌∙◌}
use Rattle.scale.proofs.Parts.{length_clipped_from}
use Rattle.scale.proofs.clip.ClipScale.length.Goals as goal

pub returns : goal.returns
returns g c = c.length.ensures ∙ sym (length_clipped_from 1 _ _ _)
