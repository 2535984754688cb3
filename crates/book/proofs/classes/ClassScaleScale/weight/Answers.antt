use Rattle.std.proofs.Common.{rules, ◌∙◌}
use Rattle.book.proofs.Weighing.{weight_found}
use Rattle.book.proofs.classes.ClassScaleScale.weight.Goals as goal

pub returns-in-Some : goal.returns-in-Some
returns-in-Some c = c.amount_in.ensures ∙ weight_found _ _ _ _ c.checked_sub.result c.in-Some.contract c.checked_sub.ensures (search rules)
