use Rattle.std.proofs.Common.{◌≡◌, ℕ, refl, ◌+◌, ◌-◌, ◌^◌, ◌<◌, min, [], ◌∷◌, ◌++◌, length, get_or, sym, ap, ◌∙◌, subst, arith, rules}
use Rattle.std.specs.List.{range_with_len}
use Rattle.std.proofs.lemmas.Iterator.{YieldsList-from_range}
use Rattle.std.proofs.lemmas.List.{length-append}
use Rattle.std.proofs.lemmas.List.FromFn.{length-range_with_len}
use Rattle.entry.specs.Kinds.{values}
use Rattle.entry.proofs.Steps.{fold_all, so_far, Went, goes_on}
use Rattle.entry.proofs.total.total.Goals as goal

pub returns : goal.returns
returns g c =
    let j = g.J.Joining in
    let es = c.args.entries.now in
    let first = c.args.first in
    let step = c.args.step in
    let fits : length es < 2 ^ 64 = search rules in
    let went = fold_all c.fold-sum.ensures.ran (λ (k : ℕ). k) (λ ys b. Went j es first step (length ys) b) (range_with_len 0 c.args.count)
    (YieldsList-from_range 0 c.args.count c.args.count refl (omega arith))
    (search rules)
    (λ ys b x d f' before k.
    let joined : j.value d.0 ≡ j.joined (j.value b.0) (get_or (values j es) b.1 j.nothing) = search rules in
    let on : d.1 ≡ min (b.1 + step) (2 ^ 64 - 1) = search rules in
    let more : length (ys ++ x ∷ []) ≡ length ys + 1 = length-append ys (x ∷ []) in
    (subst (λ n. Went j es first step n d) (sym more) (goes_on j es first step (length ys) b d fits before joined on), search rules)) in
    went.0 ∙ ap (so_far j es first step) (length-range_with_len 0 c.args.count)
