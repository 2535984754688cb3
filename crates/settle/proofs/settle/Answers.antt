-- What the cut leaves is ready for the board.
use Rattle.std.proofs.Common.{◌≡◌, List, length, sym, ap, ◌∙◌, subst, rules}
use Rattle.book.specs.declared.contract.Contract.{Contract}
use Rattle.book.specs.Cuts.{recut}
use Rattle.ledger.specs.Calls.{rounding}
use Rattle.settle.specs.Settled.{marked, Ready}
use Rattle.settle.proofs.Recutting.{ready_recut}
use Rattle.settle.proofs.settle.Goals as goal

pub revise-requires : goal.revise-requires
revise-requires g c =
    let a = c.args in
    let left = marked a.changed a.taken.now in
    let is : c.mark.new.contracts ≡ left = c.mark.ensures ∙ ap (marked a.changed) c.copy_from_slice.ensures.after in
    let cut : c.recut.new.taken ≡ recut rounding a.seller a.shortfall c.mark.new.contracts = search rules in
    subst (λ (cs : List Contract). Ready a.sizes.now a.taken.now cs a.rows.now (length a.board.now)) (sym (cut ∙ ap (recut rounding a.seller a.shortfall) is))
    (ready_recut rounding a.seller a.shortfall a.sizes.now a.taken.now left a.rows.now _ c.requires.ready)
