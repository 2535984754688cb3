use Rattle.std.proofs.Common.{◌≡◌, map}
use Rattle.scale.specs.Shares.{down_to}
use Rattle.book.specs.Cuts.{claim_of, class_sum, remaining}
use Rattle.book.proofs.Recutting.{cut_up_to}
use Rattle.book.proofs.cuts.recut.Given as goal

abbrev pub invariant-loop-class : goal.invariant-loop-class
invariant-loop-class l =
    (l.taken ≡ cut_up_to down_to l.seller l.shortfall l.initial.taken l.class-index)
    × (l.rest ≡ remaining l.shortfall (class_sum l.seller (map claim_of l.initial.taken)) l.class-index)
