use Rattle.std.proofs.Common.{◌≡◌, ℕ, ◌≤◌, ◌++◌, get_or, take, drop}
use Rattle.book.specs.Cuts.{left, left_by, map_from}
use Rattle.book.specs.Terms.{class_number}
use Rattle.book.specs.declared.contract.Contract.{Contract}
use Rattle.book.proofs.cuts.leave_each.Given as goal

abbrev pub invariant-loop-i : goal.invariant-loop-i
invariant-loop-i l =
    (take l.i l.taken ++ map_from (λ i c. left l.seller (class_number l.class) (get_or l.shares i 0) c) l.i (drop l.i l.taken)
    ≡ left_by l.seller (class_number l.class) l.shares l.initial.taken)
    × ((k : ℕ) (d : Contract) → l.i ≤ k → get_or l.taken k d ≡ get_or l.initial.taken k d)
