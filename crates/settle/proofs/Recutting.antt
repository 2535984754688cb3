-- What is cut anew is still ready for the board.
use Rattle.std.proofs.Common.{ℕ, ◌<◌, ◌≤◌, Bool, true, false, cond, List, map, length, get_or, sym, ◌∙◌, subst, arith}
use Rattle.scale.specs.Shares.{Rule}
use Rattle.book.specs.declared.contract.Contract.{Contract}
use Rattle.book.specs.declared.sizes.Sizes.{Sizes}
use Rattle.book.specs.Cuts.{claim_of, effective_at, recut, stands_for, with_effective}
use Rattle.book.specs.Sound.{row_of}
use Rattle.book.specs.Terms.{blank}
use Rattle.book.proofs.Cutting.{effective_of_place_most}
use Rattle.ledger.proofs.Recut.{length_recut, get_or_recut}
use Rattle.settle.specs.Settled.{Placed, Ready}

module _ (rule : Rule) (seller short : ℕ) (z : Sizes) (old cs : List Contract) (rows : List ℕ) (entries : ℕ) (ready : Ready z old cs rows entries) where
  placed : (i : ℕ) (row : List ℕ) (c : Contract) (b : Bool) → effective_at rule short (map claim_of cs) i ≤ c.terms.amount → Placed z row c
      → Placed z row (cond b (with_effective (effective_at rule short (map claim_of cs) i) c) c)
  placed i row c true most p = record { terms = p.terms; total = p.total; effective = λ _. omega (arith, most, p.terms.amount.1) }
  placed i row c false most p = p

  pub ready_recut : Ready z old (recut rule seller short cs) rows entries
  ready_recut = record {
    long = length_recut rule seller short cs ∙ ready.long;
    covered = ready.covered;
    board = ready.board;
    before = ready.before;
    after = λ i lt.
        let inside : i < length cs = subst (λ (n : ℕ). i < n) (sym ready.long) lt in
        let c = get_or cs i blank in
        subst (Placed z (row_of z.hours rows i)) (sym (get_or_recut rule seller short cs i inside))
        (placed i (row_of z.hours rows i) c (stands_for seller c) (effective_of_place_most rule short cs i blank inside) (ready.after i lt));
  }
