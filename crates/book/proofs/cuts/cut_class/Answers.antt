use Rattle.std.proofs.Common.{ℕ, List, map, length, get_or, sum, ap, ◌∙◌, arith}
use Rattle.std.proofs.lemmas.List.{take-replicate}
use Rattle.scale.specs.Shares.{down_to}
use Rattle.scale.proofs.Running.{down_sound, length_shared}
use Rattle.book.specs.Cuts.{claim_of, class_weights}
use Rattle.book.specs.Terms.{class_number}
use Rattle.book.proofs.Recutting.{share_amount}
use Rattle.book.proofs.Weighing.{weights_length}
use Rattle.book.proofs.cuts.cut_class.Goals as goal

pub share_cut-requires : goal.share_cut-requires
share_cut-requires c =
    record {
      most = rw c.new.ensures.taken (rw c.new.ensures.seller (rw c.new.ensures.class c.requires.most));
      moderate = rw c.new.ensures.taken (rw c.new.ensures.seller (rw c.new.ensures.class c.requires.moderate));
      zeros = rw c.new.ensures.taken (take-replicate (length c.args.taken.now) 256 0 c.requires.places);
    }

pub leave_each-requires : goal.leave_each-requires
leave_each-requires c =
    let q = c.args.cut in
    let cs = c.args.taken.now in
    let class = class_number c.args.class in
    let ws : List ℕ = class_weights c.args.seller class (map claim_of cs) in
    let shared = rw c.new.ensures.taken at (rw c.new.ensures.seller at (rw c.new.ensures.class at c.share_cut.ensures)) in
    record {
      lengths = ap length shared ∙ length_shared (down_to q (sum ws)) 0 ws ∙ weights_length c.args.seller class cs;
      within = λ i d less. omega (arith, ap (λ (xs : List ℕ). get_or xs i 0) shared, share_amount down_to down_sound c.args.seller class q cs c.requires.most i d less);
    }
