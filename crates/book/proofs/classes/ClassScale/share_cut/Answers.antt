use Rattle.std.proofs.Common.{◌≡◌, ℕ, List, map, replicate, sym, ap, ◌∙◌, arith}
use Rattle.scale.specs.Shares.{down_to, shares_of}
use Rattle.scale.proofs.Running.{down_sound}
use Rattle.book.specs.Cuts.{claim_of, class_weights}
use Rattle.book.specs.Terms.{class_number}
use Rattle.book.proofs.Recutting.{no_shares}
use Rattle.book.proofs.Weighing.{weights_length}
use Rattle.book.proofs.classes.ClassScale.share_cut.Goals as goal

pub returns-else-cut-gt0 : goal.returns-else-cut-gt0
returns-else-cut-gt0 c =
    let cs = c.args.self.now.taken.now in
    let ws : List ℕ = class_weights c.args.self.now.seller (class_number c.args.self.now.class) (map claim_of cs) in
    let none : 0 ≡ c.args.cut = omega (arith, c.if-cut-gt0.false) in
    no_shares down_to down_sound ws c.args.shares.now
    (c.requires.zeros ∙ ap (λ (n : ℕ). replicate n 0) (sym (weights_length c.args.self.now.seller (class_number c.args.self.now.class) cs)))
    ∙ ap (λ (q : ℕ). shares_of down_to q ws) none
