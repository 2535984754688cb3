use Rattle.std.proofs.Common.{◌≡◌, ℕ, ◌*◌, length, ap, ◌∙◌, rules}
use Rattle.settle.proofs.Between.{ready_sound}
use Rattle.settle.proofs.tests.follow.Goals as goal

pub revise-requires : goal.revise-requires
revise-requires c =
    let z = c.in_ok-sizes.sizes in
    let holds = c.in_ok-sizes.ensures.holds in
    let full : z.agents * 4 * z.hours ≡ 16 = ap (λ (n : ℕ). n * 4 * z.hours) holds.agents ∙ ap (λ (n : ℕ). 2 * 4 * n) holds.hours in
    let covered : length c.args.old.now * z.hours ≡ length c.args.old.now * 2 = ap (λ (n : ℕ). length c.args.old.now * n) holds.hours in
    ready_sound z c.args.old.now c.args.new.now _ _ _ (length c.args.board.now) (search rules) (search rules) (search rules)
    c.in_ok-examine.ensures.sound c.in_ok-examine-2.ensures.sound
