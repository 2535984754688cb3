use Rattle.std.proofs.Common.{◌<◌, ◌⊎◌, sym, inl, inr, arith, rules}
use Rattle.std.proofs.lemmas.List.Sums.{sum_by-take-le}
use Rattle.scale.specs.Shares.{down_to}
use Rattle.scale.proofs.Parts.{total_at}
use Rattle.scale.proofs.Running.{part_value, no_part_share}
use Rattle.scale.proofs.share.Sharing.at.Goals as goal

pub returns-then-not-contains : goal.returns-then-not-contains
returns-then-not-contains g c =
    let s = c.args.self.now in
    let outside = no_part_share down_to s.amount (g.S.Scale.weights s.scale.now) c.args.part in
    let past : (c.args.part < 1) ⊎ (c.length.result < c.args.part) = search rules in
    sym (elim past [ inl h ↦ outside (inl h) | inr h ↦ outside (inr (omega arith)) ])

pub given-requires : goal.given-requires
given-requires g c =
    let ws = g.S.Scale.weights c.args.self.now.scale.now in
    omega (arith, total_at ws c.args.part (search rules) (search rules), sum_by-take-le (λ x. x) ws c.args.part)

pub returns : goal.returns
returns g c =
    let s = c.args.self.now in
    part_value down_to s.amount (g.S.Scale.weights s.scale.now) c.args.part s.total c.weight_of_first-before.result c.weight.result c.given-2.result c.given.result
    (search rules) (search rules) s.total_of_scale c.weight_of_first-before.ensures c.weight.ensures c.given.ensures c.given-2.ensures
