use Rattle.std.proofs.Common.{◌≡◌, ℕ, ◌+◌, ◌<◌, ◌≤◌, length, get_or, take, sum, ap, ◌∙◌, arith, rules}
use Rattle.std.proofs.iter.runs.Sources.{ranges}
use Rattle.std.proofs.lemmas.List.Sums.{sum_by-take-le}
use Rattle.scale.specs.Weights.{weight_at}
use Rattle.scale.proofs.Parts.{first_weights}
use Rattle.scale.proofs.share.Sharing.weight_of_first.Goals as goal

pub sum-requires-clause-fits : goal.sum-requires-clause-fits
sum-requires-clause-fits g c = λ p s e.
    let ws = g.S.Scale.weights c.args.self.now.scale.now in
    let at : (k : ℕ) → k < length p.items → get_or p.items k 0 ≡ weight_at ws (k + 1) = λ k h. search (rules, ranges) in
    let short : length p.items ≤ length ws = search (rules, ranges) in
    let all = ap sum (first_weights ws p.items short at) in
    let bound = sum_by-take-le (λ x. x) ws (length p.items) in
    omega (arith, c.args.self.now.total_within, c.args.self.now.total_of_scale)

pub returns : goal.returns
returns g c =
    let ws = g.S.Scale.weights c.args.self.now.scale.now in
    let run = c.sum.ensures.runs tt in
    let p = run.0 in
    let at : (k : ℕ) → k < length p.items → get_or p.items k 0 ≡ weight_at ws (k + 1) = λ k h. search (rules, ranges) in
    let long : length p.items ≡ c.args.parts = search (rules, ranges) in
    let all = first_weights ws p.items (omega arith) at in
    run.3 ∙ ap sum all ∙ ap (λ n. sum (take n ws)) long
