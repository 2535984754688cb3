use Rattle.std.proofs.Common.{◌≡◌, ℕ, ◌+◌, ◌-◌, ◌<◌, length, get_or, take, sum, ◌∙◌, arith}
use Rattle.std.proofs.lemmas.List.Sums.{sum_by-take-le}
use Rattle.scale.specs.Shares.{down_to}
use Rattle.scale.proofs.Parts.{total_next, weight_next}
use Rattle.scale.proofs.Running.{shared_step}
use Rattle.scale.proofs.share.Sharing.spread.Goals as goal
use Rattle.scale.proofs.share.Sharing.spread.Goals.{After-weight-part}

-- the weights up to this part
up_to : (g : _) (c : After-weight-part g) →
    c.loop-i.weight + c.weight-part.result ≡ sum (take (c.loop-i.i + 1) (g.S.Scale.weights c.args.self.now.scale.now))
up_to g c =
    let ws = g.S.Scale.weights c.args.self.now.scale.now in
    let lt : c.loop-i.i < length ws = omega arith in
    let next = total_next ws c.loop-i.i lt in
    omega arith

pub given_with-upto-requires-clause-within : goal.given_with-upto-requires-clause-within
given_with-upto-requires-clause-within g c =
    omega (arith, up_to g c, sum_by-take-le (λ x. x) (g.S.Scale.weights c.args.self.now.scale.now) (c.loop-i.i + 1))

pub loop-i-preserved : goal.loop-i-preserved
loop-i-preserved g c =
    let s = c.args.self.now in
    let run : ℕ → ℕ = down_to s.amount s.total in
    let ws = g.S.Scale.weights s.scale.now in
    let i = c.loop-i.i in
    let w : c.weight-part.result ≡ get_or ws i 0 = c.weight-part.ensures ∙ weight_next ws i in
    let y : c.given_with-upto.result - c.loop-i.before ≡ run (c.loop-i.weight + c.weight-part.result) - run c.loop-i.weight = omega (arith, c.loop-i.invariant.1, c.given_with-upto.ensures) in
    let lt : i < length ws = omega arith in
    let next = total_next ws i lt in (
      omega arith,
      c.given_with-upto.ensures,
      shared_step run ws c.loop-i.out _ i c.loop-i.weight c.weight-part.result (c.given_with-upto.result - c.loop-i.before) (omega arith) (omega arith) w y c.loop-i.invariant.2,
    )
