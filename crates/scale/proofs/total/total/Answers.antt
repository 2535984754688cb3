use Rattle.std.proofs.Common.{◌≡◌, ◌+◌, ◌-◌, ◌≤◌, take, sum, sym, ap, arith}
use Rattle.scale.specs.Totals.{limit, Passes}
use Rattle.scale.proofs.Parts.{total_at, total_past}
use Rattle.scale.proofs.Totals.{take_rising, passes_is, check_empty, check_fine, told}
use Rattle.scale.proofs.total.total.Goals as goal
use Rattle.scale.proofs.total.total.Goals.{else-loop-part-test, then-loop-part-test+else-weight-so_far+else-part-part-end}

pub returns-then-weight-so_far : goal.returns-then-weight-so_far
returns-then-weight-so_far g c =
    let ws = g.S.Scale.weights c.args.scale.now in
    let p = c.loop-part.part in
    let next = total_at ws p (omega arith) (omega arith) in
    let passes : Passes ws p = record { first = omega arith; last = omega arith; before = λ j k. omega (arith, take_rising ws j (p - 1) (omega arith)); at = omega arith } in
    record { answer = sym (passes_is ws p passes); value = tt; law = told ws }

pub loop-part-preserved : goal.loop-part-preserved
loop-part-preserved g c =
    let ws = g.S.Scale.weights c.args.scale.now in
    let p = c.loop-part.part in
    let next = total_at ws p (omega arith) (omega arith) in
    let back : sum (take (p + 1 - 1) ws) ≡ sum (take p ws) = ap (λ i. sum (take i ws)) (omega arith) in
    (omega arith, omega arith)

pub returns-then-so_far-eq0 : goal.returns-then-so_far-eq0
returns-then-so_far-eq0 g c =
    let ws = g.S.Scale.weights c.args.scale.now in
    let p = c.loop-part.part in
    let none : sum ws ≡ 0 = elim c.loop-part-test.branch [
      | else-loop-part-test w ↦ omega (arith, total_past ws (p - 1) (omega arith))
      | then-loop-part-test+else-weight-so_far+else-part-part-end w ↦ omega (arith, total_past ws p (omega arith), total_at ws p (omega arith) (omega arith))
    ] in
    record { answer = sym (check_empty ws none); value = tt; law = told ws }

pub returns-else-so_far-eq0 : goal.returns-else-so_far-eq0
returns-else-so_far-eq0 g c =
    let ws = g.S.Scale.weights c.args.scale.now in
    let p = c.loop-part.part in
    let all : (c.loop-part-test.so_far ≡ sum ws) × (c.loop-part-test.so_far ≤ limit) = elim c.loop-part-test.branch [
      | else-loop-part-test w ↦ (omega (arith, total_past ws (p - 1) (omega arith)), omega arith)
      | then-loop-part-test+else-weight-so_far+else-part-part-end w ↦ (omega (arith, total_past ws p (omega arith), total_at ws p (omega arith) (omega arith)), omega arith)
    ] in
    record { answer = sym (check_fine ws (omega arith) (omega arith)); value = (all.0, omega arith, all.1); law = told ws }
