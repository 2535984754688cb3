use Rattle.std.proofs.Common.{◌≡◌, ◌≢◌, ◌^◌, ◌<◌, get_or, refl, ap, ◌++◌, decimal, Some, length, [], ◌∷◌, arith, rules, tests}
use Rattle.std.proofs.lemmas.List.{length-map}
use Rattle.std.proofs.lemmas.Iterator.Consumers.{YieldsList-turn, YieldsList-end}
use Rattle.lines.proofs.Spelled.{starts_with_space, from_split, first_part, only, in_all, a_number, said, wide_push}
use Rattle.lines.proofs.parse.read_numbers.Goals as goal

pub returns-then-is_some_and : goal.returns-then-is_some_and
returns-then-is_some_and c =
    let other : (0 < length c.args.text.now) × (get_or c.args.text.now 0 0 ≢ 32) = search (rules, tests) in
    λ ns w few e. other.1 (starts_with_space c.args.text.now ns e other.0)

pub returns-in_err-number : goal.returns-in_err-number
returns-in_err-number c =
    let all = from_split c.split-words.ensures.runs c.args.text.now c.split-words.ensures.rest c.split-words.ensures.done c.split-words.ensures.closure (λ x r q k. search (rules, tests)) in
    let turn = YieldsList-turn all (c.in_ok-next.field-0 ∷ c.loop-word.yielded) _ (_, c.in_ok-next.ensures.steps, rw c.into_iter-word-iterator.ensures.into_iter_gives at c.loop-word.yielded_by) (Some c.in-Some.word) c.next-in-loop-word.new.self c.in-Some.word refl c.in-Some.ensures.steps in
    simp c.from_residual-in_err-number.ensures (λ ns w few e. a_number c.args.text.now ns w e _ _ turn c.in_err-number.ensures)

pub loop-word-preserved : goal.loop-word-preserved
loop-word-preserved c =
    let n = c.in_ok-number.field-0 in
    let small : n < 2 ^ 64 = search rules in
    let items : c.try_push.new.self.items ≡ c.loop-word.numbers.items ++ n ∷ [] = search (rules, c.try_push.ensures.ok) in
    rw items (said (λ x. x.now) c.loop-word.yielded c.in-Some.word c.loop-word.numbers.items n c.loop-word.invariant.0 c.in_ok-number.ensures, wide_push c.loop-word.numbers.items n c.loop-word.invariant.1 small)

pub returns-in_err-ok : goal.returns-in_err-ok
returns-in_err-ok c =
    let all = from_split c.split-words.ensures.runs c.args.text.now c.split-words.ensures.rest c.split-words.ensures.done c.split-words.ensures.closure (λ x r q k. search (rules, tests)) in
    let turn = YieldsList-turn all (c.in_ok-next.field-0 ∷ c.loop-word.yielded) _ (_, c.in_ok-next.ensures.steps, rw c.into_iter-word-iterator.ensures.into_iter_gives at c.loop-word.yielded_by) (Some c.in-Some.word) c.next-in-loop-word.new.self c.in-Some.word refl c.in-Some.ensures.steps in
    simp c.from_residual-in_err-ok.ensures (λ ns w few e. let l = in_all c.args.text.now ns w e _ _ turn in let f : length c.loop-word.numbers.items ≡ 9 = search (rules, c.try_push.ensures.full) in omega (arith, ap length c.loop-word.invariant.0, length-map c.loop-word.yielded (λ x. x.now), length-map c.loop-word.numbers.items decimal))

pub returns : goal.returns
returns c =
    let all = from_split c.split-words.ensures.runs c.args.text.now c.split-words.ensures.rest c.split-words.ensures.done c.split-words.ensures.closure (λ x r q k. search (rules, tests)) in
    let end = YieldsList-end all (c.in_ok-next.field-0 ∷ c.loop-word.yielded) _ (_, c.in_ok-next.ensures.steps, rw c.into_iter-word-iterator.ensures.into_iter_gives at c.loop-word.yielded_by) _ c.next-in-loop-word.new.self c.in-None.is c.next-in-loop-word.ensures.steps in
    let turn = YieldsList-turn all [] _ refl (Some c.in_ok-next.field-0) c.next.new.self c.in_ok-next.field-0 refl c.in_ok-next.ensures.steps in
    let begins : 0 < length c.args.text.now → get_or c.args.text.now 0 0 ≡ 32 = search (rules, tests) in
    let none : c.in_ok-next.field-0.now ≡ [] = first_part c.args.text.now c.in_ok-next.field-0.now begins turn.1 in
    only c.args.text.now c.loop-word.numbers.items c.loop-word.invariant.1 (let e = end.0 in let h = c.loop-word.invariant.0 in cc)
