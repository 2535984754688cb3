-- What every rounding rule has in common.
use Rattle.std.proofs.Common.{◌≡◌, ℕ, zero, suc, ◌+◌, ◌-◌, ◌*◌, ◌<◌, ◌≤◌, ◌⊎◌, List, [], ◌∷◌, ◌++◌, length, get_or, take, drop, set, sum, sym, refl, ap, ◌∙◌, subst, inl, inr, add-zero, mul-le-mul_right, suc-mul, add-mul, mul-le-mul_left, mul-zero, zero-add, zero-mul, mul-add, div-mul-le_self, arith}
use native.Mathlib.Nat.{lt_of_mul-lt-mul_left, lt-div-mul-add}
use Rattle.std.proofs.lemmas.List.{append_assoc, take_more_set, drop_more}
use Rattle.std.proofs.lemmas.List.Sums.{sum_by-cons}
use Rattle.std.proofs.lemmas.Bool.{cases_lt}
use Rattle.scale.specs.Shares.{shared_by, down_to, Rule, Sound, RoundsWith, Shared, shares_of, stretch, Within, Running}
use Rattle.scale.specs.Fairness.{Fair}
use Rattle.scale.specs.Weights.{weight_at}
use Rattle.scale.proofs.Parts.{total_at, weight_zero, weight_past}

-- a factor less: r * W < s * W + W gives r ≤ s
pub below_next : (r s W : ℕ) → r * W < s * W + W → r ≤ s
below_next r s W h =
    elim (cases_lt s r) [ inr k ↦ k | inl k ↦ let m : (suc s) * W ≤ r * W = mul-le-mul_right W k in omega (arith, suc-mul s W) ]

module _ (q W : ℕ) (run : ℕ → ℕ) (rule : Running q W run) where
  pub run_zero : run 0 ≡ 0
  run_zero = let h : run 0 ≤ 0 = below_next (run 0) 0 W (omega (arith, rule.low 0, rule.small, mul-zero q, zero-mul W)) in omega arith

  pub run_whole : run W ≡ q
  run_whole =
      let h : run W ≤ q = below_next (run W) q W (omega (arith, rule.low W, rule.small)) in
      let k : q ≤ run W = below_next q (run W) W (omega (arith, rule.high W)) in omega arith

  pub run_rising : (a b : ℕ) → a ≤ b → run a ≤ run b
  run_rising a b h = below_next (run a) (run b) W (omega (arith, rule.low a, rule.high b, mul-le-mul_left q h))

  -- what falls to the weights from a on, d of them
  pub run_near : (a d x : ℕ) → x + run a ≡ run (a + d) → Within W (x * W) (q * d)
  run_near a d x e =
      let f : x * W + run a * W ≡ run (a + d) * W = sym (add-mul x (run a) W) ∙ ap (λ r. r * W) e in
      (omega (arith, rule.low (a + d), rule.high a, mul-add q a d), omega (arith, rule.high (a + d), rule.low a, mul-add q a d))

  pub shared_sum : (before : ℕ) (ws : List ℕ) → sum (shared_by run before ws) + run before ≡ run (before + sum ws)
  shared_sum before [] = rw add-zero (zero-add (run before))
  shared_sum before (w ∷ ws) =
      let step : run before ≤ run (before + w) = run_rising before (before + w) (omega arith) in
      let rest = shared_sum (before + w) ws in
      let e : run (before + w + sum ws) ≡ run (before + sum (w ∷ ws)) = ap run (omega (arith, sum_by-cons (λ x. x) w ws)) in
      omega (arith, sum_by-cons (λ x. x) (run (before + w) - run before) (shared_by run (before + w) ws))

pub shared_take : (run : ℕ → ℕ) (n before : ℕ) (ws : List ℕ) → take n (shared_by run before ws) ≡ shared_by run before (take n ws)
shared_take run zero before ws = refl
shared_take run (suc n) before [] = refl
shared_take run (suc n) before (w ∷ ws) = ap (λ r. (run (before + w) - run before) ∷ r) (shared_take run n (before + w) ws)

pub shared_drop : (run : ℕ → ℕ) (n before : ℕ) (ws : List ℕ) → drop n (shared_by run before ws) ≡ shared_by run (before + sum (take n ws)) (drop n ws)
shared_drop run zero before ws = ap (λ b. shared_by run b ws) (sym (add-zero before))
shared_drop run (suc n) before [] = refl
shared_drop run (suc n) before (w ∷ ws) =
    shared_drop run n (before + w) ws ∙ ap (λ b. shared_by run b (drop n ws)) (omega (arith, sum_by-cons (λ x. x) w (take n ws)))

module _ (q W : ℕ) (run : ℕ → ℕ) (rule : Running q W run) where
  pub shared_stretch : (i n : ℕ) (ws : List ℕ) → stretch i n (shared_by run 0 ws) + run (sum (take i ws)) ≡ run (sum (take i ws) + stretch i n ws)
  shared_stretch i n ws =
      let a : ℕ = 0 + sum (take i ws) in
      let e : take n (drop i (shared_by run 0 ws)) ≡ shared_by run (sum (take i ws)) (take n (drop i ws)) =
      ap (take n) (shared_drop run i 0 ws) ∙ shared_take run n (0 + sum (take i ws)) (drop i ws) ∙ ap (λ b. shared_by run b (take n (drop i ws))) (zero-add (sum (take i ws))) in
      ap (λ r. sum r + run (sum (take i ws))) e ∙ shared_sum q W run rule (sum (take i ws)) (take n (drop i ws))

  -- the three theorems, for every rule
  pub shared_total : (ws : List ℕ) → sum ws ≡ W → sum (shared_by run 0 ws) ≡ q
  shared_total ws e = omega (arith, shared_sum q W run rule 0 ws, run_zero q W run rule, run_whole q W run rule, ap run (zero-add (sum ws) ∙ e))

  pub shared_near : (i n : ℕ) (ws : List ℕ) → Within W (stretch i n (shared_by run 0 ws) * W) (q * stretch i n ws)
  shared_near i n ws = run_near q W run rule (sum (take i ws)) (stretch i n ws) (stretch i n (shared_by run 0 ws)) (shared_stretch i n ws)

-- two roundings, one on the other
pub twice : (x y d e A W : ℕ) → 1 ≤ A → e ≤ A → Within A (x * A) (e * y) → Within W (y * W) (A * d) → Within (2 * W) (x * W) (e * d)
twice x y d e A W pos le f g =
    let f0 : (x * A + 1) * W ≤ (e * y + A) * W = mul-le-mul_right W (omega (arith, f.0)) in
    let f1 : (e * y + 1) * W ≤ (x * A + A) * W = mul-le-mul_right W (omega (arith, f.1)) in
    let g0 : e * (y * W + 1) ≤ e * (A * d + W) = mul-le-mul_left e (omega (arith, g.0)) in
    let g1 : e * (A * d + 1) ≤ e * (y * W + W) = mul-le-mul_left e (omega (arith, g.1)) in
    let k : e * W ≤ A * W = mul-le-mul_right W le in
    let w : 1 ≤ W = omega (arith, g.0, g.1) in
    let up : A * (x * W) < A * (e * d + 2 * W) = omega arith in
    let down : A * (e * d) < A * (x * W + 2 * W) = omega arith in
    (lt_of_mul-lt-mul_left A up, lt_of_mul-lt-mul_left A down)

pub down_sound : Sound down_to
down_sound q W pos =
    record { lead = 0; small = pos; low = λ w. omega (arith, div-mul-le_self (q * w) W); high = λ w. omega (arith, lt-div-mul-add {a = q * w} pos) }

pub down_rounds : RoundsWith 0 down_to
unfolding down_sound
down_rounds q W pos = (down_sound q W pos, refl)

-- an amount over a total that equals it is not rounded
pub run_same : (q : ℕ) (run : ℕ → ℕ) → Running q q run → (w : ℕ) → run w ≡ w
run_same q run rule w =
    let h : run w ≤ w = below_next (run w) w q (omega (arith, rule.low w, rule.small)) in
    let k : w ≤ run w = below_next w (run w) q (omega (arith, rule.high w)) in
    omega arith

pub shared_same : (run : ℕ → ℕ) → ((w : ℕ) → run w ≡ w) → (before : ℕ) (ws : List ℕ) → shared_by run before ws ≡ ws
shared_same run e before [] = refl
shared_same run e before (w ∷ ws) =
    let h : run (before + w) - run before ≡ w = omega (arith, e (before + w), e before) in
    ap (λ x. x ∷ shared_by run (before + w) ws) h ∙ ap (λ r. w ∷ r) (shared_same run e (before + w) ws)

module _ (rule : Rule) (sound : Sound rule) where
  pub of_total : (q : ℕ) (ws : List ℕ) → 1 ≤ sum ws → sum (shares_of rule q ws) ≡ q
  of_total q ws pos = shared_total q (sum ws) (rule q (sum ws)) (sound q (sum ws) pos) ws refl

  pub of_near : (q : ℕ) (ws : List ℕ) → 1 ≤ sum ws → (i n : ℕ) → Within (sum ws) (stretch i n (shares_of rule q ws) * sum ws) (q * stretch i n ws)
  of_near q ws pos i n = shared_near q (sum ws) (rule q (sum ws)) (sound q (sum ws) pos) i n ws

  pub of_same : (q : ℕ) (ws : List ℕ) → 1 ≤ sum ws → 1 ≤ q → shares_of rule q (shares_of rule q ws) ≡ shares_of rule q ws
  of_same q ws pos some =
      let t : sum (shares_of rule q ws) ≡ q = of_total q ws pos in
      let s : Running q q (rule q (sum (shares_of rule q ws))) = subst (λ A. Running q q (rule q A)) (sym t) (sound q q some) in
      shared_same (rule q (sum (shares_of rule q ws))) (run_same q (rule q (sum (shares_of rule q ws))) s) 0 (shares_of rule q ws)

  pub fair : Fair (shares_of rule)
  fair = record {
    total = of_total;
    near = of_near;
    again = λ q e ws pos some le i n.
        let t : sum (shares_of rule q ws) ≡ q = of_total q ws pos in
        let f = of_near e (shares_of rule q ws) (omega arith) i n in
        let f' : Within q (stretch i n (shares_of rule e (shares_of rule q ws)) * q) (e * stretch i n (shares_of rule q ws)) =
        subst (λ A. Within A (stretch i n (shares_of rule e (shares_of rule q ws)) * A) (e * stretch i n (shares_of rule q ws))) t f in
        twice _ (stretch i n (shares_of rule q ws)) _ e q (sum ws) some le f' (of_near q ws pos i n);
    whole = of_same;
    whole_near = λ q ws pos some i n. rw (of_same q ws pos some) (of_near q ws pos i n);
  }

-- one more part written, the weights up to it being added up
pub shared_step : (run : ℕ → ℕ) (ws out all : List ℕ) (i before w y : ℕ) → i < length ws → i < length out → w ≡ get_or ws i 0 → y ≡ run (before + w) - run before →
    take i out ++ shared_by run before (drop i ws) ≡ all → take (i + 1) (set out i y) ++ shared_by run (before + w) (drop (i + 1) ws) ≡ all
shared_step run ws out all i before w y h k e f inv =
    let a : take (i + 1) (set out i y) ≡ take i out ++ (y ∷ []) = take_more_set out i y k in
    let b : drop i ws ≡ w ∷ drop (i + 1) ws = drop_more ws i 0 h ∙ ap (λ v. v ∷ drop (i + 1) ws) (sym e) in
    ap (λ r. r ++ shared_by run (before + w) (drop (i + 1) ws)) a
    ∙ append_assoc (take i out) (y ∷ []) (shared_by run (before + w) (drop (i + 1) ws))
    ∙ ap (λ v. take i out ++ (v ∷ shared_by run (before + w) (drop (i + 1) ws))) f
    ∙ ap (λ r. take i out ++ shared_by run before r) (sym b)
    ∙ inv

-- what a row that holds the shares is known to hold
pub shared_row : (rule : Rule) → Sound rule → (q : ℕ) (ws row : List ℕ) → 1 ≤ sum ws → row ≡ shares_of rule q ws → Shared rule q ws row
shared_row rule sound q ws row pos e =
    record { parts = e; total = ap sum e ∙ of_total rule sound q ws pos; near = λ i n. rw e (of_near rule sound q ws pos i n) }

-- what one part gets
pub shared_at : (run : ℕ → ℕ) (before : ℕ) (ws : List ℕ) (j : ℕ) → j < length ws →
    get_or (shared_by run before ws) j 0 ≡ run (before + sum (take (suc j) ws)) - run (before + sum (take j ws))
shared_at run before [] j h = omega arith
shared_at run before (w ∷ ws) zero h =
    let a : before + w ≡ before + sum (w ∷ []) = omega (arith, sum_by-cons (λ x. x) w []) in
    let b : before ≡ before + sum (take 0 (w ∷ ws)) = omega arith in
    ap (λ k. run k - run before) a ∙ ap (λ k. run (before + sum (w ∷ [])) - run k) b
shared_at run before (w ∷ ws) (suc j) h =
    let a : before + w + sum (take (suc j) ws) ≡ before + sum (take (suc (suc j)) (w ∷ ws)) = omega (arith, sum_by-cons (λ x. x) w (take (suc j) ws)) in
    let b : before + w + sum (take j ws) ≡ before + sum (take (suc j) (w ∷ ws)) = omega (arith, sum_by-cons (λ x. x) w (take j ws)) in
    shared_at run (before + w) ws j (omega arith)
    ∙ ap (λ k. run k - run (before + w + sum (take j ws))) a
    ∙ ap (λ k. run (before + sum (take (suc (suc j)) (w ∷ ws))) - run k) b

pub length_shared : (run : ℕ → ℕ) (before : ℕ) (ws : List ℕ) → length (shared_by run before ws) ≡ length ws
length_shared run before [] = refl
length_shared run before (w ∷ ws) = ap suc (length_shared run (before + w) ws)

-- what part p gets, 0 for a part outside
pub part_share : (rule : Rule) (q : ℕ) (ws : List ℕ) (p : ℕ) → 1 ≤ p → p ≤ length ws →
    weight_at (shares_of rule q ws) p ≡ rule q (sum ws) (sum (take (p - 1) ws) + weight_at ws p) - rule q (sum ws) (sum (take (p - 1) ws))
part_share rule q ws zero h k = omega arith
part_share rule q ws (suc j) h k =
    let run : ℕ → ℕ = rule q (sum ws) in
    let a : 0 + sum (take (suc j) ws) ≡ sum (take (suc j - 1) ws) + get_or ws j 0 = omega (arith, total_at ws (suc j) h k) in
    let b : 0 + sum (take j ws) ≡ sum (take (suc j - 1) ws) = zero-add (sum (take j ws)) ∙ ap (λ i. sum (take i ws)) (omega arith) in
    shared_at run 0 ws j (omega arith)
    ∙ ap (λ x. run x - run (0 + sum (take j ws))) a
    ∙ ap (λ x. run (sum (take (suc j - 1) ws) + get_or ws j 0) - run x) b

-- the same, as a program works it out
pub part_value : (rule : Rule) (q : ℕ) (ws : List ℕ) (p W before w low high : ℕ) → 1 ≤ p → p ≤ length ws →
    W ≡ sum ws → before ≡ sum (take (p - 1) ws) → w ≡ weight_at ws p → high ≡ rule q W (before + w) → low ≡ rule q W before →
    high - low ≡ weight_at (shares_of rule q ws) p
part_value rule q ws p W before w low high h k e b x u v = let r = part_share rule q ws p h k in cc

pub no_part_share : (rule : Rule) (q : ℕ) (ws : List ℕ) (p : ℕ) → (p < 1) ⊎ (length ws < p) → weight_at (shares_of rule q ws) p ≡ 0
no_part_share rule q ws p (inl h) = weight_zero (shares_of rule q ws) p h
no_part_share rule q ws p (inr h) = weight_past (shares_of rule q ws) p (omega (arith, length_shared (rule q (sum ws)) 0 ws))

-- a part of a running total is at most the amount
pub run_le : (q W : ℕ) (run : ℕ → ℕ) → Running q W run → (w : ℕ) → w ≤ W → run w ≤ q
run_le q W run rule w h = omega (arith, run_rising q W run rule w W h, run_whole q W run rule)
