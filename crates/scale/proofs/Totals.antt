-- What the check of a total tells.
use Rattle.std.proofs.Common.{◌≡◌, ℕ, zero, suc, ◌+◌, ◌<◌, ◌≤◌, eqb, leb, ◌⊎◌, List, [], ◌∷◌, length, take, Some, None, sum, Option, sym, ap, ◌∙◌, subst, inl, inr, arith}
use Rattle.std.proofs.lemmas.List.{take-take}
use Rattle.std.proofs.lemmas.List.Sums.{sum_by-cons, sum_by-take-le}
use Rattle.std.proofs.lemmas.Bool.{cases_lt, le-leb, lt-leb, eq-eqb, cond-true, cond-false}
use Rattle.scale.specs.Refusals.{Refusal, refusal, unless, first_of}
use Rattle.scale.specs.Totals.{limit, passed_at, total_check, Passes, Told}
use Rattle.scale.specs.Shares.{part_check, share_check}

-- the running total up to part j is at most that up to a later part k
pub take_rising : (ws : List ℕ) (j k : ℕ) → j ≤ k → sum (take j ws) ≤ sum (take k ws)
take_rising ws j k h = omega (arith, sum_by-take-le (λ x. x) (take k ws) j, ap sum (take-take j k ws h))

-- where the running total passes between p parts and one more, that is the part told
pub passed_at_lem : (before : ℕ) (ws : List ℕ) (p : ℕ) → p < length ws → before + sum (take p ws) ≤ limit → limit < before + sum (take (suc p) ws) →
    passed_at before ws ≡ suc p
passed_at_lem before [] p h low high = omega arith
passed_at_lem before (w ∷ ws) zero h low high =
    cond-false _ _ _ (lt-leb (before + w) limit (omega (arith, sum_by-cons (λ x. x) w [])))
passed_at_lem before (w ∷ ws) (suc p) h low high =
    let s = sum_by-cons (λ x. x) w (take p ws) in
    let t = sum_by-cons (λ x. x) w (take (suc p) ws) in
    cond-true _ _ _ (le-leb (before + w) limit (omega arith))
    ∙ ap suc (passed_at_lem (before + w) ws p (omega arith) (omega arith) (omega arith))

-- a total above the limit passes it at a part
pub passes_somewhere : (before : ℕ) (ws : List ℕ) → before ≤ limit → limit < before + sum ws →
    (p : ℕ) × (p < length ws) × (before + sum (take p ws) ≤ limit) × (limit < before + sum (take (suc p) ws))
passes_somewhere before [] low high = let no : ⊥ = omega arith in absurd no
passes_somewhere before (w ∷ ws) low high =
    let s = sum_by-cons (λ x. x) w ws in
    elim (cases_lt limit (before + w)) [
      | inl h ↦ (0, omega arith, omega arith, omega (arith, sum_by-cons (λ x. x) w []))
      | inr h ↦
          let q = passes_somewhere (before + w) ws h (omega arith) in
          (suc q.0, omega arith, omega (arith, sum_by-cons (λ x. x) w (take q.0 ws)), omega (arith, sum_by-cons (λ x. x) w (take (suc q.0) ws)))
    ]

pub check_empty : (ws : List ℕ) → sum ws ≡ 0 → total_check ws ≡ Some (refusal 12 0)
check_empty ws e = ap (λ b. first_of (unless b 12 0 ∷ unless (leb (sum ws) limit) 13 (passed_at 0 ws) ∷ [])) (lt-leb 1 (sum ws) (omega arith))

pub check_heavy : (ws : List ℕ) → limit < sum ws → total_check ws ≡ Some (refusal 13 (passed_at 0 ws))
check_heavy ws h =
    ap (λ b. first_of (unless b 12 0 ∷ unless (leb (sum ws) limit) 13 (passed_at 0 ws) ∷ [])) (le-leb 1 (sum ws) (omega arith))
    ∙ ap (λ b. first_of (unless b 13 (passed_at 0 ws) ∷ [])) (lt-leb (sum ws) limit h)

pub check_fine : (ws : List ℕ) → 1 ≤ sum ws → sum ws ≤ limit → total_check ws ≡ None
check_fine ws h k =
    ap (λ b. first_of (unless b 12 0 ∷ unless (leb (sum ws) limit) 13 (passed_at 0 ws) ∷ [])) (le-leb 1 (sum ws) h)
    ∙ ap (λ b. first_of (unless b 13 (passed_at 0 ws) ∷ [])) (le-leb (sum ws) limit k)

-- the three ways that the check goes
pub check_ways : (ws : List ℕ) →
    ((sum ws ≡ 0) × (total_check ws ≡ Some (refusal 12 0)))
    ⊎ (((limit < sum ws) × (total_check ws ≡ Some (refusal 13 (passed_at 0 ws)))) ⊎ ((1 ≤ sum ws) × (sum ws ≤ limit) × (total_check ws ≡ None)))
check_ways ws =
    elim (cases_lt 0 (sum ws)) [
      | inr z ↦ let e : sum ws ≡ 0 = omega arith in inl (e, check_empty ws e)
      | inl h ↦ elim (cases_lt limit (sum ws)) [ inl k ↦ inr (inl (k, check_heavy ws k)) | inr k ↦ inr (inr (h, k, check_fine ws h k)) ]
    ]

pub passes_from : (ws : List ℕ) (p : ℕ) → p < length ws → sum (take p ws) ≤ limit → limit < sum (take (suc p) ws) → Passes ws (suc p)
passes_from ws p h low high =
    record { first = omega arith; last = omega arith; before = λ j k. omega (arith, take_rising ws j p (omega arith)); at = high }

pub passes_is : (ws : List ℕ) (p : ℕ) → Passes ws p → total_check ws ≡ Some (refusal 13 p)
passes_is ws zero s = let no : ⊥ = omega (arith, s.first) in absurd no
passes_is ws (suc p) s =
    let h : limit < sum ws = omega (arith, s.at, sum_by-take-le (λ x. x) ws (suc p)) in
    check_heavy ws h
    ∙ ap (λ k. Some (refusal 13 k)) (passed_at_lem 0 ws p (omega (arith, s.last)) (omega (arith, s.before p (omega arith))) (omega (arith, s.at)))

pub heavy_passes : (ws : List ℕ) → limit < sum ws → Passes ws (passed_at 0 ws)
heavy_passes ws h =
    let q = passes_somewhere 0 ws (omega arith) (omega arith) in
    subst (Passes ws) (sym (passed_at_lem 0 ws q.0 q.1 q.2 q.3))
    (passes_from ws q.0 q.1 (omega (arith, q.2)) (omega (arith, q.3)))

-- the number and the spot of a refusal
number_is : Option Refusal → ℕ
number_is None = 0
number_is (Some r) = r.number

spot_is : Option Refusal → ℕ
spot_is None = 0
spot_is (Some r) = r.spot

apart : {A : Type 0} (a b : Option Refusal) → (number_is a ≡ number_is b → ⊥) → a ≡ b → A
apart a b differ e = absurd (differ (ap number_is e))

pub told : (ws : List ℕ) → Told ws
unfolding number_is spot_is
told ws = record {
  weightless = λ e. elim (check_ways ws) [
    | inl w ↦ w.0
    | inr (inl w) ↦ apart _ _ (λ z. omega arith) (sym w.1 ∙ e)
    | inr (inr w) ↦ apart _ _ (λ z. omega arith) (sym w.2 ∙ e)
  ];
  empty = check_empty ws;
  heavy = λ p e. elim (check_ways ws) [
    | inl w ↦ apart _ _ (λ z. omega arith) (sym w.1 ∙ e)
    | inr (inl w) ↦ subst (Passes ws) (ap spot_is (sym w.1 ∙ e)) (heavy_passes ws w.0)
    | inr (inr w) ↦ apart _ _ (λ z. omega arith) (sym w.2 ∙ e)
  ];
  passing = passes_is ws;
}

-- the checks before an amount is shared all pass
pub part_fine : (q : ℕ) (ws : List ℕ) → q ≤ limit → None ≡ total_check ws → None ≡ part_check q ws
part_fine q ws h t =
    sym (ap (λ b. first_of (unless b 4 1 ∷ total_check ws ∷ [])) (le-leb q limit h) ∙ ap (λ o. first_of (o ∷ [])) (sym t))

pub share_fine : (q places : ℕ) (ws : List ℕ) → q ≤ limit → places ≡ length ws → None ≡ total_check ws → None ≡ share_check q places ws
share_fine q places ws h e t =
    sym (ap (λ b. first_of (unless b 4 1 ∷ unless (eqb places (length ws)) 11 0 ∷ total_check ws ∷ [])) (le-leb q limit h)
    ∙ ap (λ b. first_of (unless b 11 0 ∷ total_check ws ∷ [])) (eq-eqb places (length ws) e)
    ∙ ap (λ o. first_of (o ∷ [])) (sym t))
