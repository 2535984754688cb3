-- A total, one entry more. Assumes nothing.
use Rattle.std.proofs.Common.{◌≡◌, ℕ, ◌+◌, ◌-◌, ◌*◌, ◌^◌, ◌<◌, ◌≤◌, min, List, [], ◌∷◌, ◌++◌, length, get_or, Option, sym, ap, ◌∙◌, inl, inr, add-mul, arith}
use Rattle.std.specs.Iterator.{Drains}
use Rattle.std.specs.Fn.{Called}
use Rattle.std.specs.List.{FoldsTo}
use Rattle.std.proofs.lemmas.Bool.{cases_lt}
use Rattle.std.proofs.lemmas.Fn.{fold_over}
use Rattle.std.proofs.lemmas.Iterator.{YieldsList}
use Rattle.std.proofs.lemmas.List.{get_or_past, length-map}
use denote.Param.Members.{Mut}
use Rattle.entry.specs.declared.joining.Joining as joining
use Rattle.entry.specs.Kinds.{joins_in, values, up_to}
use Rattle.entry.proofs.Totals.{up_more}

-- `fold_over`, with what the fold ran first, so that the rest is read by it
pub fold_all : {S A B F C : Type 0} {steps : S → Option A → S → Type 0} {g : Mut F (C × (A × Unit {0})) C} {s : S} {f : F} {a r : C} →
    (xs : List A) × (f' : F) × Drains steps s xs × FoldsTo {P = F × C} (λ p x q. Called g p.0 (p.1, (x, tt)) q.1 q.0) (f, a) xs (f', r) →
    (v : A → B) (J : List B → C → Type 0) (all : List B) → YieldsList steps v s all → J [] a →
    ((ys : List B) (b : C) (x : A) (d : C) (f' : F) → J ys b → Called g f (b, (x, tt)) d f' → J (ys ++ (v x ∷ [])) d × (f' ≡ f)) → J all r
fold_all {steps = steps} {g = g} {s = s} {f = f} {a = a} {r = r} ran v J all yields none step = fold_over steps v g J f step s all a r yields.runs none ran

-- the index, which stops at the end of its range
pub at_more : (first n step at : ℕ) → at ≡ min (first + n * step) (2 ^ 64 - 1) → min (at + step) (2 ^ 64 - 1) ≡ min (first + (n + 1) * step) (2 ^ 64 - 1)
at_more first n step at e = let more : (n + 1) * step ≡ n * step + step = add-mul n 1 step ∙ omega arith in omega arith

module _ {E : Type 0} (j : joining.Ghosts E) (es : List E) (first step : ℕ) where
  abbrev pub run : ℕ → j.Value
  run k = get_or (values j es) (first + k * step) j.nothing

  abbrev pub so_far : ℕ → j.Value
  so_far n = up_to (joins_in j) n run

  -- what is read at the index: past the slice it is nothing, though the index may have stopped
  read_there : (n at : ℕ) → length es < 2 ^ 64 → at ≡ min (first + n * step) (2 ^ 64 - 1) → get_or (values j es) at j.nothing ≡ run n
  read_there n at fits is = elim (cases_lt (first + n * step) (2 ^ 64)) [
    | inl within ↦ ap (λ i. get_or (values j es) i j.nothing) (omega arith)
    | inr past ↦
        let stopped : length (values j es) ≤ at = rw length-map (omega arith) in
        let further : length (values j es) ≤ first + n * step = rw length-map (omega arith) in
        get_or_past (values j es) at j.nothing stopped ∙ sym (get_or_past (values j es) (first + n * step) j.nothing further)
  ]

  -- sum and index after so many steps
  abbrev pub Went : ℕ → E × ℕ → Type 0
  Went n went = (j.value went.0 ≡ so_far n) × (went.1 ≡ min (first + n * step) (2 ^ 64 - 1))

  pub goes_on : (n : ℕ) (went next : E × ℕ) → length es < 2 ^ 64 → Went n went
      → j.value next.0 ≡ j.joined (j.value went.0) (get_or (values j es) went.1 j.nothing)
      → next.1 ≡ min (went.1 + step) (2 ^ 64 - 1) → Went (n + 1) next
  goes_on n went next fits was joined on = (
    joined
        ∙ ap (j.joined (j.value went.0)) (read_there n went.1 fits was.1)
        ∙ ap (λ v. j.joined v (run n)) was.0
        ∙ sym (up_more (joins_in j) n run),
    on ∙ at_more first n step went.1 was.1,
  )
