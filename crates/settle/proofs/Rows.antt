-- A loop over the contracts before and after, each pair with its row. Assumes nothing.
use Rattle.std.proofs.Common.{◌≡◌, ℕ, zero, suc, ◌+◌, ◌*◌, ◌/◌, ◌<◌, ◌≤◌, List, [], ◌∷◌, ◌++◌, length, get_or, take, drop, Option, Some, None, Bor, refl, sym, ap, ◌∙◌, subst, arith, length-append, add-mul, one-mul}
use Rattle.std.proofs.Math.Nat.{add-div_left, div-eq_of_lt}
use Rattle.std.proofs.iter.Yields.{fronts}
use Rattle.std.proofs.lemmas.Iterator.{YieldsList, YieldsList-from_slice, YieldsList-from_zip, zips}
use Rattle.std.proofs.lemmas.Iterator.Consumers.{YieldsList-turn, YieldsList-end}
use Rattle.std.proofs.lemmas.Iterator.Splits.{YieldsList-from_shown_while}
use Rattle.std.proofs.lemmas.List.{take_at, drop_at, drop-drop, get_or_default}
use Rattle.std.proofs.lemmas.Nat.{le-div}
use Rattle.std.proofs.lemmas.Slice.Zip.{length-zip, get_or-zip}
use Rattle.std.specs.Iterator.{Yields}
use Rattle.std.specs.Iterator.Adapters.{zip_first, zip_second}
use Rattle.std.specs.List.{zip}
use Rattle.std.specs.Slice.Iter.{iter_rest, chunks_exact_rest, chunks_exact_size, chunks_exact_steps}
use Rattle.book.specs.Sound.{row_of}

-- the first n rows of so many hours
abbrev first_rows : ℕ → ℕ → List ℕ → List (List ℕ)
first_rows h zero rows = []
first_rows h (suc n) rows = take h rows ∷ first_rows h n (drop h rows)

length-first_rows : (h n : ℕ) (rows : List ℕ) → length (first_rows h n rows) ≡ n
length-first_rows h zero rows = refl
length-first_rows h (suc n) rows = ap suc (length-first_rows h n (drop h rows))

get_or-first_rows : (h n i : ℕ) (rows : List ℕ) (d : List ℕ) → i < n → get_or (first_rows h n rows) i d ≡ row_of h rows i
get_or-first_rows h zero i rows d p = absurd (omega arith)
get_or-first_rows h (suc n) zero rows d p = ap (λ k. take h (drop k rows)) (let e : 0 ≡ zero * h = omega arith in e)
get_or-first_rows h (suc n) (suc i) rows d p =
    get_or-first_rows h n i (drop h rows) d (omega arith)
    ∙ ap (take h) (drop-drop (i * h) h rows ∙ ap (λ k. drop k rows) (let e : h + i * h ≡ suc i * h = omega (arith, add-mul i 1 h, one-mul h) in e))

-- what is cut off first is the first row
row_first : (h : ℕ) (row rest all : List ℕ) → 0 < h → all ≡ row ++ rest → length row ≡ h
    → first_rows h (length all / h) all ≡ row ∷ first_rows h (length rest / h) rest
row_first h row rest all some is long =
    let n : length all / h ≡ suc (length rest / h) =
    ap (λ k. k / h) (ap length is ∙ length-append row rest ∙ ap (λ k. k + length rest) long) ∙ add-div_left (length rest) some ∙ (let e : length rest / h + 1 ≡ suc (length rest / h) = omega arith in e) in
    ap (λ k. first_rows h k all) n
    ∙ ap (λ r. r ∷ first_rows h (length rest / h) (drop h all)) (ap (take h) is ∙ take_at row rest h long)
    ∙ ap (λ r. row ∷ first_rows h (length rest / h) r) (ap (drop h) is ∙ drop_at row rest h long)

rows_yield : (h : ℕ) (rows : List ℕ) (s : _) → 0 < h → chunks_exact_rest s ≡ rows → chunks_exact_size s ≡ h
    → YieldsList (chunks_exact_steps {A = ℕ}) (λ y. y.now) s (first_rows h (length rows / h) rows)
rows_yield h rows s some rest size =
    subst (λ z. YieldsList chunks_exact_steps (λ y. y.now) s (first_rows z (length rows / z) rows)) size
    (subst (λ xs. YieldsList chunks_exact_steps (λ y. y.now) s (first_rows (chunks_exact_size s) (length xs / chunks_exact_size s) xs)) rest
    (YieldsList-from_shown_while (chunks_exact_steps {A = ℕ}) (λ y. y.now) (λ s. first_rows (chunks_exact_size s) (length (chunks_exact_rest s) / chunks_exact_size s) (chunks_exact_rest s))
    (λ s. 0 < chunks_exact_size s)
    (λ s t p k. length-first_rows _ _ _ ∙ div-eq_of_lt k.1.0)
    (λ s x t p k. (
      subst (λ z. 0 < z) (sym k.0) p,
      row_first (chunks_exact_size s) x.now (chunks_exact_rest t) (chunks_exact_rest s) p k.1.0 k.1.1
          ∙ ap (λ z. x.now ∷ first_rows z (length (chunks_exact_rest t) / z) (chunks_exact_rest t)) (sym k.0),
    ))
    s (subst (λ z. 0 < z) (sym size) some)))

module _ {X : Type 0} (old new : List X) (rows : List ℕ) (h : ℕ) (some : 0 < h) (same : length new ≡ length old) (covered : length old * h ≤ length rows) (s : _)
    (first : iter_rest (zip_first (zip_first s)) ≡ old) (second : iter_rest (zip_second (zip_first s)) ≡ new)
    (third : chunks_exact_rest (zip_second s) ≡ rows) (size : chunks_exact_size (zip_second s) ≡ h) where
  pairs_yield : YieldsList (zips (zips (fronts {A = X}) (fronts {A = X})) (chunks_exact_steps {A = ℕ})) (λ p. ((p.0.0.now, p.0.1.now), p.1.now)) s
      (zip (zip old new) (first_rows h (length rows / h) rows))
  pairs_yield = YieldsList-from_zip (YieldsList-from_zip (YieldsList-from_slice old first) (YieldsList-from_slice new second)) (rows_yield h rows (zip_second s) some third size)

  enough : length old ≤ length rows / h
  enough = le-div (length old) (length rows) h some covered

  all_long : length (zip (zip old new) (first_rows h (length rows / h) rows)) ≡ length old
  all_long = omega (arith, length-zip (zip old new) (first_rows h (length rows / h) rows), length-zip old new, length-first_rows h (length rows / h) rows, enough, same)

  -- this turn's contracts and row, and where the loop ends
  module _ (xs : List ((Bor X × Bor X) × Bor (List ℕ))) (t u : _) (so_far : Yields (zips (zips fronts fronts) chunks_exact_steps) s xs t) (r : Option ((Bor X × Bor X) × Bor (List ℕ)))
      (step : zips (zips fronts fronts) chunks_exact_steps t r u) where
    pub turn : (p : (Bor X × Bor X) × Bor (List ℕ)) → r ≡ Some p → (d : X)
        → (length xs < length old) × (p.0.0.now ≡ get_or old (length xs) d) × (p.0.1.now ≡ get_or new (length xs) d) × (p.1.now ≡ row_of h rows (length xs))
    turn p is d =
        let w = YieldsList-turn pairs_yield xs t so_far r u p is step in
        let lt : length xs < length old = omega (arith, w.0, all_long) in
        let pairs : get_or (zip (zip old new) (first_rows h (length rows / h) rows)) (length xs) ((p.0.0.now, p.0.1.now), p.1.now)
        ≡ (get_or (zip old new) (length xs) (p.0.0.now, p.0.1.now), get_or (first_rows h (length rows / h) rows) (length xs) p.1.now)
        = get_or-zip (zip old new) (first_rows h (length rows / h) rows) (length xs) ((p.0.0.now, p.0.1.now), p.1.now)
        (omega (arith, length-zip old new, same)) (omega (arith, length-first_rows h (length rows / h) rows, enough)) in
        let both : get_or (zip old new) (length xs) (p.0.0.now, p.0.1.now) ≡ (get_or old (length xs) p.0.0.now, get_or new (length xs) p.0.1.now)
        = get_or-zip old new (length xs) (p.0.0.now, p.0.1.now) lt (omega (arith, same)) in
        let all = w.1 ∙ pairs in (
          lt,
          ap (λ z. z.0.0) all ∙ ap (λ z. z.0) both ∙ get_or_default old (length xs) p.0.0.now d lt,
          ap (λ z. z.0.1) all ∙ ap (λ z. z.1) both ∙ get_or_default new (length xs) p.0.1.now d (omega (arith, same)),
          ap (λ z. z.1) all ∙ get_or-first_rows h (length rows / h) (length xs) rows p.1.now (omega (arith, enough)),
        )

    pub end : r ≡ None → length xs ≡ length old
    end is = (YieldsList-end pairs_yield xs t so_far r u is step).1 ∙ all_long
