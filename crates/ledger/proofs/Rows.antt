-- A row written at a place.
use Rattle.std.proofs.Common.{◌≡◌, ℕ, suc, ◌+◌, ◌-◌, ◌*◌, ◌<◌, ◌≤◌, min, ◌≢◌, List, ◌++◌, length, get_or, take, drop, sym, ap, ◌∙◌, subst, inl, inr, mul-le-mul_right, suc-mul, arith}
use Rattle.std.proofs.lemmas.List.{length-append, length-take, length-drop, length-take-le, take_at, drop_at, get_or_append_left, get_or-append_right, get_or-take, get_or-drop, ext_get_or}
use Rattle.std.proofs.lemmas.Bool.{cases_lt}
use Rattle.book.specs.Sound.{row_of}
use Rattle.ledger.specs.Calls.{put_row}

-- rows lie one behind another
pub row_before : (i j hours : ℕ) → i < j → i * hours + hours ≤ j * hours
row_before i j hours p = subst (λ (n : ℕ). n ≤ j * hours) (suc-mul i hours) (mul-le-mul_right hours (let q : suc i ≤ j = omega arith in q))

module _ (hours i : ℕ) (row rows : List ℕ) (long : length row ≡ hours) (room : i * hours + hours ≤ length rows) where
  front_long : length (take (i * hours) rows) ≡ i * hours
  front_long = length-take-le (i * hours) rows (omega arith)

  pub length_put : length (put_row hours i row rows) ≡ length rows
  length_put = simp (length-append, length-take, length-drop) (omega arith)

  put_front : (n : ℕ) → n < i * hours → get_or (put_row hours i row rows) n 0 ≡ get_or rows n 0
  put_front n p = get_or_append_left (take (i * hours) rows) (row ++ drop (i * hours + hours) rows) 0 n (subst (λ (m : ℕ). n < m) (sym front_long) p)
      ∙ get_or-take (i * hours) rows n 0 p

  put_back : (n : ℕ) → i * hours + hours ≤ n → get_or (put_row hours i row rows) n 0 ≡ get_or rows n 0
  put_back n p =
      get_or-append_right (take (i * hours) rows) (row ++ drop (i * hours + hours) rows) (i * hours) n 0 front_long (omega arith)
      ∙ get_or-append_right row (drop (i * hours + hours) rows) hours (n - i * hours) 0 long (omega arith)
      ∙ get_or-drop (i * hours + hours) rows (n - i * hours - hours) 0
      ∙ ap (λ (m : ℕ). get_or rows m 0) (let e : i * hours + hours + (n - i * hours - hours) ≡ n = omega arith in e)

  pub row_here : row_of hours (put_row hours i row rows) i ≡ row
  row_here = ap (take hours) (drop_at (take (i * hours) rows) (row ++ drop (i * hours + hours) rows) (i * hours) front_long)
      ∙ take_at row (drop (i * hours + hours) rows) hours long

  pub row_there : (j : ℕ) → j ≢ i → row_of hours (put_row hours i row rows) j ≡ row_of hours rows j
  row_there j ne =
      let new = put_row hours i row rows in
      ext_get_or 0 (row_of hours new j) (row_of hours rows j)
      (length-take hours (drop (j * hours) new) ∙ ap (min hours) (length-drop (j * hours) new ∙ ap (λ (n : ℕ). n - j * hours) length_put ∙ sym (length-drop (j * hours) rows))
      ∙ sym (length-take hours (drop (j * hours) rows)))
      (λ x p.
      let inside : x < hours = omega (arith, length-take hours (drop (j * hours) new)) in
      get_or-take hours (drop (j * hours) new) x 0 inside ∙ get_or-drop (j * hours) new x 0
      ∙ elim (cases_lt j i) [
        | inl less ↦ put_front (j * hours + x) (omega (arith, row_before j i hours less))
        | inr more ↦ put_back (j * hours + x) (let less : i < j = omega arith in omega (arith, row_before i j hours less))
      ]
      ∙ sym (get_or-take hours (drop (j * hours) rows) x 0 inside ∙ get_or-drop (j * hours) rows x 0))
