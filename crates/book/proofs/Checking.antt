-- The steps of the checks of a book, and what they leave to hold.
use Rattle.std.proofs.Common.{◌≡◌, ℕ, zero, suc, ◌+◌, ◌*◌, ◌<◌, ◌≤◌, min, Bool, true, false, not, ◌&&◌, eqb, leb, List, [], ◌∷◌, length, get_or, take, drop, is_some, Some, None, sum, Option, sym, refl, ap, ◌∙◌, subst, ⊎_elim, add-mul, one-mul, arith}
use Rattle.std.proofs.lemmas.List.{at_drop_more, drop_all, drop-drop, take_all}
use Rattle.std.proofs.lemmas.List.Sums.{sum_by_more}
use Rattle.std.proofs.lemmas.Bool.{leb-true, eqb-true, eqb-false, ne_eqb, and_parts, not-true, cases_eq, both_ways, cases_lt, cond-false, and_right, or_cases}
use Rattle.scale.specs.Refusals.{Refusal, refusal, unless, first_of}
use Rattle.book.specs.Limits.{between, most_total}
use Rattle.book.specs.Sound.{SoundBook, SoundPlace, each_moderate, book_check, place_checks, row_of, seller_total, sold_by, is_sound_alone, sound_place}
use Rattle.book.specs.States.{in_force}
use Rattle.book.specs.Terms.{Acceptable, fields, offer_checks}
use Rattle.book.specs.declared.contract.Contract.{Contract}
use Rattle.book.specs.declared.contract.Offer.{Offer}
use Rattle.book.specs.declared.sizes.Sizes.{Sizes}

-- a check that holds, and one that does not
pub passes : (b : Bool) (n s : ℕ) (rest : List (Option Refusal)) → b ≡ true → first_of (unless b n s ∷ rest) ≡ first_of rest
passes true n s rest e = refl
passes false n s rest e = absurd (both_ways false refl e)

pub fails : (b : Bool) (n s : ℕ) (rest : List (Option Refusal)) → b ≡ false → first_of (unless b n s ∷ rest) ≡ Some (refusal n s)
fails true n s rest e = absurd (both_ways true e refl)
fails false n s rest e = refl

some≢none : {A : Type 0} (a : A) → Some a ≡ None → ⊥
some≢none a e = both_ways true (ap is_some e) refl

-- where nothing is refused, each check holds
pub none_refused : (b : Bool) (n s : ℕ) (rest : List (Option Refusal)) → first_of (unless b n s ∷ rest) ≡ None
    → (b ≡ true) × (first_of rest ≡ None)
none_refused true n s rest e = (refl, e)
none_refused false n s rest e = absurd (some≢none _ e)

between_true : (low high x : ℕ) → between low high x ≡ true → (low ≤ x) × (x ≤ high)
between_true low high x e =
    let p = and_parts (leb low x) (leb x high) e in (leb-true low x p.0, leb-true x high p.1)

-- an offer that no check refuses
pub acceptable : (z : Sizes) (o : Offer) → first_of (offer_checks z o) ≡ None → Acceptable z o
acceptable z o e0 =
    let p1 = none_refused _ _ _ _ e0 in
    let p2 = none_refused _ _ _ _ p1.1 in
    let p3 = none_refused _ _ _ _ p2.1 in
    let p4 = none_refused _ _ _ _ p3.1 in
    let p5 = none_refused _ _ _ _ p4.1 in
    let p6 = none_refused _ _ _ _ p5.1 in
    let p7 = none_refused _ _ _ _ p6.1 in
    let p8 = none_refused _ _ _ _ p7.1 in
    let p9 = none_refused _ _ _ _ p8.1 in
    let p10 = none_refused _ _ _ _ p9.1 in
    let l = and_parts (between 1 z.hours o.last) (leb o.first o.last) p8.0 in
    record {
      number = between_true _ _ _ p1.0;
      seller = between_true _ _ _ p2.0;
      buyer = between_true _ _ _ p3.0;
      submarket = between_true _ _ _ p4.0;
      class = between_true _ _ _ p5.0;
      source = (between_true _ _ _ p6.0).1;
      first = between_true _ _ _ p7.0;
      last = (leb-true _ _ l.1, (between_true _ _ _ l.0).1);
      amount = between_true _ _ _ p9.0;
      parties = eqb-false _ _ (not-true _ p10.0);
    }

-- one row after another off the front of what is left of the rows
drop_min : (n : ℕ) (xs : List ℕ) → drop (min n (length xs)) xs ≡ drop n xs
drop_min n xs =
    ⊎_elim
    (λ (less : n < length xs). let e : min n (length xs) ≡ n = omega arith in ap (λ (k : ℕ). drop k xs) e)
    (λ (more : length xs ≤ n). drop_all _ xs (omega arith) ∙ sym (drop_all n xs more))
    (cases_lt n (length xs))

take_min : (n : ℕ) (xs : List ℕ) → take (min n (length xs)) xs ≡ take n xs
take_min n xs =
    ⊎_elim
    (λ (less : n < length xs). let e : min n (length xs) ≡ n = omega arith in ap (λ (k : ℕ). take k xs) e)
    (λ (more : length xs ≤ n). take_all _ xs (omega arith) ∙ sym (take_all n xs more))
    (cases_lt n (length xs))

pub row_here : (hours i mid : ℕ) (rows rest row : List ℕ) → rest ≡ drop (i * hours) rows → mid ≡ min hours (length rest) → row ≡ take mid rest
    → row ≡ row_of hours rows i
row_here hours i mid rows rest row r m e =
    e ∙ ap (λ (k : ℕ). take k rest) m ∙ take_min hours rest ∙ ap (take hours) r

pub rest_more : (hours i mid : ℕ) (rows rest after : List ℕ) → rest ≡ drop (i * hours) rows → mid ≡ min hours (length rest) → after ≡ drop mid rest
    → after ≡ drop ((i + 1) * hours) rows
rest_more hours i mid rows rest after r m e =
    let n : i * hours + hours ≡ (i + 1) * hours = omega (arith, add-mul i 1 hours, one-mul hours) in
    e ∙ ap (λ (k : ℕ). drop k rest) m ∙ drop_min hours rest ∙ ap (drop hours) r ∙ drop-drop hours (i * hours) rows
    ∙ ap (λ (k : ℕ). drop k rows) n

-- the check of a place that is sound, and of one that is not
pub place_passes : (z : Sizes) (taken : List Contract) (rows : List ℕ) (i : ℕ) (d : Contract) → i < length taken
    → sound_place z taken rows i (get_or taken i d) ≡ true
    → first_of (place_checks z taken rows i (drop i taken)) ≡ first_of (place_checks z taken rows (i + 1) (drop (i + 1) taken))
place_passes z taken rows i d lt e =
    at_drop_more (λ (cs : List Contract). first_of (place_checks z taken rows i cs)) taken i d lt ∙ passes _ _ _ _ e

pub place_fails : (z : Sizes) (taken : List Contract) (rows : List ℕ) (i : ℕ) (d : Contract) → i < length taken
    → sound_place z taken rows i (get_or taken i d) ≡ false
    → first_of (place_checks z taken rows i (drop i taken)) ≡ Some (refusal 2 (i + 1))
place_fails z taken rows i d lt e =
    at_drop_more (λ (cs : List Contract). first_of (place_checks z taken rows i cs)) taken i d lt ∙ fails _ _ _ _ e

pub place_is : (z : Sizes) (taken : List Contract) (rows : List ℕ) (i : ℕ) (c : Contract) (row : List ℕ) (total : ℕ)
    → row ≡ row_of z.hours rows i → total ≡ seller_total c.terms.seller (take (i + 1) taken)
    → (is_sound_alone z row c && leb total most_total) ≡ sound_place z taken rows i c
place_is z taken rows i c row total r t =
    ap (λ (x : List ℕ). is_sound_alone z x c && leb total most_total) r
    ∙ ap (λ (n : ℕ). is_sound_alone z (row_of z.hours rows i) c && leb n most_total) t

-- totals that count one contract more stay moderate where its seller's does
pub still_moderate : (old new : List ℕ) (c : Contract) → ((s : ℕ) → s ≤ 64 → get_or new s 0 ≡ get_or old s 0 + sold_by s c)
    → ((s : ℕ) → s ≤ 64 → get_or old s 0 ≤ most_total) → get_or new c.terms.seller 0 ≤ most_total
    → (s : ℕ) → s ≤ 64 → get_or new s 0 ≤ most_total
still_moderate old new c more low here s h =
    ⊎_elim
    (λ (e : s ≡ c.terms.seller). subst (λ (n : ℕ). get_or new n 0 ≤ most_total) (sym e) here)
    (λ (ne : s ≡ c.terms.seller → ⊥).
    let none : sold_by s c ≡ 0 = cond-false _ _ _ (and_right (in_force c) _ (ne_eqb _ _ (λ e. ne (sym e)))) in
    omega (arith, more s h, low s h))
    (cases_eq s c.terms.seller)

-- one contract more in the total of a seller
pub total_more : (taken : List Contract) (i : ℕ) (d : Contract) (s old new : ℕ) → i < length taken
    → old ≡ seller_total s (take i taken) → new ≡ old + sold_by s (get_or taken i d) → new ≡ seller_total s (take (i + 1) taken)
total_more taken i d s old new lt o n =
    n ∙ ap (λ (k : ℕ). k + sold_by s (get_or taken i d)) o ∙ sym (sum_by_more (sold_by s) taken i d lt)

-- what a sound book holds
pub moderate_all : (xs : List ℕ) → each_moderate xs ≡ true → (k : ℕ) → k < length xs → get_or xs k 0 ≤ most_total
moderate_all [] e k lt = absurd (omega arith)
moderate_all (x ∷ xs) e zero lt = leb-true x most_total (and_parts _ (each_moderate xs) e).0
moderate_all (x ∷ xs) e (suc k) lt = moderate_all xs (and_parts (leb x most_total) _ e).1 k (omega arith)

places_all : (z : Sizes) (taken : List Contract) (rows : List ℕ) (i : ℕ) (cs : List Contract) → first_of (place_checks z taken rows i cs) ≡ None
    → (k j : ℕ) (d : Contract) → j ≡ i + k → k < length cs → sound_place z taken rows j (get_or cs k d) ≡ true
places_all z taken rows i [] e k j d at lt = absurd (omega arith)
places_all z taken rows i (c ∷ cs) e zero j d at lt =
    let here : i ≡ j = omega arith in
    subst (λ (n : ℕ). sound_place z taken rows n c ≡ true) here (none_refused _ _ _ _ e).0
places_all z taken rows i (c ∷ cs) e (suc k) j d at lt =
    let rest = (none_refused (sound_place z taken rows i c) 2 (i + 1) (place_checks z taken rows (i + 1) cs) e).1 in
    places_all z taken rows (i + 1) cs rest k j d (omega arith) (omega arith)

none_from : {A : Type 0} (o : Option A) → not (is_some o) ≡ true → o ≡ None
none_from None e = refl
none_from (Some a) e = absurd (both_ways _ refl e)

pub sound_place_lem : (z : Sizes) (taken : List Contract) (rows : List ℕ) (i : ℕ) (c : Contract) → sound_place z taken rows i c ≡ true
    → SoundPlace z taken rows i c
sound_place_lem z taken rows i c e =
    let p = and_parts (is_sound_alone z (row_of z.hours rows i) c) _ e in
    let q = and_parts (not (is_some (first_of (offer_checks z (fields c.terms))))) _ p.0 in
    let r = and_parts (leb c.effective c.terms.amount) _ q.1 in
    record {
      terms = acceptable z (fields c.terms) (none_from _ q.0);
      effective = leb-true _ _ r.0;
      row = λ force. ⊎_elim
          (λ (idle : not (in_force c) ≡ true). absurd (both_ways _ (not-true _ idle) force))
          (λ (full : eqb (sum (row_of z.hours rows i)) c.terms.amount ≡ true). eqb-true _ _ full)
          (or_cases (not (in_force c)) _ r.1);
      seller = leb-true _ _ p.1;
    }

pub sound_book : (z : Sizes) (taken : List Contract) (rows shortfalls : List ℕ) → book_check z taken rows shortfalls ≡ None
    → SoundBook z taken rows shortfalls
sound_book z taken rows shortfalls e =
    let p = none_refused _ _ _ _ e in
    record {
      shortfall = moderate_all shortfalls p.0;
      place = λ i d lt. sound_place_lem z taken rows i _ (places_all z taken rows 0 taken p.1 i i d (omega arith) lt);
    }
