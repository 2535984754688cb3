-- What is sound passes every check.
use Rattle.std.proofs.Common.{◌≡◌, ℕ, zero, suc, ◌+◌, ◌<◌, ◌≤◌, Bool, true, false, not, List, [], ◌∷◌, length, get_or, is_some, Some, None, Option, sym, refl, ap, ◌∙◌, subst, ⊎_elim, arith, IsTrue, ◌↔◌, EachIndex}
use Rattle.std.proofs.lemmas.Bool.{both_ways, le-leb, eq-eqb, ne_eqb, and_from, not_from_false, or_left, or_right, cases_Bool}
use Rattle.std.proofs.lemmas.Bool.Decides.{same_from_decides}
use Rattle.scale.specs.Refusals.{Refusal, unless, first_of}
use Rattle.book.specs.Limits.{between, most_total}
use Rattle.book.specs.Sound.{SoundBook, SoundPlace, each_moderate, book_check, place_checks, sound_place}
use Rattle.book.specs.States.{in_force}
use Rattle.book.specs.Terms.{Acceptable, fields, offer_checks}
use Rattle.book.specs.declared.contract.Contract.{Contract}
use Rattle.book.specs.declared.contract.Offer.{Offer}
use Rattle.book.specs.declared.sizes.Sizes.{Sizes}
use Rattle.book.proofs.Checking.{moderate_all, passes}

pub passes_on : (b : Bool) (n s : ℕ) (rest : List (Option Refusal)) → b ≡ true → first_of rest ≡ None
    → first_of (unless b n s ∷ rest) ≡ None
passes_on b n s rest e more = passes b n s rest e ∙ more

within : (low high x : ℕ) → (low ≤ x) × (x ≤ high) → between low high x ≡ true
within low high x h = and_from _ _ (le-leb low x h.0) (le-leb x high h.1)

pub offer_passes : (z : Sizes) (o : Offer) → Acceptable z o → first_of (offer_checks z o) ≡ None
offer_passes z o a =
    let last : (1 ≤ o.last) × (o.last ≤ z.hours) = (omega (arith, a.first.0, a.last.0), a.last.1) in
    passes_on _ _ _ _ (within _ _ _ a.number)
    (passes_on _ _ _ _ (within _ _ _ a.seller)
    (passes_on _ _ _ _ (within _ _ _ a.buyer)
    (passes_on _ _ _ _ (within _ _ _ a.submarket)
    (passes_on _ _ _ _ (within _ _ _ a.class)
    (passes_on _ _ _ _ (within 0 1 o.source (omega arith, a.source))
    (passes_on _ _ _ _ (within _ _ _ a.first)
    (passes_on _ _ _ _ (and_from _ _ (within _ _ _ last) (le-leb _ _ a.last.0))
    (passes_on _ _ _ _ (within _ _ _ a.amount)
    (passes_on _ _ _ _ (not_from_false _ (ne_eqb _ _ a.parties)) refl)))))))))

moderate_from : (xs : List ℕ) → ((k : ℕ) → k < length xs → get_or xs k 0 ≤ most_total) → each_moderate xs ≡ true
moderate_from [] h = refl
moderate_from (x ∷ xs) h =
    and_from _ _ (le-leb x most_total (h zero (omega arith))) (moderate_from xs (λ k lt. h (suc k) (omega arith)))

-- an answer that tells whether each is moderate
pub moderate_told : (xs : List ℕ) (r : Bool) → (IsTrue r ↔ EachIndex xs (λ k. get_or xs k 0 ≤ most_total)) → r ≡ each_moderate xs
moderate_told xs r h = same_from_decides r (each_moderate xs) h (moderate_all xs, moderate_from xs)

pub place_test : (z : Sizes) (taken : List Contract) (rows : List ℕ) (i : ℕ) (c : Contract) → SoundPlace z taken rows i c
    → sound_place z taken rows i c ≡ true
place_test z taken rows i c s =
    let terms = ap (λ (o : Option Refusal). not (is_some o)) (offer_passes z (fields c.terms) s.terms) in
    let row = ⊎_elim
    (λ (force : in_force c ≡ true). or_right (not (in_force c)) _ (eq-eqb _ _ (s.row force)))
    (λ (idle : in_force c ≡ false). or_left _ _ (not_from_false _ idle))
    (cases_Bool (in_force c)) in
    and_from _ _ (and_from _ _ terms (and_from _ _ (le-leb _ _ s.effective) row)) (le-leb _ _ s.seller)

places_pass : (z : Sizes) (taken : List Contract) (rows : List ℕ) (i : ℕ) (cs : List Contract)
    → ((k j : ℕ) (d : Contract) → j ≡ i + k → k < length cs → sound_place z taken rows j (get_or cs k d) ≡ true)
    → first_of (place_checks z taken rows i cs) ≡ None
places_pass z taken rows i [] h = refl
places_pass z taken rows i (c ∷ cs) h =
    passes_on (sound_place z taken rows i c) 2 (i + 1) (place_checks z taken rows (i + 1) cs) (h zero i c (omega arith) (omega arith))
    (places_pass z taken rows (i + 1) cs (λ k j d e lt. h (suc k) j d (omega arith) (omega arith)))

pub book_passes : (z : Sizes) (taken : List Contract) (rows shortfalls : List ℕ) → SoundBook z taken rows shortfalls
    → book_check z taken rows shortfalls ≡ None
book_passes z taken rows shortfalls s =
    let places = places_pass z taken rows 0 taken (λ k j d e lt.
    let at : k ≡ j = omega arith in
    subst (λ (n : ℕ). sound_place z taken rows n (get_or taken k d) ≡ true) at (place_test z taken rows k _ (s.place k d lt))) in
    passes_on (each_moderate shortfalls) 2 0 (place_checks z taken rows 0 taken) (moderate_from shortfalls s.shortfall) places

-- a book that is refused is not sound
pub refused_unsound : (z : Sizes) (taken : List Contract) (rows shortfalls : List ℕ) (r : Refusal)
    → book_check z taken rows shortfalls ≡ Some r → SoundBook z taken rows shortfalls → ⊥
refused_unsound z taken rows shortfalls r e s =
    both_ways true (ap is_some (sym e ∙ book_passes z taken rows shortfalls s)) refl
