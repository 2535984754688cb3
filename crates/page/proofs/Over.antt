-- One text written after another.
use Rattle.std.proofs.Common.{◌≡◌, ℕ, ◌+◌, ◌^◌, ◌<◌, ◌≤◌, List, ◌++◌, length, take, drop, decimal, sym, ap, ◌∙◌, append_assoc, refl, zero-add, arith, length-append, length-drop, ℤ, w64, SFits}
use Rattle.std.proofs.lemmas.List.{take_at, drop_at, drop-drop, length-take-le}
use Rattle.std.proofs.lemmas.Fmt.{length-decimal-le, length_signed_le}
use Rattle.std.specs.Fmt.{signed_decimal}
use Rattle.page.specs.declared.pen.Pen.{Pen}
use Rattle.page.specs.Page.{over, Fronted, Wrote}

-- what is written over a page leaves it as long as it was
pub length_over : (at : ℕ) (bs page : List ℕ) → at + length bs ≤ length page → length (over at bs page) ≡ length page
length_over at bs page h = simp (length-append, length-drop) (omega (arith, length-take-le at page (omega arith)))

over_then : (at : ℕ) (bs cs page : List ℕ) → at + length bs ≤ length page → over (at + length bs) cs (over at bs page) ≡ over at (bs ++ cs) page
over_then at bs cs page h =
    let rest = drop (at + length bs) page in
    let front = take at page ++ bs in
    let long : length front ≡ at + length bs = length-append (take at page) bs ∙ ap (λ (n : ℕ). n + length bs) (length-take-le at page (omega arith)) in
    let whole = sym (append_assoc (take at page) bs rest) in
    let t : take (at + length bs) (over at bs page) ≡ front = ap (take (at + length bs)) whole ∙ take_at front rest _ long in
    let d : drop (at + length bs) (over at bs page) ≡ rest = ap (drop (at + length bs)) whole ∙ drop_at front rest _ long in
    let e : drop (at + length bs + length cs) (over at bs page) ≡ drop (at + length (bs ++ cs)) page = sym (drop-drop (length cs) (at + length bs) (over at bs page)) ∙ ap (drop (length cs)) d ∙ drop-drop (length cs) (at + length bs) page ∙ ap (λ (n : ℕ). drop n page) (omega (arith, length-append bs cs)) in
    (λ i. t i ++ (cs ++ e i)) ∙ append_assoc (take at page) bs (cs ++ drop (at + length (bs ++ cs)) page) ∙ ap (λ (l : List ℕ). take at page ++ l) (sym (append_assoc bs cs (drop (at + length (bs ++ cs)) page)))

-- one text after another is both together
pub then : {p q r : Pen} {bs cs : List ℕ} → Wrote p bs q → Wrote q cs r → Wrote p (bs ++ cs) r
then {p} {q} {r} {bs} {cs} h k = record {
  room = omega (arith, length-append bs cs, h.at, h.long, k.room);
  page = k.page ∙ rw (h.at, h.page) (over_then p.at bs cs p.page.now h.room);
  at = omega (arith, length-append bs cs, h.at, k.at);
  long = k.long ∙ h.long;
}

-- what a pen writes from the front of a page on, stands at the front of it
pub front : {p q : Pen} {line : List ℕ} → p.at ≡ 0 → Wrote p line q → Fronted line p.page.now q.page.now q.at
front {p} {q} {line} z h = record {
  count = omega (arith, h.at);
  page = h.page ∙ rw (h.at, z, zero-add) refl;
}

pub short_5 : (n : ℕ) → n < 2 ^ 16 → length (decimal n) ≤ 5
short_5 n h = length-decimal-le 5 n (omega arith) (omega arith) (omega arith)

pub short_12 : (n : ℕ) → n ≤ 256000000000 → length (decimal n) ≤ 12
short_12 n h = length-decimal-le 12 n (omega arith) (omega arith) (omega arith)

pub short_20 : (n : ℕ) → n < 2 ^ 64 → length (decimal n) ≤ 20
short_20 n h = length-decimal-le 20 n (omega arith) (omega arith) h

pub signed_20 : (z : ℤ) → SFits w64 z → length (signed_decimal z) ≤ 20
signed_20 z f = length_signed_le 19 z (omega (arith, f.sfits)) (omega (arith, f.sfits))
