-- A move and its reverse. Assumes nothing.
use Rattle.std.proofs.Common.{◌≡◌, ℕ, ◌/◌, ◌%◌, ◌<◌, ◌≢◌, List, length, get_or, Ok, Err, Result, is_ok, OnOk, sym, ap, ◌∙◌, inl, inr, mod-lt, div-add-mod'}
use Rattle.std.proofs.lemmas.List.{ext_get_or}
use Rattle.std.proofs.lemmas.Bool.{cases_eq}
use Rattle.entry.specs.declared.source.Source.{Source}
use Rattle.entry.specs.Kinds.{Kind, Laws, joins, Cancels}
use Rattle.board.specs.declared.deal.Deal.{Deal}
use Rattle.board.specs.Lanes.{room_for, fitting, seller_lane, buyer_lane}
use Rattle.board.specs.Moves.{cell, share, Moved, TakenOff, Undoes}
use Rattle.board.proofs.Cells.{share_from, share_to, share_none}
use Rattle.board.proofs.Lanes.{Fit, fit_from, lanes_apart, some_hour}

module _ {V : Type 0} (k : Kind V) (laws : Laws (joins k)) (from to : ℕ) (s : Source) (apart : from ≢ to) where
  share_back : (q l : ℕ) → Cancels k q s → k.join (share k from to s q l) (share k to from s q l) ≡ k.nothing
  share_back q l cancel = elim (cases_eq l from) [
    | inl e ↦ let nt : l ≢ to = λ x. apart (sym e ∙ x) in
        ap (λ x. k.join x (share k to from s q l)) (share_from k from to s q l e) ∙ ap (k.join (k.sold q s)) (share_to k to from s q l nt e) ∙ cancel
    | inr nf ↦ elim (cases_eq l to) [
      | inl e ↦ ap (λ x. k.join x (share k to from s q l)) (share_to k from to s q l nf e) ∙ ap (k.join (k.bought q s)) (share_from k to from s q l e)
          ∙ laws.comm (k.bought q s) (k.sold q s) ∙ cancel
      | inr nt ↦ ap (λ x. k.join x (share k to from s q l)) (share_none k from to s q l nf nt) ∙ ap (k.join k.nothing) (share_none k to from s q l nt nf)
          ∙ laws.unit k.nothing
    ]
  ]

  moved_back : (h : ℕ) (q : ℕ → ℕ) (old mid new : List V) → 0 < h → Moved k h from to s q h old mid → Moved k h to from s q h mid new → new ≡ old
  moved_back h q old mid new some there back = ext_get_or k.nothing new old (back.long ∙ there.long) (λ i p. at i)
    where
      at_cell : (l t : ℕ) → t < h → cell k h new l t ≡ cell k h old l t
      at_cell l t p = back.cells l t p
          ∙ ap (λ x. k.join x (share k to from s (q t) l)) (there.cells l t p)
          ∙ laws.assoc (cell k h old l t) (share k from to s (q t) l) (share k to from s (q t) l)
          ∙ ap (k.join (cell k h old l t)) (share_back (q t) l (there.cancels t p))
          ∙ laws.unit (cell k h old l t)

      at : (i : ℕ) → get_or new i k.nothing ≡ get_or old i k.nothing
      at i = let is = div-add-mod' i h in
          ap (λ n. get_or new n k.nothing) (sym is) ∙ at_cell (i / h) (i % h) (mod-lt i some) ∙ ap (λ n. get_or old n k.nothing) is

-- what is taken off after a deal was put on leaves the board as it was before that
pub undone : {V E : Type 0} (k : Kind V) (laws : Laws (joins k)) (n : ℕ) (d : Deal) (qs : List ℕ) (old new : List V) (r : Result (Unit {0}) E)
    → is_ok r ≡ fitting (room_for n (length qs)) d → OnOk r (TakenOff k d qs old new) → OnOk r (Undoes k d qs old new)
undone k laws n d qs old new (Ok x) told off = λ before on.
    let fit : Fit (room_for n (length qs)) d = fit_from (room_for n (length qs)) d (sym told) in
    moved_back k laws (seller_lane d) (buyer_lane d) d.source (lanes_apart n (length qs) fit) (length qs) (λ t. get_or qs t 0) before old new (some_hour n (length qs) d fit) on off
undone k laws n d qs old new (Err e) told off = tt
