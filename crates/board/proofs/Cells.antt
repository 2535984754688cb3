-- A board of values, one lane written after the other. Assumes nothing.
use Rattle.std.proofs.Common.{◌≡◌, ℕ, ◌+◌, ◌-◌, ◌*◌, ◌/◌, ◌%◌, ◌<◌, ◌≤◌, eqb, ◌≢◌, List, ◌++◌, map, length, get_or, take, drop, sym, ap, ◌∙◌, subst, inl, inr, mul-le-mul_right, add-mul, one-mul, arith}
use borrow.Rule.Slice.PartMut.{put_mid, post_of, same_len_mid}
use lib.Arith.{digits_div, digits_mod}
use Rattle.std.proofs.lemmas.List.{get_or_append_left, get_or-append_right, get_or-take, get_or-drop, length-take-le, length-drop, take-map, drop-map, map-append, length-map}
use Rattle.std.proofs.lemmas.Bool.{cases_eq, cases_lt, eq-eqb, ne_eqb, cond-true, cond-false}
use Rattle.entry.specs.declared.source.Source.{Source}
use Rattle.entry.specs.Kinds.{Kind, Laws, Cancels, joins}
use Rattle.board.specs.Moves.{cell, share, Moved}

-- two places are one only at one lane and one hour
pub same_lane : (l m h t u : ℕ) → t < h → u < h → l * h + t ≡ m * h + u → l ≡ m
same_lane l m h t u p q e = sym (digits_div l p) ∙ ap (λ x. x / h) e ∙ digits_div m q

pub same_hour : (l m h t u : ℕ) → t < h → u < h → l * h + t ≡ m * h + u → t ≡ u
same_hour l m h t u p q e = sym (digits_mod l p) ∙ ap (λ x. x % h) e ∙ digits_mod m q

-- a lane lies within the board
lane_within : (l h n : ℕ) → (l + 1) * h ≤ n → l * h + h ≤ n
lane_within l h n le = omega (arith, add-mul l 1 h, one-mul h)

-- what a board has at an hour of a lane, once the lane `m` was written
module _ {V : Type 0} (k : Kind V) (m h : ℕ) (old new : List V) (n : ℕ) (is : n ≡ h) (within : m * h + h ≤ length old) (long : length new ≡ h) where
  abbrev written : List V
  written = put_mid (m * h) n old new

  start : length (take (m * h) old) ≡ m * h
  start = length-take-le (m * h) old (omega arith)

  cell_in : (t : ℕ) → t < h → cell k h written m t ≡ get_or new t k.nothing
  cell_in t p =
      get_or-append_right (take (m * h) old) (new ++ post_of (m * h) n old) (m * h) (m * h + t) k.nothing start (omega arith)
      ∙ ap (λ i. get_or (new ++ post_of (m * h) n old) i k.nothing) (let e : m * h + t - m * h ≡ t = omega arith in e)
      ∙ get_or_append_left new (post_of (m * h) n old) k.nothing t (omega arith)

  cell_out : (l t : ℕ) → l ≢ m → t < h → cell k h written l t ≡ cell k h old l t
  cell_out l t ne p = elim (cases_lt l m) [
    | inl lt ↦ let before : l * h + t < m * h = omega (arith, mul-le-mul_right h (let up : l + 1 ≤ m = omega arith in up), add-mul l 1 h, one-mul h) in
        get_or_append_left (take (m * h) old) (new ++ post_of (m * h) n old) k.nothing (l * h + t) (omega (arith, start))
        ∙ get_or-take (m * h) old (l * h + t) k.nothing before
    | inr ge ↦ let after : m * h + h ≤ l * h + t = omega (arith, mul-le-mul_right h (let up : m + 1 ≤ l = omega arith in up), add-mul m 1 h, one-mul h) in
        get_or-append_right (take (m * h) old) (new ++ post_of (m * h) n old) (m * h) (l * h + t) k.nothing start (omega arith)
        ∙ get_or-append_right new (post_of (m * h) n old) h (l * h + t - m * h) k.nothing long (omega arith)
        ∙ get_or-drop n (drop (m * h) old) (l * h + t - m * h - h) k.nothing
        ∙ get_or-drop (m * h) old (n + (l * h + t - m * h - h)) k.nothing
        ∙ ap (λ i. get_or old i k.nothing) (let e : m * h + (n + (l * h + t - m * h - h)) ≡ l * h + t = omega arith in e)
  ]

module _ {V : Type 0} (k : Kind V) (from to : ℕ) (s : Source) (q : ℕ) where
  pub share_from : (l : ℕ) → l ≡ from → share k from to s q l ≡ k.sold q s
  share_from l e = cond-true (eqb l from) _ _ (eq-eqb l from e)

  pub share_to : (l : ℕ) → l ≢ from → l ≡ to → share k from to s q l ≡ k.bought q s
  share_to l ne e = cond-false (eqb l from) _ _ (ne_eqb l from ne) ∙ cond-true (eqb l to) _ _ (eq-eqb l to e)

  pub share_none : (l : ℕ) → l ≢ from → l ≢ to → share k from to s q l ≡ k.nothing
  share_none l nf nt = cond-false (eqb l from) _ _ (ne_eqb l from nf) ∙ cond-false (eqb l to) _ _ (ne_eqb l to nt)

-- the values of a board of which a part was written
values_put : {X V : Type 0} (f : X → V) (a n : ℕ) (xs ys : List X) → map f (put_mid a n xs ys) ≡ put_mid a n (map f xs) (map f ys)
values_put f a n xs ys =
    map-append f (take a xs) (ys ++ post_of a n xs)
    ∙ ap (λ zs. zs ++ map f (ys ++ post_of a n xs)) (sym (take-map f a xs))
    ∙ ap (λ zs. take a (map f xs) ++ zs) (map-append f ys (post_of a n xs)
    ∙ ap (λ zs. map f ys ++ zs) (sym (drop-map f n (drop a xs)) ∙ ap (drop n) (sym (drop-map f a xs))))

-- an hour of a lane that was cut out
cell_cut : {X V : Type 0} (k : Kind V) (f : X → V) (h l n t : ℕ) (xs : List X) → t < n
    → get_or (map f (take n (drop (l * h) xs))) t k.nothing ≡ cell k h (map f xs) l t
cell_cut k f h l n t xs p =
    ap (λ vs. get_or vs t k.nothing) (sym (take-map f n (drop (l * h) xs)) ∙ ap (take n) (sym (drop-map f (l * h) xs)))
    ∙ get_or-take n (drop (l * h) (map f xs)) t k.nothing p ∙ get_or-drop (l * h) (map f xs) t k.nothing

-- what was sold was joined to one lane, and then what was bought to another
module _ {V : Type 0} (k : Kind V) (laws : Laws (joins k)) (from to : ℕ) (s : Source) (h : ℕ) (q : ℕ → ℕ) (old sells buys : List V) (n n' : ℕ)
    (apart : from ≢ to) (is : n ≡ h) (is' : n' ≡ h) (leaves : (from + 1) * h ≤ length old) (enters : (to + 1) * h ≤ length old)
    (long : length sells ≡ h) (long' : length buys ≡ h) where
  abbrev mid : List V
  mid = put_mid (from * h) n old sells

  abbrev both : List V
  both = put_mid (to * h) n' mid buys

  long_mid : length mid ≡ length old
  long_mid = same_len_mid (from * h) n old sells (omega (arith, length-take-le n (drop (from * h) old) (omega (arith, length-drop (from * h) old, lane_within from h (length old) leaves))))

  to_within : to * h + h ≤ length mid
  to_within = omega (arith, long_mid, lane_within to h (length old) enters)

  long_both : length both ≡ length mid
  long_both = same_len_mid (to * h) n' mid buys (omega (arith, length-take-le n' (drop (to * h) mid) (omega (arith, length-drop (to * h) mid, to_within))))

  lanes_joined : ((t : ℕ) → t < h → get_or sells t k.nothing ≡ k.join (cell k h old from t) (k.sold (q t) s))
      → ((t : ℕ) → t < h → get_or buys t k.nothing ≡ k.join (cell k h mid to t) (k.bought (q t) s))
      → ((t : ℕ) → t < h → Cancels k (q t) s) → Moved k h from to s q h old both
  lanes_joined sold bought cancels = record {
    long = long_both ∙ long_mid;
    cells = at;
    rest = λ l t p p'. absurd (omega arith);
    cancels = cancels;
  }
    where
      at_from : (t : ℕ) → t < h → cell k h mid from t ≡ k.join (cell k h old from t) (k.sold (q t) s)
      at_from t p = cell_in k from h old sells n is (lane_within from h (length old) leaves) long t p ∙ sold t p

      kept : (l t : ℕ) → l ≢ from → t < h → cell k h mid l t ≡ cell k h old l t
      kept l t ne p = cell_out k from h old sells n is (lane_within from h (length old) leaves) long l t ne p

      at_to : (t : ℕ) → t < h → cell k h both to t ≡ k.join (cell k h mid to t) (k.bought (q t) s)
      at_to t p = cell_in k to h mid buys n' is' to_within long' t p ∙ bought t p

      kept_after : (l t : ℕ) → l ≢ to → t < h → cell k h both l t ≡ cell k h mid l t
      kept_after l t ne p = cell_out k to h mid buys n' is' to_within long' l t ne p

      at : (l t : ℕ) → t < h → cell k h both l t ≡ k.join (cell k h old l t) (share k from to s (q t) l)
      at l t p = elim (cases_eq l from) [
        | inl e ↦ kept_after l t (λ x. apart (sym e ∙ x)) p ∙ ap (λ x. cell k h mid x t) e ∙ at_from t p
            ∙ ap (λ x. k.join (cell k h old x t) (k.sold (q t) s)) (sym e)
            ∙ ap (k.join (cell k h old l t)) (sym (share_from k from to s (q t) l e))
        | inr nf ↦ elim (cases_eq l to) [
          | inl e ↦ ap (λ x. cell k h both x t) e ∙ at_to t p
              ∙ ap (λ x. k.join (cell k h mid x t) (k.bought (q t) s)) (sym e)
              ∙ ap (λ x. k.join x (k.bought (q t) s)) (kept l t nf p)
              ∙ ap (k.join (cell k h old l t)) (sym (share_to k from to s (q t) l nf e))
          | inr nt ↦ kept_after l t nt p ∙ kept l t nf p
              ∙ sym (laws.unit (cell k h old l t)) ∙ ap (k.join (cell k h old l t)) (sym (share_none k from to s (q t) l nf nt))
        ]
      ]

-- and the same of a board of entries
module _ {X V : Type 0} (k : Kind V) (laws : Laws (joins k)) (f : X → V) (from to : ℕ) (s : Source) (h : ℕ) (q : ℕ → ℕ) (old sells buys : List X) (n n' : ℕ)
    (apart : from ≢ to) (is : n ≡ h) (is' : n' ≡ h) (leaves : (from + 1) * h ≤ length old) (enters : (to + 1) * h ≤ length old)
    (long : length sells ≡ h) (long' : length buys ≡ h) where
  abbrev between : List X
  between = put_mid (from * h) n old sells

  pub moved_both : ((t : ℕ) → t < h → get_or (map f sells) t k.nothing ≡ k.join (get_or (map f (take n (drop (from * h) old))) t k.nothing) (k.sold (q t) s))
      → ((t : ℕ) → t < h → get_or (map f buys) t k.nothing ≡ k.join (get_or (map f (take n' (drop (to * h) between))) t k.nothing) (k.bought (q t) s))
      → ((t : ℕ) → t < h → Cancels k (q t) s) → Moved k h from to s q h (map f old) (map f (put_mid (to * h) n' between buys))
  moved_both sold bought cancels =
      subst (Moved k h from to s q h (map f old)) (sym (values_put f (to * h) n' between buys ∙ ap (λ vs. put_mid (to * h) n' vs (map f buys)) mid_is))
      (lanes_joined k laws from to s h q (map f old) (map f sells) (map f buys) n n' apart is is'
      (rw length-map leaves) (rw length-map enters) (rw length-map long) (rw length-map long')
      (λ t p. sold t p ∙ ap (λ x. k.join x (k.sold (q t) s)) (cell_cut k f h from n t old (omega arith)))
      (λ t p. bought t p ∙ ap (λ x. k.join x (k.bought (q t) s)) (cell_cut k f h to n' t between (omega arith) ∙ ap (λ vs. cell k h vs to t) mid_is))
      cancels)
    where
      mid_is : map f between ≡ put_mid (from * h) n (map f old) (map f sells)
      mid_is = values_put f (from * h) n old sells
