-- Spelled numbers are the words of a line that is cut at its spaces.
use Rattle.std.proofs.Common.{◌≡◌, ℕ, zero, suc, ◌^◌, ◌<◌, eqb, Bool, false, List, [], ◌∷◌, ◌++◌, length, get_or, map, decimal, sym, refl, ap, ◌∙◌, append-nil, arith}
use Rattle.std.specs.List.{All, slice_split, join_with_byte}
use Rattle.std.specs.Fn.{CalledAt}
use Rattle.std.specs.Iterator.Runs.{EachRunFrom}
use Rattle.std.specs.Slice.Iter.{split_rest, split_done, split_callee, split_steps}
use Rattle.std.proofs.lemmas.Bool.{ne_eqb}
use Rattle.std.proofs.lemmas.Fmt.{decimal_injective}
use Rattle.std.proofs.lemmas.Iterator.{YieldsList}
use Rattle.std.proofs.lemmas.Iterator.Splits.{YieldsList-from_slice_split}
use Rattle.std.proofs.lemmas.List.{length-map, map-append, get_or-map}
use Rattle.std.proofs.lemmas.List.Elements.{All-from_get_or}
use Rattle.std.proofs.lemmas.List.Splits.{slice_split-cons_yes, slice_split_none, slice_split_at, join_with_byte-slice_split}
use denote.Param.Members.{Mut}
use denote.Ref.{Bor}
use Rattle.lines.specs.Grammar.{spelled, AllWide, Only}
use Rattle.lines.proofs.Numbers.{digits_all}

-- what spells numbers is nothing, or begins with a space
pub starts_with_space : (text ns : List ℕ) → text ≡ spelled ns → 0 < length text → get_or text 0 0 ≡ 32
starts_with_space text [] e some = absurd (omega (arith, ap length e))
starts_with_space text (n ∷ ns) e some = ap (λ l. get_or l 0 0) e

-- what stands between the spaces
abbrev pub parts : List ℕ → List (List ℕ)
parts text = slice_split (λ b. eqb b 32) text

-- nothing stands before a space with which a text begins
pub first_part : (text first : List ℕ) → (0 < length text → get_or text 0 0 ≡ 32) → first ≡ get_or (parts text) 0 first → first ≡ []
first_part [] first begins is = is
first_part (b ∷ text) first begins is =
    is ∙ ap (λ l. get_or l 0 first) (slice_split-cons_yes (λ b. eqb b 32) b text (ap (λ b. eqb b 32) (begins (omega arith))))

-- the parts are what a call of `split` gives
pub from_split : {F : Type 0} {g : Mut F (Bor ℕ × Unit {0}) Bool} {s : _} {f : F} {Q : _} → EachRunFrom (split_steps g) s Q → (text : List ℕ) → split_rest s ≡ text → split_done s ≡ false → split_callee s ≡ f
    → ((x : ℕ) (b : Bool) (q : F) → CalledAt g f x b q → (q ≡ f) × (b ≡ eqb x 32)) → YieldsList (split_steps g) (λ x. x.now) s (parts text)
from_split {g = g} runs text rest done callee tests = YieldsList-from_slice_split g (λ b. eqb b 32) text rest done callee tests

solid : (n : ℕ) → n < 2 ^ 64 → All (λ b. eqb b 32 ≡ false) (decimal n)
solid n small = All-from_get_or (λ b. eqb b 32 ≡ false) (decimal n) 0 (λ i l. ne_eqb _ 32 (λ e. omega (arith, digits_all n small i l)))

parts_from : (n : ℕ) (ns : List ℕ) → n < 2 ^ 64 → AllWide ns → parts (decimal n ++ spelled ns) ≡ decimal n ∷ map decimal ns
parts_from n [] small w = ap parts (append-nil (decimal n)) ∙ slice_split_none (λ b. eqb b 32) (decimal n) (solid n small)
parts_from n (m ∷ ms) small w =
    slice_split_at (λ b. eqb b 32) (decimal n) 32 (decimal m ++ spelled ms) (solid n small) refl ∙ ap (λ l. decimal n ∷ l) (parts_from m ms w.0 w.1)

parts_spelled : (ns : List ℕ) → AllWide ns → parts (spelled ns) ≡ [] ∷ map decimal ns
parts_spelled [] w = refl
parts_spelled (n ∷ ns) w = slice_split-cons_yes (λ b. eqb b 32) 32 (decimal n ++ spelled ns) refl ∙ ap (λ l. [] ∷ l) (parts_from n ns w.0 w.1)

joined : (x : List ℕ) (ns : List ℕ) → join_with_byte 32 (x ∷ map decimal ns) ≡ x ++ spelled ns
joined x [] = sym (append-nil x)
joined x (n ∷ ns) = ap (λ l. x ++ (32 ∷ l)) (joined (decimal n) ns)

same : (ns ms : List ℕ) → AllWide ns → AllWide ms → map decimal ns ≡ map decimal ms → ns ≡ ms
same [] [] v w e = refl
same [] (m ∷ ms) v w e = absurd (omega (arith, ap length e))
same (n ∷ ns) [] v w e = absurd (omega (arith, ap length e))
same (n ∷ ns) (m ∷ ms) v w e =
    let first : decimal n ≡ decimal m = cc in
    let rest : map decimal ns ≡ map decimal ms = cc in
    let x = decimal_injective n m v.0 w.0 first in
    let y = same ns ms v.1 w.1 rest in
    cc

wide_at : (ns : List ℕ) → AllWide ns → (k : ℕ) → k < length ns → get_or ns k 0 < 2 ^ 64
wide_at [] w k l = omega arith
wide_at (n ∷ ns) w zero l = w.0
wide_at (n ∷ ns) w (suc k) l = wide_at ns w.1 k (omega arith)

pub wide_push : (ns : List ℕ) (n : ℕ) → AllWide ns → n < 2 ^ 64 → AllWide (ns ++ n ∷ [])
wide_push [] n w small = (small, tt)
wide_push (m ∷ ms) n w small = (w.0, wide_push ms n w.1 small)

-- one more word, and its number
pub said : {A : Type 0} (now : A → List ℕ) (words : List A) (word : A) (ns : List ℕ) (n : ℕ) → map now words ≡ map decimal ns → now word ≡ decimal n → map now (words ++ word ∷ []) ≡ map decimal (ns ++ n ∷ [])
said now words word ns n h e = map-append now words (word ∷ []) ∙ (λ i. h i ++ e i ∷ []) ∙ sym (map-append decimal ns (n ∷ []))

module _ (text : List ℕ) where
  -- text is read as ns where its parts are nothing, and then ns in digits
  pub only : (ns : List ℕ) → AllWide ns → [] ∷ map decimal ns ≡ parts text → Only text ns
  only ns v e = record {
    spells = sym (join_with_byte-slice_split 32 text) ∙ ap (join_with_byte 32) (sym e) ∙ joined [] ns;
    only = λ ms w t. same ms ns w v (let h : [] ∷ map decimal ms ≡ [] ∷ map decimal ns = sym (parts_spelled ms w) ∙ ap parts (sym t) ∙ sym e in cc);
  }

  module _ (ns : List ℕ) (w : AllWide ns) (e : text ≡ spelled ns) where
    are : parts text ≡ [] ∷ map decimal ns
    are = ap parts e ∙ parts_spelled ns w

    module _ (word : List ℕ) (k : ℕ) (turn : (suc k < length (parts text)) × (word ≡ get_or (parts text) (suc k) word)) where
      pub in_all : k < length ns
      in_all = omega (arith, turn.0, ap length are, length-map ns decimal)

      pub a_number : ((n : ℕ) → n < 2 ^ 64 → word ≡ decimal n → ⊥) → ⊥
      a_number none = none (get_or ns k 0) (wide_at ns w k in_all) (turn.1 ∙ ap (λ l. get_or l (suc k) word) are ∙ get_or-map decimal ns k 0 word in_all)
