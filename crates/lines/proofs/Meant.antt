-- Which numbers a letter takes.
use Rattle.std.proofs.Common.{◌≡◌, ℕ, zero, suc, ◌^◌, ◌<◌, cond, eqb, false, List, [], ◌∷◌, length, get_or, take, drop, Some, None, Ok, Err, Option, Result, IsOk, IfOk, MatchOption, ◌↔◌, refl, sym, ap, ◌∙◌, subst, arith}
use Rattle.std.proofs.lemmas.Bool.{both_ways}
use Rattle.std.specs.Result.{result_ok}
use Rattle.lines.specs.Grammar.{AllShort, letter, numbers, InFields, Means, Parsed, AllWide, Only, spelled}
use Rattle.lines.specs.declared.command.Command.{Command}
use Rattle.lines.specs.declared.command.Command.TheVariants.{Open, Offer, Confirm, End, Tell, Position, Close, Certificate}

pub short_from : (ns : List ℕ) → ((k : ℕ) → k < length ns → get_or ns k 0 < 2 ^ 16) → AllShort ns
short_from [] h = tt
short_from (n ∷ ns) h = (h 0 (omega arith), short_from ns (λ k l. h (suc k) (omega arith)))

pub short_at : (ns : List ℕ) → AllShort ns → (k : ℕ) → k < length ns → get_or ns k 0 < 2 ^ 16
short_at [] h k l = omega arith
short_at (n ∷ ns) h zero l = h.0
short_at (n ∷ ns) h (suc k) l = short_at ns h.1 k (omega arith)

-- the items that fill an array are the numbers, if these are so many
pub filled : {E : Type 0} (n : ℕ) (ns items : List ℕ) (r : Result (List ℕ) E) → items ≡ ns → AllShort ns → (IsOk r ↔ (length items ≡ n)) → IfOk r (λ a. a ≡ items)
    → MatchOption (result_ok r) (length ns ≡ n → AllShort ns → ⊥) (λ a. (a ≡ ns) × (length a ≡ n) × AllShort a)
filled n ns items (Ok a) same s full is = (is ∙ same, ap length is ∙ full.0 refl, subst AllShort (sym (is ∙ same)) s)
filled n ns items (Err e) same s full is = λ long _. both_ways false refl (full.1 (ap length same ∙ long))

abbrev Shorts : ℕ → List ℕ → Type 0
Shorts n ns = (length ns ≡ n) × AllShort ns

-- what the numbers of a command are, by its letter
abbrev Right : ℕ → List ℕ → Type 0
Right l ns = cond (eqb l 77) (Shorts 4 ns) (cond (eqb l 79) ((length ns ≡ 9) × AllShort (take 8 ns) × (get_or (drop 8 ns) 0 0 < 2 ^ 32)) (cond (eqb l 67) (Shorts 2 ns) (cond (eqb l 69) (Shorts 2 ns) (cond (eqb l 83) ((length ns ≡ 2) × (get_or ns 0 0 < 2 ^ 16)) (cond (eqb l 80) (Shorts 3 ns) (cond (eqb l 90) (Shorts 0 ns) (Shorts 1 ns)))))))

right : (c : Command) → InFields c → Right (letter c) (numbers c)
right (Open a b c d) f = (refl, (f.0, (f.1, (f.2, (f.3, tt)))))
right (Offer a b c d e f g h x) s = (refl, (s.0, (s.1, (s.2, (s.3, (s.4, (s.5, (s.6, (s.7, tt)))))))), s.8)
right (Confirm a b) f = (refl, (f.0, (f.1, tt)))
right (End a b) f = (refl, (f.0, (f.1, tt)))
right (Tell a x) f = (refl, f.0)
right (Position a b c) f = (refl, (f.0, (f.1, (f.2, tt))))
right Close f = (refl, tt)
right (Certificate a) f = (refl, (f, tt))

-- no command has this letter and these numbers
pub none : (l : ℕ) (ns : List ℕ) → (Right l ns → ⊥) → (c : Command) → InFields c → letter c ≡ l → numbers c ≡ ns → ⊥
none l ns no_one c f e is = no_one (subst (λ (m : ℕ). Right m ns) e (subst (Right (letter c)) is (right c f)))

wide : (c : Command) → InFields c → AllWide (numbers c)
wide (Open a b c d) f = (omega arith, (omega arith, (omega arith, (omega arith, tt))))
wide (Offer a b c d e f g h x) s = (omega arith, (omega arith, (omega arith, (omega arith, (omega arith, (omega arith, (omega arith, (omega arith, (omega arith, tt)))))))))
wide (Confirm a b) f = (omega arith, (omega arith, tt))
wide (End a b) f = (omega arith, (omega arith, tt))
wide (Tell a x) f = (omega arith, (f.1, tt))
wide (Position a b c) f = (omega arith, (omega arith, (omega arith, tt)))
wide Close f = tt
wide (Certificate a) f = (omega arith, tt)

module _ (line rest : List ℕ) (l : ℕ) (cut : line ≡ l ∷ rest) where
  pub parsed_from : (ns : List ℕ) (r : Option Command) → Only rest ns → Means l ns r → Parsed line r
  parsed_from ns None h m = λ c fits e.
      let t : rest ≡ spelled (numbers c) = cc in
      let i : letter c ≡ l = cc in
      m c fits i (h.only (numbers c) (wide c fits) t)
  parsed_from ns (Some c) h m =
      let s = h.spells in
      let i = m.1 in
      let j = m.2 in
      (m.0, (cc))
