-- No number of a board wraps: each is the true difference of what was sold and what was bought.
use Rattle.std.proofs.Common.{◌≡◌, ℕ, zero, suc, ◌+◌, ◌*◌, ◌<◌, ◌≤◌, Bool, true, false, cond, ◌&&◌, eqb, List, length, get_or, ℤ, pos, ◌+ℤ◌, ◌-ℤ◌, neg_ℤ, sum, sym, refl, ap, ◌∙◌, subst, inl, inr, arith, w64, SFits}
use lib.IntN.{+ℤ_idl, +ℤ_idr}
use Rattle.std.proofs.lemmas.List.{get_or_past}
use Rattle.std.proofs.lemmas.Int.{ints}
use Rattle.std.proofs.lemmas.List.Sums.{get_or-le-sum_by}
use Rattle.std.proofs.lemmas.Bool.{cases_lt, cond_both, eqb-true, and_parts}
use Rattle.scale.specs.Weights.{weight_at}
use Rattle.entry.specs.Kinds.{Kind, Laws, joins, up_to}
use Rattle.entry.specs.Meanings.{net_kind, by_source_kind}
use Rattle.entry.specs.Words.{Word, word, word_of, no_words, word_joins, both_joins, naturals, integers}
use Rattle.entry.proofs.Exact.{up_words, up_both, up_pos, up_neg, up_at_most, integer_laws, net_exact, by_source_exact}
use Rattle.entry.proofs.Totals.{up_same, up_join}
use Rattle.entry.specs.Wrap.{word_laws, both_laws}
use Rattle.ledger.specs.States.{State}
use Rattle.ledger.specs.Boards.{position_of}
use Rattle.ledger.specs.Past.{Event, Ledger, ledger, line_at, stands, quantities_in, source_of}
use Rattle.ledger.specs.Balance.{sum_to}
use Rattle.ledger.specs.Differences.{counts, sales_in, purchases_in, difference_in, NetIsTrue, BySourceIsTrue}
use Rattle.ledger.specs.Lives.{Lived}
use Rattle.ledger.proofs.Law.{kept_in_life, lives_balance}

-- the quantity of a contract with its sign: sold, bought or neither
abbrev signed : Bool → Bool → Bool → Bool → Bool → ℕ → ℤ
signed standing here right sells buys q = pos (cond ((standing && (here && right)) && sells) q 0) -ℤ pos (cond ((standing && (here && right)) && buys) q 0)

neither : (standing here sells buys : Bool) (q : ℕ) → signed standing here false sells buys q ≡ pos 0
neither true true sells buys q = refl
neither true false sells buys q = refl
neither false here sells buys q = refl

net_line : (standing here sells buys : Bool) (q src : ℕ) → (sells ≡ true → buys ≡ true → ⊥) →
    cond standing (cond here (cond sells (net_kind.sold q (source_of src)) (cond buys (net_kind.bought q (source_of src)) (word 0))) (word 0)) (word 0)
    ≡ word_of (signed standing here true sells buys q)
net_line true true true true q src apart = absurd (apart refl refl)
net_line true true true false q src apart = ap word_of (sym (+ℤ_idr (pos q)))
net_line true true false true q src apart = ap word_of (sym (+ℤ_idl (neg_ℤ (pos q))))
net_line true true false false q src apart = refl
net_line true false sells buys q src apart = refl
net_line false here sells buys q src apart = refl

by_source_line : (standing here sells buys : Bool) (q src : ℕ) → src ≤ 1 → (sells ≡ true → buys ≡ true → ⊥) →
    cond standing (cond here (cond sells (by_source_kind.sold q (source_of src)) (cond buys (by_source_kind.bought q (source_of src)) no_words)) no_words) no_words
    ≡ (word_of (signed standing here (eqb 0 src) sells buys q), word_of (signed standing here (eqb 1 src) sells buys q))
by_source_line true true true true q src small apart = absurd (apart refl refl)
by_source_line true true true false q zero small apart = ap (λ (z : ℤ). (word_of z, word_of (pos 0))) (sym (+ℤ_idr (pos q)))
by_source_line true true true false q (suc zero) small apart = ap (λ (z : ℤ). (word_of (pos 0), word_of z)) (sym (+ℤ_idr (pos q)))
by_source_line true true true false q (suc (suc n)) small apart = absurd (let bad : ⊥ = omega arith in bad)
by_source_line true true false true q zero small apart = ap (λ (z : ℤ). (word_of z, word_of (pos 0))) (sym (+ℤ_idl (neg_ℤ (pos q))))
by_source_line true true false true q (suc zero) small apart = ap (λ (z : ℤ). (word_of (pos 0), word_of z)) (sym (+ℤ_idl (neg_ℤ (pos q))))
by_source_line true true false true q (suc (suc n)) small apart = absurd (let bad : ⊥ = omega arith in bad)
by_source_line true true false false q zero small apart = refl
by_source_line true true false false q (suc zero) small apart = refl
by_source_line true true false false q (suc (suc n)) small apart = absurd (let bad : ⊥ = omega arith in bad)
by_source_line true false sells buys q src small apart = refl
by_source_line false here sells buys q src small apart = refl

-- sums are joins of numbers
sum_joins : (n : ℕ) (f : ℕ → ℕ) → up_to naturals n f ≡ sum_to n f
sum_joins zero f = refl
sum_joins (suc n) f = ap (λ (x : ℕ). x + f n) (sum_joins n f)

difference_joins : (n : ℕ) (f g : ℕ → ℕ) → up_to integers n (λ i. pos (f i) -ℤ pos (g i)) ≡ pos (sum_to n f) -ℤ pos (sum_to n g)
difference_joins n f g =
    up_join integers integer_laws n (λ i. pos (f i)) (λ i. neg_ℤ (pos (g i)))
    ∙ ap (λ (z : ℤ). z +ℤ up_to integers n (λ i. neg_ℤ (pos (g i)))) (up_pos n f ∙ ap pos (sum_joins n f))
    ∙ ap (λ (z : ℤ). pos (sum_to n f) +ℤ z) (up_neg n (λ i. pos (g i)) ∙ ap neg_ℤ (up_pos n g ∙ ap pos (sum_joins n g)))

-- one part is at most all
part_most : (ws : List ℕ) (hour : ℕ) → weight_at ws hour ≤ sum ws
part_most ws zero = omega arith
part_most ws (suc j) = elim (cases_lt j (length ws)) [
  | inl less ↦ get_or-le-sum_by (λ x. x) ws j 0 less
  | inr more ↦ let none : get_or ws j 0 ≡ 0 = get_or_past ws j 0 more in omega arith
]

difference_fits : (m n : ℕ) → m ≤ 256000000000 → n ≤ 256000000000 → SFits w64 (pos m -ℤ pos n)
difference_fits m n low high = search (arith, ints)

sum_most : (n : ℕ) (f : ℕ → ℕ) → n ≤ 256 → ((i : ℕ) → i < n → f i ≤ 1000000000) → sum_to n f ≤ 256000000000
sum_most n f few most =
    let low : sum_to n f ≤ n * 1000000000 = subst (λ (x : ℕ). x ≤ n * 1000000000) (sum_joins n f) (up_at_most 1000000000 n f most) in
    omega arith

module _ {V : Type 0} (k : Kind V) (laws : Laws (joins k)) (past : List Event) (s : State V) (lived : Lived k past s) where
  taken_of : (i : ℕ) → i < length (ledger past).lines → i < s.taken
  taken_of i p = subst (λ (n : ℕ). i < n) (kept_in_life k laws lived).count p

  few : length (ledger past).lines ≤ 256
  few = let kept = kept_in_life k laws lived in
      let count = kept.count in let room = kept.room in let places = kept.places in let high = s.sizes.places_high in omega arith

  -- a contract has at most its amount in an hour
  quantity_most : (i hour : ℕ) → i < length (ledger past).lines → stands (line_at (ledger past) i) ≡ true → weight_at (quantities_in (ledger past) i) hour ≤ 1000000000
  quantity_most i hour p y =
      let d = (lives_balance k laws past s lived).delivered i p y in
      let amount = ((kept_in_life k laws lived).fit i (taken_of i p)).amount.1 in
      let total = d.total in
      let most = d.most in
      omega (arith, part_most (quantities_in (ledger past) i) hour)

  counted_most : (i hour : ℕ) (rest party : Bool) → i < length (ledger past).lines →
      cond ((stands (line_at (ledger past) i) && rest) && party) (weight_at (quantities_in (ledger past) i) hour) 0 ≤ 1000000000
  counted_most i hour rest party p =
      cond_both ((stands (line_at (ledger past) i) && rest) && party) (weight_at (quantities_in (ledger past) i) hour) 0 (λ (x : ℕ). x ≤ 1000000000)
      (λ e. quantity_most i hour p (and_parts (stands (line_at (ledger past) i)) rest (and_parts (stands (line_at (ledger past) i) && rest) party e).0).0)
      (λ e. omega arith)

  fits : (test : ℕ → Bool) (agent submarket hour : ℕ) → SFits w64 (difference_in (ledger past) test agent submarket hour)
  fits test agent submarket hour =
      let line = line_at (ledger past) in
      difference_fits (sales_in (ledger past) test agent submarket hour) (purchases_in (ledger past) test agent submarket hour)
      (sum_most (length (ledger past).lines) _ few (λ i p. counted_most i hour (eqb (line i).fields.submarket submarket && test (line i).fields.source) (eqb (line i).fields.seller agent) p))
      (sum_most (length (ledger past).lines) _ few (λ i p. counted_most i hour (eqb (line i).fields.submarket submarket && test (line i).fields.source) (eqb (line i).fields.buyer agent) p))

  -- nobody buys from itself
  one_party : (i agent : ℕ) → i < length (ledger past).lines → eqb (line_at (ledger past) i).fields.seller agent ≡ true → eqb (line_at (ledger past) i).fields.buyer agent ≡ true → ⊥
  one_party i agent p sells buys = ((kept_in_life k laws lived).fit i (taken_of i p)).parties
      (eqb-true (line_at (ledger past) i).fields.seller agent sells ∙ sym (eqb-true (line_at (ledger past) i).fields.buyer agent buys))

  source_small : (i : ℕ) → i < length (ledger past).lines → (line_at (ledger past) i).fields.source ≤ 1
  source_small i p = ((kept_in_life k laws lived).fit i (taken_of i p)).source

abbrev signed_in : Ledger → (ℕ → Bool) → ℕ → ℕ → ℕ → ℕ → ℤ
signed_in b test agent submarket hour i =
    signed (stands (line_at b i)) (eqb (line_at b i).fields.submarket submarket) (test (line_at b i).fields.source)
    (eqb (line_at b i).fields.seller agent) (eqb (line_at b i).fields.buyer agent) (weight_at (quantities_in b i) hour)

signed_total : (b : Ledger) (test : ℕ → Bool) (agent submarket hour : ℕ) →
    up_to integers (length b.lines) (signed_in b test agent submarket hour) ≡ difference_in b test agent submarket hour
signed_total b test agent submarket hour =
    difference_joins (length b.lines)
    (λ i. cond (counts b test submarket i && eqb (line_at b i).fields.seller agent) (weight_at (quantities_in b i) hour) 0)
    (λ i. cond (counts b test submarket i && eqb (line_at b i).fields.buyer agent) (weight_at (quantities_in b i) hour) 0)

pub net_true : NetIsTrue
net_true past s lived agent submarket hour a1 aa m1 m4 h1 hh e held is =
    let b = ledger past in
    let n = length b.lines in
    let z = signed_in b (λ _. true) agent submarket hour in
    let value : position_of net_kind s agent submarket hour ≡ word_of (difference_in b (λ _. true) agent submarket hour) =
    (lives_balance net_kind word_laws past s lived).positions agent submarket hour a1 aa m1 m4 h1 hh
    ∙ up_same word_joins word_laws n _ (λ i. word_of (z i)) (λ i p.
    net_line (stands (line_at b i)) (eqb (line_at b i).fields.submarket submarket) (eqb (line_at b i).fields.seller agent) (eqb (line_at b i).fields.buyer agent)
    (weight_at (quantities_in b i) hour) (line_at b i).fields.source (one_party net_kind word_laws past s lived i agent p))
    ∙ up_words n z ∙ ap word_of (signed_total b (λ _. true) agent submarket hour) in
    net_exact e (difference_in b (λ _. true) agent submarket hour) held (fits net_kind word_laws past s lived (λ _. true) agent submarket hour) (is ∙ value)

pub by_source_true : BySourceIsTrue
by_source_true past s lived agent submarket hour a1 aa m1 m4 h1 hh e held held' is =
    let b = ledger past in
    let n = length b.lines in
    let y = signed_in b (eqb 0) agent submarket hour in
    let z = signed_in b (eqb 1) agent submarket hour in
    let value : position_of by_source_kind s agent submarket hour ≡ (word_of (difference_in b (eqb 0) agent submarket hour), word_of (difference_in b (eqb 1) agent submarket hour)) =
    (lives_balance by_source_kind both_laws past s lived).positions agent submarket hour a1 aa m1 m4 h1 hh
    ∙ up_same both_joins both_laws n _ (λ i. (word_of (y i), word_of (z i))) (λ i p.
    by_source_line (stands (line_at b i)) (eqb (line_at b i).fields.submarket submarket) (eqb (line_at b i).fields.seller agent) (eqb (line_at b i).fields.buyer agent)
    (weight_at (quantities_in b i) hour) (line_at b i).fields.source (source_small by_source_kind both_laws past s lived i p) (one_party by_source_kind both_laws past s lived i agent p))
    ∙ up_both n (λ i. word_of (y i)) (λ i. word_of (z i))
    ∙ ap (λ (w : Word). (w, up_to word_joins n (λ i. word_of (z i)))) (up_words n y ∙ ap word_of (signed_total b (eqb 0) agent submarket hour))
    ∙ ap (λ (w : Word). (word_of (difference_in b (eqb 0) agent submarket hour), w)) (up_words n z ∙ ap word_of (signed_total b (eqb 1) agent submarket hour)) in
    by_source_exact e (difference_in b (eqb 0) agent submarket hour) (difference_in b (eqb 1) agent submarket hour) held held'
    (fits by_source_kind both_laws past s lived (eqb 0) agent submarket hour) (fits by_source_kind both_laws past s lived (eqb 1) agent submarket hour) (is ∙ value)
