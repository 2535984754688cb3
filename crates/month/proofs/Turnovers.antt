-- The turnover of an agent, one contract after another, and that nothing wraps.
use Rattle.std.proofs.Common.{◌≡◌, ℕ, zero, suc, ◌+◌, ◌*◌, ◌^◌, ◌<◌, ◌≤◌, Bool, true, false, cond, List, map, length, get_or, take, sum_by, sym, refl, ap, ◌∙◌, add-one, arith}
use Rattle.std.proofs.lemmas.List.{get_or-map, length-map, take_all}
use Rattle.std.proofs.lemmas.List.Sums.{sum_by_more}
use Rattle.entry.specs.declared.kinds.Turnover.{Turnover}
use Rattle.entry.specs.Kinds.{up_to}
use Rattle.entry.specs.Meanings.{turnover_value}
use Rattle.entry.specs.Words.{word, no_words, both_joins, word_joins, naturals}
use Rattle.entry.proofs.Exact.{up_both, up_word, up_at_most, turnover_exact}
use Rattle.entry.proofs.Totals.{up_same}
use Rattle.entry.specs.Wrap.{both_laws}
use Rattle.book.specs.declared.contract.Contract.{Contract}
use Rattle.book.specs.Terms.{blank}
use Rattle.month.specs.Questions.{sold_in, bought_in, sold, bought}

abbrev pub part : ℕ → Contract → Turnover
part agent c = record { sold = sold_in agent c; bought = bought_in agent c }

abbrev pub none : Turnover
none = record { sold = 0; bought = 0 }

-- the parts are the turnovers of the contracts
pub record Filled (agent : ℕ) (taken : List Contract) (parts : List Turnover) : Type 0 where
  pub long : length parts ≡ length taken
  pub below : (k : ℕ) → k < length taken → get_or parts k none ≡ part agent (get_or taken k blank)

pub filled_map : (agent : ℕ) (taken : List Contract) (parts : List Turnover) → parts ≡ map (part agent) taken → Filled agent taken parts
filled_map agent taken parts is = record {
  long = ap length is ∙ length-map taken (part agent);
  below = λ k lt. ap (λ ps. get_or ps k none) is ∙ get_or-map (part agent) taken k blank none lt;
}

pub part_is : (t : Turnover) (m n : ℕ) → t.sold ≡ m → t.bought ≡ n → t ≡ record { sold = m; bought = n }
part_is t m n p q = λ i. record { sold = p i; bought = q i }

pub up_list : {X : Type 0} (f : X → ℕ) (xs : List X) (d : X) (n : ℕ) → n ≤ length xs → up_to naturals n (λ k. f (get_or xs k d)) ≡ sum_by f (take n xs)
up_list f xs d zero le = refl
up_list f xs d (suc n) le =
    ap (λ (m : ℕ). m + f (get_or xs n d)) (up_list f xs d n (omega arith)) ∙ sym (sum_by_more f xs n d (omega arith)) ∙ ap (λ (m : ℕ). sum_by f (take m xs)) (add-one n)

-- an effective amount that counts or not
moderate : (b : Bool) (e : ℕ) → e ≤ 1000000000 → cond b e 0 ≤ 1000000000
moderate true e h = h
moderate false e h = omega arith

module _ (agent : ℕ) (taken : List Contract) (parts : List Turnover) (filled : Filled agent taken parts) (few : length taken ≤ 256)
    (low : (i : ℕ) → i < length taken → (get_or taken i blank).effective ≤ 1000000000) where
  at : (k : ℕ) → k < length taken → get_or (map turnover_value parts) (0 + k * 1) no_words ≡ (word (sold_in agent (get_or taken k blank)), word (bought_in agent (get_or taken k blank)))
  at k lt =
      ap (λ (i : ℕ). get_or (map turnover_value parts) i no_words) (let e : 0 + k * 1 ≡ k = omega arith in e)
      ∙ get_or-map turnover_value parts k none no_words (omega (arith, filled.long))
      ∙ ap turnover_value (filled.below k lt)

  sums : up_to both_joins (length taken) (λ k. get_or (map turnover_value parts) (0 + k * 1) no_words) ≡ (word (sold agent taken), word (bought agent taken))
  sums =
      up_same both_joins both_laws (length taken) _ _ at
      ∙ up_both (length taken) (λ k. word (sold_in agent (get_or taken k blank))) (λ k. word (bought_in agent (get_or taken k blank)))
      ∙ (λ i. (one (sold_in agent) i, one (bought_in agent) i))
    where
      one : (f : Contract → ℕ) → up_to word_joins (length taken) (λ k. word (f (get_or taken k blank))) ≡ word (sum_by f taken)
      one f = up_word (length taken) (λ k. f (get_or taken k blank))
          ∙ ap word (up_list f taken blank (length taken) (omega arith) ∙ ap (sum_by f) (take_all (length taken) taken (omega arith)))

  small : (f : Contract → ℕ) → ((i : ℕ) → i < length taken → f (get_or taken i blank) ≤ 1000000000) → sum_by f taken ≤ 256000000000
  small f le =
      let most = up_at_most 1000000000 (length taken) (λ k. f (get_or taken k blank)) le in
      let is = up_list f taken blank (length taken) (omega arith) ∙ ap (sum_by f) (take_all (length taken) taken (omega arith)) in
      omega (arith, most, is)

  pub sold_most : sold agent taken ≤ 256000000000
  sold_most = small (sold_in agent) (λ i lt. moderate _ _ (low i lt))

  pub bought_most : bought agent taken ≤ 256000000000
  bought_most = small (bought_in agent) (λ i lt. moderate _ _ (low i lt))

  pub turned_over : (r : Turnover) → r.sold < 2 ^ 64 → r.bought < 2 ^ 64
      → turnover_value r ≡ up_to both_joins (length taken) (λ k. get_or (map turnover_value parts) (0 + k * 1) no_words)
      → (r.sold ≡ sold agent taken) × (r.bought ≡ bought agent taken)
  turned_over r s b e = turnover_exact r (sold agent taken) (bought agent taken) s b (omega (arith, sold_most)) (omega (arith, bought_most)) (e ∙ sums)
