-- Every life of a month balances, and each call leads every life on.
use Rattle.std.proofs.Common.{◌≡◌, ℕ, zero, suc, ◌-◌, ◌<◌, ◌≤◌, Bool, true, cond, List, [], ◌∷◌, ◌++◌, length, get_or, Some, None, Option, sym, refl, ap, ◌∙◌, subst, inl, inr, arith}
use Rattle.std.proofs.lemmas.Bool.{cases_Bool, cond-true, cond-false}
use Rattle.scale.specs.Refusals.{Refusal}
use Rattle.scale.specs.Shares.{shares_of}
use Rattle.scale.specs.Weights.{weight_at}
use Rattle.scale.proofs.Parts.{weight_in}
use Rattle.entry.specs.Kinds.{Kind, Laws, joins, up_to}
use Rattle.entry.proofs.Totals.{up_same}
use Rattle.book.specs.declared.contract.Offer.{Offer}
use Rattle.book.specs.States.{in_force, is_in_force}
use Rattle.book.specs.Terms.{fields}
use Rattle.ledger.specs.States.{State, contract_at, row_at}
use Rattle.ledger.specs.Boards.{position_of, quantity_of}
use Rattle.ledger.specs.Calls.{rounding, Opened, Offering, Confirming, Ending, Telling}
use Rattle.ledger.specs.Past.{Event, Ledger, ledger, line_at, stands, effective_in, quantities_in, traded, position_in, offering, confirming, ending, telling}
use Rattle.ledger.specs.Balance.{Standing, Balanced, collect, standings, standings_in}
use Rattle.ledger.specs.Lives.{Lived, opened, offered, confirmed, ended, told, LeadsOn, LivesBalance, EveryLifeBalances}
use Rattle.ledger.proofs.Board.{positions_cancel, position_is}
use Rattle.ledger.proofs.Kept.{Kept, kept_fits}
use Rattle.ledger.proofs.Offered.{opening_kept, offering_kept}
use Rattle.ledger.proofs.Changed.{confirming_kept, ending_kept, telling_kept}
use Rattle.ledger.proofs.Cuts.{cuts, in_turn, delivered}

-- collections that agree below n
collect_same : {X : Type 0} (n : ℕ) (test other : ℕ → Bool) (f g : ℕ → X) → ((i : ℕ) → i < n → test i ≡ other i) →
    ((i : ℕ) → i < n → other i ≡ true → f i ≡ g i) → collect n test f ≡ collect n other g
collect_same zero test other f g tests values = refl
collect_same (suc n) test other f g tests values =
    ap (λ xs. xs ++ cond (test n) (f n ∷ []) []) (collect_same n test other f g (λ i p. tests i (omega arith)) (λ i p. values i (omega arith)))
    ∙ ap (λ xs. collect n other g ++ xs) (elim (cases_Bool (other n)) [
      | inl y ↦ cond-true (test n) _ _ (tests n (omega arith) ∙ y) ∙ ap (λ x. x ∷ []) (values n (omega arith) y) ∙ sym (cond-true (other n) _ _ y)
      | inr no_test ↦ cond-false (test n) _ _ (tests n (omega arith) ∙ no_test) ∙ sym (cond-false (other n) _ _ no_test)
    ])

module _ {V : Type 0} (k : Kind V) (laws : Laws (joins k)) where
  module _ (b : Ledger) (s : State V) (kept : Kept k b s) where
    -- where one stands the other does, with the same quantities
    stands_same : (i : ℕ) → i < s.taken → in_force (contract_at s i) ≡ stands (line_at b i)
    stands_same i p = ap is_in_force (kept.state i p)

    quantities_same : (i : ℕ) → i < s.taken → stands (line_at b i) ≡ true → shares_of rounding (contract_at s i).effective (row_at s i) ≡ quantities_in b i
    quantities_same i p y = ap (λ (e : ℕ). shares_of rounding e (row_at s i)) (kept.effective i p y) ∙ ap (shares_of rounding (effective_in b i)) (kept.rows i p y)

    standings_same : standings s ≡ standings_in b
    standings_same =
        collect_same s.taken (λ i. in_force (contract_at s i)) (λ i. stands (line_at b i))
        (λ i. standing (fields (contract_at s i).terms) (contract_at s i).effective (shares_of rounding (contract_at s i).effective (row_at s i)))
        (λ i. standing (line_at b i).fields (effective_in b i) (quantities_in b i))
        stands_same
        (λ i p y. ap (λ (o : Offer). standing o (contract_at s i).effective (shares_of rounding (contract_at s i).effective (row_at s i))) (kept.same i p)
        ∙ ap (λ (e : ℕ). standing (line_at b i).fields e (shares_of rounding (contract_at s i).effective (row_at s i))) (kept.effective i p y)
        ∙ ap (standing (line_at b i).fields (effective_in b i)) (quantities_same i p y))
        ∙ ap (λ (n : ℕ). collect n (λ i. stands (line_at b i)) (λ i. standing (line_at b i).fields (effective_in b i) (quantities_in b i))) (sym kept.count)
      where
        standing : Offer → ℕ → List ℕ → Standing
        standing o e qs = record { fields = o; effective = e; quantities = qs }

    position_same : (agent submarket hour : ℕ) → 1 ≤ agent → agent ≤ s.sizes.agents → 1 ≤ submarket → submarket ≤ 4 → 1 ≤ hour → hour ≤ s.sizes.hours →
        position_of k s agent submarket hour ≡ position_in k b agent submarket hour
    position_same agent submarket hour a1 aa m1 m4 h1 hh =
        position_is k laws s (kept_fits kept) kept.posted submarket hour m1 m4 h1 hh agent a1 aa
        ∙ up_same (joins k) laws s.taken _ (λ i. cond (stands (line_at b i)) (traded k (line_at b i).fields agent submarket (weight_at (quantities_in b i) hour)) k.nothing)
        (λ i p. elim (cases_Bool (stands (line_at b i))) [
          | inl y ↦ cond-true (in_force (contract_at s i)) _ _ (stands_same i p ∙ y)
              ∙ ap (λ (o : Offer). traded k o agent submarket (quantity_of rounding (contract_at s i) (row_at s i) (hour - 1))) (kept.same i p)
              ∙ ap (traded k (line_at b i).fields agent submarket)
              (ap (λ (qs : List ℕ). get_or qs (hour - 1) 0) (quantities_same i p y) ∙ sym (weight_in (quantities_in b i) hour h1))
              ∙ sym (cond-true (stands (line_at b i)) _ _ y)
          | inr idle ↦ cond-false (in_force (contract_at s i)) _ _ (stands_same i p ∙ idle) ∙ sym (cond-false (stands (line_at b i)) _ _ idle)
        ])
        ∙ ap (λ (n : ℕ). up_to (joins k) n (λ i. cond (stands (line_at b i)) (traded k (line_at b i).fields agent submarket (weight_at (quantities_in b i) hour)) k.nothing)) (sym kept.count)

    inside : (i : ℕ) → i < length b.lines → i < s.taken
    inside i p = subst (λ (n : ℕ). i < n) kept.count p

  kept_balances : (past : List Event) (s : State V) → Kept k (ledger past) s → Balanced k past s
  kept_balances past s kept =
      let b = ledger past in
      record {
        cancels = λ submarket hour m1 m4 h1 hh. positions_cancel k laws s (kept_fits kept) kept.posted submarket hour m1 m4 h1 hh;
        positions = position_same b s kept;
        contracts = standings_same b s kept;
        delivered = λ i p y.
            let note = kept.noted i (inside b s kept i p) y in
            delivered b i note.row note.weighs (kept.fit i (inside b s kept i p)).amount.0;
        cuts = cuts b (λ i p _. (kept.fit i (inside b s kept i p)).class);
        in_turn = in_turn b;
      }

  -- what every life keeps
  pub kept_in_life : {past : List Event} {s : State V} → Lived k past s → Kept k (ledger past) s
  kept_in_life (opened {s} o) = opening_kept k s o
  kept_in_life (offered {past} {s} {t} o None was r) = offering_kept k laws (ledger past) s t (kept_in_life was) o (sym r.answered) r.leaves
  kept_in_life (offered {past} {s} {t} o (Some refusal) was r) = subst (Kept k (ledger past)) (sym r.leaves) (kept_in_life was)
  kept_in_life (confirmed {past} {s} {t} number agent weights None was r) =
      confirming_kept k (ledger past) s (kept_in_life was) laws t number agent weights (sym r.answered) r.leaves
  kept_in_life (confirmed {past} {s} {t} number agent weights (Some refusal) was r) = subst (Kept k (ledger past)) (sym r.leaves) (kept_in_life was)
  kept_in_life (ended {past} {s} {t} number agent None was r) = ending_kept k (ledger past) s (kept_in_life was) laws t number agent r.leaves
  kept_in_life (ended {past} {s} {t} number agent (Some refusal) was r) = subst (Kept k (ledger past)) (sym r.leaves) (kept_in_life was)
  kept_in_life (told {past} {s} {t} agent kwh None was r) = telling_kept k (ledger past) s (kept_in_life was) laws t agent kwh (sym r.answered) r.leaves
  kept_in_life (told {past} {s} {t} agent kwh (Some refusal) was r) = subst (Kept k (ledger past)) (sym r.leaves) (kept_in_life was)

  pub lives_balance : LivesBalance k
  lives_balance past s lived = kept_balances past s (kept_in_life lived)

  -- for the calls of a month: each leads every life on
  pub opens : (s : State V) → Opened k s → Lived k [] s × Balanced k [] s
  opens s o = let l : Lived k [] s = opened o in (l, lives_balance [] s l)

  module _ (answer : Option Refusal) (s t : State V) where
    pub leads_offering : (o : Offer) → Offering o answer s t → LeadsOn k (offering o) answer s t
    leads_offering o r past was = let l : Lived k _ t = offered o answer was r in (l, lives_balance _ t l)

    pub leads_confirming : (number agent : ℕ) (weights : List ℕ) → Confirming k number agent weights answer s t → LeadsOn k (confirming number agent weights) answer s t
    leads_confirming number agent weights r past was = let l : Lived k _ t = confirmed number agent weights answer was r in (l, lives_balance _ t l)

    pub leads_ending : (number agent : ℕ) → Ending k number agent answer s t → LeadsOn k (ending number agent) answer s t
    leads_ending number agent r past was = let l : Lived k _ t = ended number agent answer was r in (l, lives_balance _ t l)

    pub leads_telling : (agent kwh : ℕ) → Telling k agent kwh answer s t → LeadsOn k (telling agent kwh) answer s t
    leads_telling agent kwh r past was = let l : Lived k _ t = told agent kwh answer was r in (l, lives_balance _ t l)

pub every_life : EveryLifeBalances
every_life V k laws = lives_balance k laws
