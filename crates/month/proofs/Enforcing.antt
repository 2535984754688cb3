-- A confirmation, from what was chosen and supplied to the next state of the month.
use Rattle.std.proofs.Common.{◌≡◌, ℕ, ◌+◌, ◌-◌, ◌*◌, ◌<◌, ◌≤◌, true, false, leb, List, [], ◌∷◌, length, get_or, set, None, sum, sym, refl, ap, ◌∙◌, subst, arith}
use Rattle.std.proofs.lemmas.Bool.{false≢true, leb-true, cond-true, and_from, eq-eqb}
use Rattle.scale.specs.Refusals.{unless}
use Rattle.scale.specs.Shares.{down_to, shares_of}
use Rattle.scale.specs.Totals.{limit, passed_at, total_check}
use Rattle.scale.specs.Weights.{clipped}
use Rattle.scale.proofs.Parts.{length_clipped_from}
use Rattle.scale.proofs.Running.{down_sound, length_shared, of_total}
use Rattle.entry.specs.Kinds.{Kind, Laws, joins}
use Rattle.book.specs.declared.contract.Contract.{Contract}
use Rattle.book.specs.Limits.{most_total}
use Rattle.book.specs.Sound.{row_of, seller_total, sold_by}
use Rattle.book.specs.States.{in_force, is_in_force}
use Rattle.book.specs.Terms.{blank}
use Rattle.ledger.specs.Calls.{Enforced, enforced, put_row, rounding}
use Rattle.ledger.specs.States.{State, contracts, contract_at, agent_shortfall}
use Rattle.ledger.proofs.Numbers.{first_none as passed, unless_none as held}
use Rattle.ledger.proofs.Rows.{length_put, row_here, row_there}
use Rattle.settle.specs.Settled.{Ready}
use Rattle.month.specs.Settling.{Chosen, Settled, Supplied}
use Rattle.month.proofs.Changing.{ready_changed, resettled, sells_none, sold_changed}
use Rattle.month.proofs.Finishing.{covered, long, room, row_fits}
use Rattle.month.proofs.Supplying.{supply}

weighs_some : (ws : List ℕ) → total_check ws ≡ None → 1 ≤ sum ws
weighs_some ws e = leb-true 1 (sum ws) (held _ 12 0 (passed (unless (leb 1 (sum ws)) 12 0) (unless (leb (sum ws) limit) 13 (passed_at 0 ws) ∷ []) e).0)

-- a contract in force for its seller sells its amount
sells_all : (c : Contract) → in_force c ≡ true → sold_by c.terms.seller c ≡ c.terms.amount
sells_all c force = cond-true _ _ _ (and_from (in_force c) _ force (eq-eqb c.terms.seller c.terms.seller refl))

module _ {V : Type 0} (s : State V) (number index : ℕ) (contract : Contract) (weights : List ℕ)
    (chosen : Chosen s number enforced index contract) (supplied : Supplied s weights index) (within : s.taken ≤ s.sizes.places) where
  abbrev here : Contract
  here = contract_at s index

  abbrev hours : ℕ
  hours = s.sizes.hours

  abbrev row : List ℕ
  row = shares_of rounding here.terms.amount (clipped here.terms.first here.terms.last weights)

  -- the rows once that of the contract is written
  abbrev written : List ℕ
  written = put_row hours index row s.rows

  inside : index < length (contracts s)
  inside = omega (arith, chosen.inside, long s chosen.admitted within)

  pub same_terms : contract.terms ≡ here.terms
  same_terms = ap (λ (c : Contract). c.terms) chosen.is

  pub row_room : index * hours + hours ≤ length s.rows
  row_room = row_fits s chosen.admitted within index chosen.inside

  pub amount_low : here.terms.amount ≤ limit
  amount_low = omega (arith, (chosen.admitted.sound.place index blank inside).terms.amount.1)

  row_long : length row ≡ hours
  row_long = length_shared (rounding here.terms.amount (sum (clipped here.terms.first here.terms.last weights))) 0 (clipped here.terms.first here.terms.last weights) ∙ length_clipped_from 1 here.terms.first here.terms.last weights
      ∙ (supply hours here.terms weights supplied.supply).long

  row_total_lem : sum row ≡ here.terms.amount
  row_total_lem = of_total down_to down_sound here.terms.amount (clipped here.terms.first here.terms.last weights)
      (weighs_some (clipped here.terms.first here.terms.last weights) (supply hours here.terms weights supplied.supply).weighs)

  -- what the code wrote, in the contract's own terms
  pub rows_written : (h : ℕ) (rows : List ℕ) → h ≡ hours
      → rows ≡ put_row h index (shares_of rounding contract.terms.amount (clipped contract.terms.first contract.terms.last weights)) s.rows → rows ≡ written
  rows_written h rows e is =
      is ∙ ap (λ (n : ℕ). put_row n index (shares_of rounding contract.terms.amount (clipped contract.terms.first contract.terms.last weights)) s.rows) e
      ∙ ap (λ t. put_row hours index (shares_of rounding t.amount (clipped t.first t.last weights)) s.rows) same_terms

  was_idle : in_force here ≡ false
  was_idle = ap is_in_force supplied.offered

  is_force : in_force contract ≡ true
  is_force = ap in_force chosen.is

  -- where a contract was in force its row stays
  old_row : (i : ℕ) → in_force (get_or (contracts s) i blank) ≡ true → row_of hours written i ≡ row_of hours s.rows i
  old_row i force = row_there hours index row s.rows row_long row_room i
      (λ e. false≢true (sym was_idle ∙ ap (λ (n : ℕ). in_force (get_or (contracts s) n blank)) (sym e) ∙ force))

  pub ready_enforced : (entries : ℕ) → entries ≡ s.sizes.agents * 4 * hours → Ready s.sizes (contracts s) (set (contracts s) index contract) written entries
  ready_enforced entries full =
      ready_changed s.sizes (contracts s) s.rows s.shortfalls chosen.admitted.sound written (λ i lt force. old_row i force) index inside contract same_terms
      (λ _. ap sum (row_here hours index row s.rows row_long row_room) ∙ row_total_lem ∙ ap (λ t. t.amount) (sym same_terms))
      (λ _. omega (arith, ap (λ (c : Contract). c.effective) chosen.is, (chosen.admitted.sound.place index blank inside).effective, amount_low))
      entries (covered s chosen.admitted within written (length_put hours index row s.rows row_long row_room)) full

  pub moderate_enforced : seller_total contract.terms.seller (set (contracts s) index contract) ≤ most_total
  moderate_enforced =
      omega (
        arith,
        sold_changed s.sizes (contracts s) s.rows s.shortfalls chosen.admitted.sound contract.terms.seller index contract inside,
        sells_none contract.terms.seller here was_idle,
        sells_all contract is_force,
        sold_here,
        supplied.room,
        amount_same,
      )
    where
      sold_here : seller_total contract.terms.seller (contracts s) ≡ seller_total here.terms.seller (contracts s)
      sold_here = ap (λ t. seller_total t.seller (contracts s)) same_terms

      amount_same : contract.terms.amount ≡ here.terms.amount
      amount_same = ap (λ t. t.amount) same_terms

  pub entered : (k : Kind V) → Laws (joins k) → (t : State V) → t.taken ≡ s.taken → t.sizes ≡ s.sizes → t.rows ≡ written → t.shortfalls ≡ s.shortfalls
      → Settled k s.sizes s.taken contract.terms.seller (agent_shortfall s contract.terms.seller) (set (contracts s) index contract) written s.places t.places s.board t.board
      → Enforced k number weights s t
  entered k laws t taken sizes rows shortfalls settled =
      let named : Settled k s.sizes s.taken here.terms.seller (agent_shortfall t here.terms.seller) (set (contracts s) index (enforced here)) written s.places t.places s.board t.board
      = subst (λ (c : Contract). Settled k s.sizes s.taken c.terms.seller (agent_shortfall t c.terms.seller) (set (contracts s) index c) written s.places t.places s.board t.board) chosen.is
      (subst (λ (f : List ℕ). Settled k s.sizes s.taken contract.terms.seller (get_or f (contract.terms.seller - 1) 0) (set (contracts s) index contract) written s.places t.places s.board t.board)
      (sym shortfalls) settled) in
      record {
        index = index;
        found = chosen.found;
        rows = rows;
        shortfalls = shortfalls;
        settled = resettled k laws s t written here.terms.seller (set (contracts s) index (enforced here)) taken sizes (room s chosen.admitted within)
            (λ i lt force. old_row i force) (λ i lt force. ap (λ (rs : List ℕ). row_of hours rs i) (sym rows) ∙ ap (λ z. row_of z.hours t.rows i) (sym sizes)) named;
      }
