-- An ending and a telling, from what was admitted to the next state of the month.
use Rattle.std.proofs.Common.{◌≡◌, ℕ, ◌+◌, ◌-◌, ◌*◌, ◌<◌, ◌≤◌, false, List, length, get_or, set, sym, refl, ap, ◌∙◌, subst, mul-le-mul_right, arith}
use Rattle.std.proofs.lemmas.List.{length-take-le}
use Rattle.std.proofs.lemmas.Bool.{false≢true}
use Rattle.entry.specs.Kinds.{Kind, Laws, joins}
use Rattle.book.specs.declared.contract.Contract.{Contract}
use Rattle.book.specs.Limits.{most_total}
use Rattle.book.specs.Sound.{row_of, seller_total}
use Rattle.book.specs.States.{in_force}
use Rattle.ledger.proofs.Rows.{row_before}
use Rattle.ledger.specs.Calls.{ended, Finished, Noted}
use Rattle.ledger.specs.States.{State, contracts, contract_at, agent_shortfall}
use Rattle.settle.specs.Settled.{Ready}
use Rattle.month.specs.Months.{Admitted}
use Rattle.month.specs.Settling.{Chosen, Settled}
use Rattle.month.proofs.Changing.{ready_all, ready_changed, resettled, sells_none, sold_changed, sold_most}

module _ {V : Type 0} (s : State V) (admitted : Admitted s) (within : s.taken ≤ s.sizes.places) where
  pub room : s.taken ≤ length s.places
  room = omega (arith, admitted.places)

  pub long : length (contracts s) ≡ s.taken
  long = length-take-le s.taken s.places room

  -- every taken place has its row
  pub covered : (rows : List ℕ) → length rows ≡ length s.rows → length (contracts s) * s.sizes.hours ≤ length rows
  covered rows e =
      let few : length (contracts s) ≤ s.sizes.places = omega (arith, long) in
      omega (arith, mul-le-mul_right s.sizes.hours few, admitted.rows, e)

  -- the row of a taken place lies within the rows
  pub row_fits : (index : ℕ) → index < s.taken → index * s.sizes.hours + s.sizes.hours ≤ length s.rows
  row_fits index inside =
      let next : index < length (contracts s) = omega (arith, long) in
      omega (arith, row_before index (length (contracts s)) s.sizes.hours next, covered s.rows refl)

  pub ready_told : (entries : ℕ) → entries ≡ s.sizes.agents * 4 * s.sizes.hours → Ready s.sizes (contracts s) (contracts s) s.rows entries
  ready_told entries full = ready_all s.sizes (contracts s) s.rows s.shortfalls admitted.sound entries (covered s.rows refl) full

  pub moderate_told : (seller : ℕ) → seller_total seller (contracts s) ≤ most_total
  moderate_told seller = sold_most s.sizes (contracts s) s.rows s.shortfalls admitted.sound seller

-- a contract that ends is in force no more
module _ {V : Type 0} (s : State V) (number index : ℕ) (contract : Contract) (chosen : Chosen s number ended index contract) (within : s.taken ≤ s.sizes.places) where
  abbrev here : Contract
  here = contract_at s index

  inside : index < length (contracts s)
  inside = omega (arith, chosen.inside, long s chosen.admitted within)

  pub same_terms : contract.terms ≡ here.terms
  same_terms = ap (λ (c : Contract). c.terms) chosen.is

  idle : in_force contract ≡ false
  idle = ap in_force chosen.is

  pub ready_ended : (entries : ℕ) → entries ≡ s.sizes.agents * 4 * s.sizes.hours → Ready s.sizes (contracts s) (set (contracts s) index contract) s.rows entries
  ready_ended entries full =
      ready_changed s.sizes (contracts s) s.rows s.shortfalls chosen.admitted.sound s.rows (λ i lt force. refl) index inside contract same_terms
      (λ force. absurd (false≢true (sym idle ∙ force))) (λ force. absurd (false≢true (sym idle ∙ force))) entries (covered s chosen.admitted within s.rows refl) full

  pub moderate_ended : (seller : ℕ) → seller_total seller (set (contracts s) index contract) ≤ most_total
  moderate_ended seller =
      omega (
        arith,
        sold_changed s.sizes (contracts s) s.rows s.shortfalls chosen.admitted.sound seller index contract inside,
        sells_none seller contract idle,
        moderate_told s chosen.admitted within seller,
      )

  pub finished : (k : Kind V) → Laws (joins k) → (t : State V) → t.taken ≡ s.taken → t.sizes ≡ s.sizes → t.rows ≡ s.rows → t.shortfalls ≡ s.shortfalls
      → Settled k s.sizes s.taken contract.terms.seller (agent_shortfall s contract.terms.seller) (set (contracts s) index contract) s.rows s.places t.places s.board t.board
      → Finished k number s t
  finished k laws t taken sizes rows shortfalls settled =
      let named : Settled k s.sizes s.taken here.terms.seller (agent_shortfall t here.terms.seller) (set (contracts s) index (ended here)) s.rows s.places t.places s.board t.board
      = subst (λ (c : Contract). Settled k s.sizes s.taken c.terms.seller (agent_shortfall t c.terms.seller) (set (contracts s) index c) s.rows s.places t.places s.board t.board) chosen.is
      (subst (λ (f : List ℕ). Settled k s.sizes s.taken contract.terms.seller (get_or f (contract.terms.seller - 1) 0) (set (contracts s) index contract) s.rows s.places t.places s.board t.board)
      (sym shortfalls) settled) in
      record {
        index = index;
        found = chosen.found;
        rows = rows;
        shortfalls = shortfalls;
        settled = resettled k laws s t s.rows here.terms.seller (set (contracts s) index (ended here)) taken sizes (room s chosen.admitted within)
            (λ i lt force. refl) (λ i lt force. ap (λ (rs : List ℕ). row_of s.sizes.hours rs i) (sym rows) ∙ ap (λ z. row_of z.hours t.rows i) (sym sizes)) named;
      }

-- a shortfall that was told stands in the place of the earlier one
module _ {V : Type 0} (s t : State V) (admitted : Admitted s) (within : s.taken ≤ s.sizes.places) (agent kwh : ℕ) where
  pub noted : (k : Kind V) → Laws (joins k) → t.taken ≡ s.taken → t.sizes ≡ s.sizes → t.rows ≡ s.rows → t.shortfalls ≡ set s.shortfalls (agent - 1) kwh
      → Settled k s.sizes s.taken agent (agent_shortfall t agent) (contracts s) s.rows s.places t.places s.board t.board
      → Noted k agent kwh s t
  noted k laws taken sizes rows shortfalls settled = record {
    rows = rows;
    shortfalls = shortfalls;
    settled = resettled k laws s t s.rows agent (contracts s) taken sizes (room s admitted within)
        (λ i lt force. refl) (λ i lt force. ap (λ (rs : List ℕ). row_of s.sizes.hours rs i) (sym rows) ∙ ap (λ z. row_of z.hours t.rows i) (sym sizes)) settled;
  }
