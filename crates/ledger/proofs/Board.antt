-- What stands on the board of a month, and how it moves.
use Rattle.std.proofs.Common.{◌≡◌, ℕ, suc, ◌+◌, ◌-◌, ◌*◌, ◌<◌, ◌≤◌, Bool, true, cond, ◌&&◌, eqb, List, get_or, sym, ap, ◌∙◌, subst, inl, inr, arith}
use Rattle.std.proofs.lemmas.Bool.{cases_Bool, and_parts, eqb-true}
use Rattle.entry.specs.Kinds.{Kind, Laws, Cancels, joins, up_to}
use Rattle.entry.proofs.Totals.{up_same, up_none, up_join, up_swap}
use Rattle.scale.specs.Shares.{shares_of}
use Rattle.book.specs.declared.contract.Contract.{Contract}
use Rattle.book.specs.declared.contract.Terms.{Terms}
use Rattle.book.specs.declared.sizes.Sizes.{Sizes}
use Rattle.book.specs.States.{in_force}
use Rattle.book.specs.Terms.{Acceptable, fields}
use Rattle.ledger.specs.States.{State, contract_at, row_at}
use Rattle.board.specs.Lanes.{lane}
use Rattle.board.specs.Moves.{cell, share}
use Rattle.ledger.specs.Boards.{position_of, quantity_of, puts, stays, changes, AllCancel, Revised}
use Rattle.ledger.specs.Calls.{rounding}
use Rattle.ledger.specs.Past.{traded}
use Rattle.ledger.proofs.Lanes.{puts_sum, puts_next, share_traded}

-- the board holds what the contracts in force put there, and all of it cancels
pub record Posted {V : Type 0} (k : Kind V) (s : State V) : Type 0 where
  pub held : (l hour : ℕ) → l < s.sizes.agents * 4 → hour < s.sizes.hours →
      cell k s.sizes.hours s.board l hour ≡ up_to (joins k) s.taken (λ i. puts k rounding (contract_at s i) (row_at s i) l hour)
  pub cancels : (i : ℕ) → i < s.taken → AllCancel k rounding s.sizes.hours (contract_at s i) (row_at s i)

abbrev pub Fits : {V : Type 0} → State V → Type 0
Fits s = (i : ℕ) → i < s.taken → Acceptable s.sizes (fields (contract_at s i).terms)

module _ {V : Type 0} (k : Kind V) (laws : Laws (joins k)) (s : State V) (fit : Fits s) (posted : Posted k s) where
  module _ (submarket hour : ℕ) (m1 : 1 ≤ submarket) (m4 : submarket ≤ 4) (h1 : 1 ≤ hour) (hh : hour ≤ s.sizes.hours) where
    abbrev put : ℕ → ℕ → V
    put l i = puts k rounding (contract_at s i) (row_at s i) l (hour - 1)

    at_lane : (agent : ℕ) → 1 ≤ agent → agent ≤ s.sizes.agents → position_of k s agent submarket hour ≡ up_to (joins k) s.taken (put (lane agent submarket))
    at_lane agent a1 aa = posted.held (lane agent submarket) (hour - 1) (omega arith) (omega arith)

    -- the positions of all agents cancel
    pub positions_cancel : up_to (joins k) s.sizes.agents (λ a. position_of k s (suc a) submarket hour) ≡ k.nothing
    positions_cancel =
        up_same (joins k) laws s.sizes.agents _ (λ a. up_to (joins k) s.taken (put (a * 4 + (submarket - 1))))
        (λ a p. at_lane (suc a) (omega arith) (omega arith)
        ∙ ap (λ l. up_to (joins k) s.taken (put l)) (let e : lane (suc a) submarket ≡ a * 4 + (submarket - 1) = omega arith in e))
        ∙ sym (up_swap (joins k) laws s.taken s.sizes.agents (λ i a. put (a * 4 + (submarket - 1)) i))
        ∙ up_none (joins k) laws s.taken _ (λ i p.
        puts_sum k laws rounding s.sizes s.sizes.hours (contract_at s i) (row_at s i) (fit i p) (posted.cancels i p) (hour - 1) (omega arith) (submarket - 1) (omega arith))

    -- a position is joined from what each contract in force means to the agent there
    pub position_is : (agent : ℕ) → 1 ≤ agent → agent ≤ s.sizes.agents → position_of k s agent submarket hour
        ≡ up_to (joins k) s.taken (λ i. cond (in_force (contract_at s i))
        (traded k (fields (contract_at s i).terms) agent submarket (quantity_of rounding (contract_at s i) (row_at s i) (hour - 1))) k.nothing)
    position_is agent a1 aa = at_lane agent a1 aa
        ∙ up_same (joins k) laws s.taken _ _ (λ i p. ap (λ v. cond (in_force (contract_at s i)) v k.nothing)
        (share_traded k laws s.sizes (contract_at s i) (fit i p) (quantity_of rounding (contract_at s i) (row_at s i) (hour - 1)) agent submarket a1 m1 m4))

-- a contract that stays
module _ {V : Type 0} (k : Kind V) (c d : Contract) (row new : List ℕ) (terms : d.terms ≡ c.terms) (rows : in_force c ≡ true → new ≡ row)
    (stay : stays c d ≡ true) where
  old_stands : in_force c ≡ true
  old_stands = (and_parts (in_force c) (in_force d && eqb c.effective d.effective) stay).0

  rest_stands : (in_force d && eqb c.effective d.effective) ≡ true
  rest_stands = (and_parts (in_force c) (in_force d && eqb c.effective d.effective) stay).1

  alike : d.effective ≡ c.effective
  alike = sym (eqb-true c.effective d.effective (and_parts (in_force d) (eqb c.effective d.effective) rest_stands).1)

  new_stands : in_force d ≡ in_force c
  new_stands = (and_parts (in_force d) (eqb c.effective d.effective) rest_stands).0 ∙ sym old_stands

  puts_stay : (l hour : ℕ) → puts k rounding d new l hour ≡ puts k rounding c row l hour
  puts_stay l hour =
      ap (λ (b : Bool). form b d.terms d.effective new) new_stands
      ∙ ap (λ (t : Terms). form (in_force c) t d.effective new) terms
      ∙ ap (λ (e : ℕ). form (in_force c) c.terms e new) alike
      ∙ ap (λ (r : List ℕ). form (in_force c) c.terms c.effective r) (rows old_stands)
    where
      form : Bool → Terms → ℕ → List ℕ → V
      form b t e r = cond b (share k (lane t.seller t.submarket) (lane t.buyer t.submarket) t.source (get_or (shares_of rounding e r) hour 0) l) k.nothing

  cancels_stay : (hours : ℕ) → AllCancel k rounding hours c row → AllCancel k rounding hours d new
  cancels_stay hours was y hour inside =
      subst (λ (t : Terms). Cancels k (get_or (shares_of rounding d.effective new) hour 0) t.source) (sym terms)
      (subst (λ (e : ℕ). Cancels k (get_or (shares_of rounding e new) hour 0) c.terms.source) (sym alike)
      (subst (λ (r : List ℕ). Cancels k (get_or (shares_of rounding c.effective r) hour 0) c.terms.source) (sym (rows old_stands))
      (was old_stands hour inside)))

-- the board moves with its contracts
module _ {V : Type 0} (k : Kind V) (laws : Laws (joins k)) (s t : State V) (sizes : t.sizes ≡ s.sizes) (taken : t.taken ≡ s.taken)
    (fit : Fits s) (was : Posted k s)
    (terms : (i : ℕ) → i < s.taken → (contract_at t i).terms ≡ (contract_at s i).terms)
    (rows : (i : ℕ) → i < s.taken → in_force (contract_at s i) ≡ true → row_at t i ≡ row_at s i)
    (revised : Revised k rounding s t) where
  next_held : (l hour : ℕ) → l < s.sizes.agents * 4 → hour < s.sizes.hours →
      cell k s.sizes.hours t.board l hour ≡ up_to (joins k) s.taken (λ i. puts k rounding (contract_at t i) (row_at t i) l hour)
  next_held l hour ll hh =
      revised.cells l hour ll hh
      ∙ ap (λ x. k.join x (up_to (joins k) s.taken (λ i. changes k rounding (contract_at s i) (row_at s i) (contract_at t i) (row_at t i) l hour))) (was.held l hour ll hh)
      ∙ sym (up_join (joins k) laws s.taken (λ i. puts k rounding (contract_at s i) (row_at s i) l hour)
      (λ i. changes k rounding (contract_at s i) (row_at s i) (contract_at t i) (row_at t i) l hour))
      ∙ up_same (joins k) laws s.taken _ _ (λ i p.
      puts_next k laws rounding s.sizes s.sizes.hours (contract_at s i) (contract_at t i) (row_at s i) (row_at t i) (fit i p) (was.cancels i p) hour hh
      (λ y x. puts_stay k (contract_at s i) (contract_at t i) (row_at s i) (row_at t i) (terms i p) (rows i p) y x hour) l)

  next_cancels : (i : ℕ) → i < s.taken → AllCancel k rounding s.sizes.hours (contract_at t i) (row_at t i)
  next_cancels i p = elim (cases_Bool (stays (contract_at s i) (contract_at t i))) [
    | inl y ↦ cancels_stay k (contract_at s i) (contract_at t i) (row_at s i) (row_at t i) (terms i p) (rows i p) y s.sizes.hours (was.cancels i p)
    | inr n ↦ (revised.cancels i p n).1
  ]

  pub posted_next : Posted k t
  posted_next = record {
    held = λ l hour ll hh.
        ap (λ (z : Sizes). cell k z.hours t.board l hour) sizes
        ∙ next_held l hour (subst (λ (z : Sizes). l < z.agents * 4) sizes ll) (subst (λ (z : Sizes). hour < z.hours) sizes hh)
        ∙ ap (λ (n : ℕ). up_to (joins k) n (λ i. puts k rounding (contract_at t i) (row_at t i) l hour)) (sym taken);
    cancels = λ i p. subst (λ (z : Sizes). AllCancel k rounding z.hours (contract_at t i) (row_at t i)) (sym sizes)
        (next_cancels i (subst (λ (n : ℕ). i < n) taken p));
  }
