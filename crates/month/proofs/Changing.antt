-- What an event on a contract of a sound book leaves, and that board and places can follow it.
use Rattle.std.proofs.Common.{◌≡◌, ℕ, ◌+◌, ◌*◌, ◌<◌, ◌≤◌, true, false, List, length, get_or, take, set, Some, None, sum, Option, sym, refl, ap, ◌∙◌, subst, inl, inr, arith}
use Rattle.std.proofs.lemmas.List.{get_or-set_same, get_or-set_other, length-set}
use Rattle.std.proofs.lemmas.List.Sums.{sum_by-set}
use Rattle.std.proofs.lemmas.Bool.{cases_eq, cond-false, and_left}
use Rattle.scale.specs.Totals.{limit}
use Rattle.entry.specs.Kinds.{Kind, Laws, joins}
use Rattle.book.specs.declared.contract.Contract.{Contract}
use Rattle.book.specs.declared.contract.Event.TheVariants.{Confirmation, Ending}
use Rattle.book.specs.declared.contract.State as state
use Rattle.book.specs.declared.contract.State.TheVariants.{Offered, InForce, Ended}
use Rattle.book.specs.declared.contract.Terms.{Terms}
use Rattle.book.specs.declared.sizes.Sizes.{Sizes}
use Rattle.book.specs.Limits.{most_total}
use Rattle.book.specs.Sound.{SoundBook, row_of, seller_total, sold_by}
use Rattle.book.specs.States.{in_force, state_after}
use Rattle.book.specs.Terms.{Acceptable, blank, fields}
use Rattle.book.proofs.Cutting.{seller_most}
use Rattle.ledger.specs.Boards.{Revised}
use Rattle.ledger.specs.Calls.{Resettled, rounding}
use Rattle.ledger.specs.States.{State, contracts, contract_at, row_at, agent_shortfall}
use Rattle.settle.specs.Settled.{Placed, Ready, booked}
use Rattle.settle.proofs.Between.{placed_sound, revised_between}
use Rattle.month.specs.Settling.{Settled}

nothing : {X : Type 0} {a : state.State} → ◌≡◌ {A = Option state.State} None (Some a) → X
nothing e = absurd (let z : ◌≡◌ {A = ℕ} 0 1 = cc in omega arith)

-- an ending leads to one state only, and a confirmation from one state to one
pub ends : (s n : state.State) → state_after s Ending ≡ Some n → n ≡ Ended
ends Offered n e = cc
ends InForce n e = cc
ends Ended n e = nothing e

pub enters : (s n : state.State) → state_after s Confirmation ≡ Some n → (s ≡ Offered) × (n ≡ InForce)
enters Offered n e = (refl, cc)
enters InForce n e = nothing e
enters Ended n e = nothing e

-- a contract that is not in force sells nothing
pub sells_none : (seller : ℕ) (c : Contract) → in_force c ≡ false → sold_by seller c ≡ 0
sells_none seller c idle = cond-false _ _ _ (and_left (in_force c) _ idle)

module _ (z : Sizes) (cs : List Contract) (rows f : List ℕ) (sound : SoundBook z cs rows f) where
  -- each place of the sound book is ready over rows that agree wherever a contract is in force
  old_placed : (rows' : List ℕ) → ((i : ℕ) → i < length cs → in_force (get_or cs i blank) ≡ true → row_of z.hours rows' i ≡ row_of z.hours rows i)
      → (i : ℕ) → i < length cs → Placed z (row_of z.hours rows' i) (get_or cs i blank)
  old_placed rows' same i lt =
      let p = placed_sound z cs rows i (get_or cs i blank) (sound.place i blank lt) in
      record { terms = p.terms; total = λ force. ap sum (same i lt force) ∙ p.total force; effective = p.effective }

  pub ready_all : (entries : ℕ) → length cs * z.hours ≤ length rows → entries ≡ z.agents * 4 * z.hours → Ready z cs cs rows entries
  ready_all entries covered full = record {
    long = refl;
    covered = covered;
    board = full;
    before = old_placed rows (λ i lt force. refl);
    after = old_placed rows (λ i lt force. refl);
  }

  module _ (rows' : List ℕ) (same : (i : ℕ) → i < length cs → in_force (get_or cs i blank) ≡ true → row_of z.hours rows' i ≡ row_of z.hours rows i)
      (index : ℕ) (inside : index < length cs) (changed : Contract) (terms : changed.terms ≡ (get_or cs index blank).terms)
      (total : in_force changed ≡ true → sum (row_of z.hours rows' index) ≡ changed.terms.amount)
      (effective : in_force changed ≡ true → changed.effective ≤ limit) where
    here : Placed z (row_of z.hours rows' index) changed
    here = record {
      terms = subst (λ (t : Terms). Acceptable z (fields t)) (sym terms) (sound.place index blank inside).terms;
      total = total;
      effective = effective;
    }

    pub ready_changed : (entries : ℕ) → length cs * z.hours ≤ length rows' → entries ≡ z.agents * 4 * z.hours → Ready z cs (set cs index changed) rows' entries
    ready_changed entries covered full = record {
      long = length-set cs index changed;
      covered = covered;
      board = full;
      before = old_placed rows' same;
      after = λ i lt. elim (cases_eq i index) [
        | inl e ↦ subst (Placed z (row_of z.hours rows' i)) (sym (ap (λ (n : ℕ). get_or (set cs index changed) n blank) e ∙ get_or-set_same cs index changed blank inside))
            (subst (λ (n : ℕ). Placed z (row_of z.hours rows' n) changed) (sym e) here)
        | inr ne ↦ subst (Placed z (row_of z.hours rows' i)) (sym (get_or-set_other cs index i changed blank ne)) (old_placed rows' same i lt)
      ];
    }

  -- the seller's amounts in force once one contract has changed
  pub sold_changed : (seller index : ℕ) (changed : Contract) → index < length cs
      → seller_total seller (set cs index changed) + sold_by seller (get_or cs index blank) ≡ seller_total seller cs + sold_by seller changed
  sold_changed seller index changed inside = sum_by-set (sold_by seller) cs index changed blank inside

  pub sold_most : (seller : ℕ) → seller_total seller cs ≤ most_total
  sold_most seller = seller_most z cs rows f sound seller

-- places and board that were settled make the next state of the month
module _ {V : Type 0} (k : Kind V) (laws : Laws (joins k)) (s t : State V) (rows : List ℕ) (seller : ℕ) (marked : List Contract)
    (taken : t.taken ≡ s.taken) (sizes : t.sizes ≡ s.sizes) (room : s.taken ≤ length s.places)
    (old_row : (i : ℕ) → i < s.taken → in_force (contract_at s i) ≡ true → row_of s.sizes.hours rows i ≡ row_at s i)
    (new_row : (i : ℕ) → i < s.taken → in_force (contract_at t i) ≡ true → row_of s.sizes.hours rows i ≡ row_at t i)
    (settled : Settled k s.sizes s.taken seller (agent_shortfall t seller) marked rows s.places t.places s.board t.board) where
  now_taken : take t.taken t.places ≡ take s.taken t.places
  now_taken = ap (λ (n : ℕ). take n t.places) taken

  pub resettled : Resettled k seller marked s t
  resettled = record {
    contracts = now_taken ∙ settled.contracts;
    others = settled.others;
    places = settled.long;
    taken = taken;
    sizes = sizes;
    board = revised_between k laws rounding s t rows taken room (omega (arith, taken, settled.long)) old_row new_row
        (subst (λ (cs : List Contract). Revised k rounding (booked s.sizes (contracts s) rows s.board) (booked s.sizes cs rows t.board)) (sym now_taken) settled.board);
  }
