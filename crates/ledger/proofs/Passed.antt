-- What an accepted call has passed.
use Rattle.std.proofs.Common.{◌≡◌, ℕ, ◌+◌, ◌-◌, ◌*◌, ◌<◌, ◌≤◌, true, false, eqb, ltb, leb, ◌≢◌, List, [], length, is_some, Some, None, sum, Option, sym, refl, subst, arith}
use Rattle.std.proofs.lemmas.Bool.{eqb-true, leb-true, ltb-true, and_parts}
use Rattle.scale.specs.Refusals.{Refusal, unless, first_of}
use Rattle.scale.specs.Totals.{total_check}
use Rattle.scale.specs.Weights.{clipped}
use Rattle.book.specs.declared.contract.Event.TheVariants.{Confirmation}
use Rattle.book.specs.declared.contract.Offer.{Offer}
use Rattle.book.specs.declared.contract.State as state
use Rattle.book.specs.declared.contract.State.TheVariants.{Offered, InForce, Ended}
use Rattle.book.specs.Lookup.{place_of}
use Rattle.book.specs.States.{is_in_force, in_force, state_after, allowed}
use Rattle.book.specs.Terms.{Acceptable, offer_checks}
use Rattle.book.proofs.Checking.{acceptable}
use Rattle.ledger.specs.States.{State, contracts, contract_at}
use Rattle.book.specs.Supply.{supply_check}
use Rattle.ledger.specs.Checks.{lengths_of, admitted, at_number, free, offer_refusal, event_check, confirm_refusal, tell_refusal}
use Rattle.ledger.proofs.Numbers.{some≢none, first_none, unless_none, place_none}

pub record Lengths {V : Type 0} (s : State V) : Type 0 where
  pub places : length s.places ≡ s.sizes.places
  pub rows : length s.rows ≡ s.sizes.places * s.sizes.hours
  pub shortfalls : length s.shortfalls ≡ s.sizes.agents

-- what is checked at a number that is found
at_found : (checks : ℕ → Option Refusal) (place : Option ℕ) (p : ℕ) → place ≡ Some p → at_number place checks ≡ None → checks p ≡ None
at_found checks place p found e = subst (λ (x : Option ℕ). at_number x checks ≡ None) found e

module _ {V : Type 0} (s : State V) where
  -- the memories are as long as they must be
  lengths : admitted s ≡ None → Lengths s
  lengths e =
      let p1 = first_none _ _ (first_none (lengths_of s) _ e).0 in
      let p2 = first_none _ _ p1.1 in
      let p3 = first_none _ _ p2.1 in
      record {
        places = eqb-true (length s.places) s.sizes.places (unless_none _ 1 1 p1.0);
        rows = eqb-true (length s.rows) (s.sizes.places * s.sizes.hours) (unless_none _ 1 2 p2.0);
        shortfalls = eqb-true (length s.shortfalls) s.sizes.agents (unless_none _ 1 3 p3.0);
      }

  free_none : (place : Option ℕ) → free place ≡ None → place ≡ None
  free_none None e = refl
  free_none (Some place) e = absurd (some≢none _ e)

  -- an offer
  pub record PassedOffer (o : Offer) : Type 0 where
    pub acceptable : Acceptable s.sizes o
    pub fresh : (i : ℕ) → i < length (contracts s) → (contract_at s i).terms.number ≢ o.number
    pub room : s.taken < length s.places

  pub offer_passed : (o : Offer) → offer_refusal s o ≡ None → PassedOffer o
  offer_passed o e =
      let p1 = first_none (admitted s) _ e in
      let p2 = first_none (first_of (offer_checks s.sizes o)) _ p1.1 in
      let p3 = first_none (free (place_of o.number (contracts s))) _ p2.1 in
      let p4 = first_none (unless (ltb s.taken s.sizes.places) 7 0) _ p3.1 in
      let less : s.taken < s.sizes.places = ltb-true s.taken s.sizes.places (unless_none _ 7 0 p4.0) in
      record {
        acceptable = acceptable s.sizes o p2.0;
        fresh = place_none 1 o.number (contracts s) (free_none _ p3.0);
        room = subst (λ (n : ℕ). s.taken < n) (sym (lengths p1.0).places) less;
      }

  -- a confirmation of the contract at an index
  pub record PassedConfirmation (index : ℕ) (weights : List ℕ) : Type 0 where
    pub lengths : Lengths s
    pub idle : in_force (contract_at s index) ≡ false
    pub hours : length weights ≡ s.sizes.hours
    pub weighs : 1 ≤ sum (clipped (contract_at s index).terms.first (contract_at s index).terms.last weights)

  not_yet : (st : state.State) → is_some (state_after st Confirmation) ≡ true → is_in_force st ≡ false
  not_yet Offered e = refl
  not_yet InForce e = sym e
  not_yet Ended e = refl

  at_index : (index agent : ℕ) (weights : List ℕ) →
      event_check s Confirmation agent (index + 1) ≡ None → supply_check s.sizes.hours (contract_at s (index + 1 - 1)).terms weights ≡ None →
      (in_force (contract_at s index) ≡ false) × ((length weights ≡ s.sizes.hours) × (1 ≤ sum (clipped (contract_at s index).terms.first (contract_at s index).terms.last weights)))
  at_index index agent weights event scale =
      let e1 : index + 1 - 1 ≡ index = omega arith in
      let e2 = first_none (unless (allowed Confirmation (contract_at s (index + 1 - 1)).terms agent) 9 (index + 1)) _ event in
      let e3 = first_none (unless (is_some (state_after (contract_at s (index + 1 - 1)).state Confirmation)) 10 (index + 1)) [] e2.1 in
      let fits = unless_none _ 10 (index + 1) e3.0 in
      let c1 = first_none (unless (eqb (length weights) s.sizes.hours) 11 0) _ scale in
      let c2 = first_none (total_check (clipped (contract_at s (index + 1 - 1)).terms.first (contract_at s (index + 1 - 1)).terms.last weights)) [] c1.1 in
      let c3 = first_none (unless (leb 1 (sum (clipped (contract_at s (index + 1 - 1)).terms.first (contract_at s (index + 1 - 1)).terms.last weights))) 12 0) _ c2.0 in (
        subst (λ (n : ℕ). in_force (contract_at s n) ≡ false) e1 (not_yet (contract_at s (index + 1 - 1)).state fits),
        (
          eqb-true (length weights) s.sizes.hours (unless_none _ 11 0 c1.0),
          subst (λ (n : ℕ). 1 ≤ sum (clipped (contract_at s n).terms.first (contract_at s n).terms.last weights)) e1 (leb-true 1 _ (unless_none _ 12 0 c3.0)),
        ),
      )

  pub confirmation_passed : (number agent : ℕ) (weights : List ℕ) (index : ℕ) → place_of number (contracts s) ≡ Some (index + 1) →
      confirm_refusal s number agent weights ≡ None → PassedConfirmation index weights
  confirmation_passed number agent weights index found e =
      let p1 = first_none (admitted s) _ e in
      let p2 = first_none (at_number (place_of number (contracts s)) _) _ p1.1 in
      let p3 = at_found _ (place_of number (contracts s)) (index + 1) found p2.0 in
      let p4 = first_none (event_check s Confirmation agent (index + 1)) _ p3 in
      let p5 = first_none (supply_check s.sizes.hours (contract_at s (index + 1 - 1)).terms weights) _ p4.1 in
      let facts = at_index index agent weights p4.0 p5.0 in
      record { lengths = lengths p1.0; idle = facts.0; hours = facts.1.0; weighs = facts.1.1 }

  -- a telling
  pub record PassedTelling (agent : ℕ) : Type 0 where
    pub lengths : Lengths s
    pub within : (1 ≤ agent) × (agent ≤ s.sizes.agents)

  pub telling_passed : (agent kwh : ℕ) → tell_refusal s agent kwh ≡ None → PassedTelling agent
  telling_passed agent kwh e =
      let p1 = first_none (admitted s) _ e in
      let p2 = first_none _ _ p1.1 in
      let in-range = and_parts (leb 1 agent) (leb agent s.sizes.agents) (unless_none _ 4 1 p2.0) in
      record { lengths = lengths p1.0; within = (leb-true 1 agent in-range.0, leb-true agent s.sizes.agents in-range.1) }
