-- Confirmation, ending and telling keep what every life keeps.
use Rattle.std.proofs.Common.{◌≡◌, ℕ, ◌+◌, ◌-◌, ◌*◌, ◌<◌, ◌≤◌, true, false, cond, eqb, ◌≢◌, List, map, length, get_or, set, Some, None, sum, sym, refl, ap, ◌∙◌, subst, inl, inr, arith}
use Rattle.std.proofs.lemmas.List.{length-map, length-set, length-take-le, get_or-map, get_or-set_same, get_or-set_other}
use Rattle.std.proofs.lemmas.Bool.{cases_eq, eq-eqb, ne_eqb, cond-true, cond-false, both_ways}
use Rattle.scale.specs.Shares.{shares_of}
use Rattle.scale.specs.Weights.{clipped}
use Rattle.scale.proofs.Parts.{length_clipped_from}
use Rattle.scale.proofs.Running.{length_shared}
use Rattle.entry.specs.Kinds.{Kind, Laws, joins}
use Rattle.book.specs.declared.contract.Contract.{Contract}
use Rattle.book.specs.declared.contract.Offer.{Offer}
use Rattle.book.specs.declared.contract.State.TheVariants.{InForce, Ended}
use Rattle.book.specs.declared.sizes.Sizes.{Sizes}
use Rattle.book.specs.Lookup.{place_of}
use Rattle.book.specs.Sound.{row_of}
use Rattle.book.specs.States.{in_force}
use Rattle.book.specs.Terms.{blank}
use Rattle.ledger.specs.States.{State, contracts, contract_at, row_at}
use Rattle.book.specs.Cuts.{with_effective}
use Rattle.ledger.specs.Calls.{rounding, with_state, put_row, Resettled, Enforced, Finished, Noted}
use Rattle.ledger.specs.Checks.{confirm_refusal, tell_refusal}
use Rattle.ledger.specs.Past.{Line, Ledger, no_line, line_at, stands, at_number, confirmed, ended, noted, confirming, ending, telling}
use Rattle.ledger.proofs.Kept.{Kept, Confirmed, Moves, settle}
use Rattle.ledger.proofs.Numbers.{place_some}
use Rattle.ledger.proofs.Passed.{confirmation_passed, telling_passed}
use Rattle.ledger.proofs.Rows.{row_before, row_here, row_there}

-- ledger lines that change at a number alone
abbrev changed : ℕ → (Line → Line) → Ledger → Ledger
changed number f b = record { lines = map (at_number number f) b.lines; shortfall = b.shortfall }

module _ {V : Type 0} (k : Kind V) (b : Ledger) (s : State V) (kept : Kept k b s) where
  contracts_long : length (contracts s) ≡ s.taken
  contracts_long = length-take-le s.taken s.places kept.room

  -- the contract of a number
  module _ (number index : ℕ) (found : place_of number (contracts s) ≡ Some (index + 1)) where
    found_at : (index < length (contracts s)) × ((contract_at s index).terms.number ≡ number)
    found_at = place_some 1 number (contracts s) index (found ∙ ap Some (let e : index + 1 ≡ 1 + index = omega arith in e))

    taken_at : index < s.taken
    taken_at = subst (λ (n : ℕ). index < n) contracts_long found_at.0

    numbered : (line_at b index).fields.number ≡ number
    numbered = ap (λ (o : Offer). o.number) (sym (kept.same index taken_at)) ∙ found_at.1

    abbrev seller : ℕ
    seller = (contract_at s index).terms.seller

    seller_is : (line_at b index).fields.seller ≡ seller
    seller_is = ap (λ (o : Offer). o.seller) (sym (kept.same index taken_at))

    module _ (f : Line → Line) where
      line_at_lem : (i : ℕ) → i < s.taken → line_at (changed number f b) i ≡ at_number number f (line_at b i)
      line_at_lem i p = get_or-map (at_number number f) b.lines i no_line no_line (subst (λ (n : ℕ). i < n) (sym kept.count) p)

      line_here : line_at (changed number f b) index ≡ f (line_at b index)
      line_here = line_at_lem index taken_at ∙ cond-true _ _ _ (eq-eqb (line_at b index).fields.number number numbered)

      line_there : (i : ℕ) → i < s.taken → i ≢ index → line_at (changed number f b) i ≡ line_at b i
      line_there i p ne = line_at_lem i p ∙ cond-false _ _ _ (ne_eqb (line_at b i).fields.number number
          (λ e. ne (kept.apart i index p taken_at (e ∙ sym numbered))))

      -- a change of the contract at the index, as memories and ledger have it
      module _ (c : Contract) (t : State V)
          (terms : c.terms ≡ (contract_at s index).terms)
          (same : (f (line_at b index)).fields ≡ (line_at b index).fields)
          (state : c.state ≡ (f (line_at b index)).state)
          (shortfalls : t.shortfalls ≡ s.shortfalls)
          (rows-there : (i : ℕ) → i < s.taken → i ≢ index → row_at t i ≡ row_at s i)
          (rows_stay : in_force (contract_at s index) ≡ true → row_at t index ≡ row_at s index)
          (rows-here : stands (f (line_at b index)) ≡ true → (row_at t index ≡ (f (line_at b index)).row) × Confirmed (f (line_at b index)))
          (settled : Resettled k seller (set (contracts s) index c) s t) where
        abbrev after : List Contract
        after = set (contracts s) index c

        after_here : get_or after index blank ≡ c
        after_here = get_or-set_same (contracts s) index c blank found_at.0

        after_there : (i : ℕ) → i ≢ index → get_or after i blank ≡ contract_at s i
        after_there i ne = get_or-set_other (contracts s) index i c blank ne

        by_place : (P : ℕ → Type 0) → P index → ((i : ℕ) → i < s.taken → i ≢ index → P i) → (i : ℕ) → i < s.taken → P i
        by_place P here there i p = elim (cases_eq i index) [
          | inl e ↦ subst P (sym e) here
          | inr ne ↦ there i p ne
        ]

        change_moves : Moves k b (changed number f b) seller after s t
        change_moves = record {
          within = let fit = kept.fit index taken_at in
              (subst (λ (n : ℕ). 1 ≤ n) seller_is fit.seller.0, subst (λ (n : ℕ). n ≤ s.sizes.agents) seller_is fit.seller.1);
          long = length-set (contracts s) index c ∙ contracts_long;
          count = length-map b.lines (at_number number f);
          fields = by_place (λ i. (line_at (changed number f b) i).fields ≡ (line_at b i).fields)
              (ap (λ (l : Line). l.fields) line_here ∙ same) (λ i p ne. ap (λ (l : Line). l.fields) (line_there i p ne));
          terms = by_place (λ i. (get_or after i blank).terms ≡ (contract_at s i).terms)
              (ap (λ (x : Contract). x.terms) after_here ∙ terms) (λ i p ne. ap (λ (x : Contract). x.terms) (after_there i ne));
          state = by_place (λ i. (get_or after i blank).state ≡ (line_at (changed number f b) i).state)
              (ap (λ (x : Contract). x.state) after_here ∙ state ∙ ap (λ (l : Line). l.state) (sym line_here))
              (λ i p ne. ap (λ (x : Contract). x.state) (after_there i ne) ∙ kept.state i p ∙ ap (λ (l : Line). l.state) (sym (line_there i p ne)));
          others = by_place (λ i. (line_at (changed number f b) i).fields.seller ≢ seller → (get_or after i blank ≡ contract_at s i) × (line_at (changed number f b) i ≡ line_at b i))
              (λ ne. absurd (ne (ap (λ (l : Line). l.fields.seller) line_here ∙ ap (λ (o : Offer). o.seller) same ∙ seller_is)))
              (λ i p ne _. (after_there i ne, line_there i p ne));
          told = λ a low high. ap (λ (xs : List ℕ). get_or xs (a - 1) 0) shortfalls ∙ kept.shortfalls a low high;
          untold = λ a _. refl;
          rows = by_place (λ i. stands (line_at (changed number f b) i) ≡ true → (row_at t i ≡ (line_at (changed number f b) i).row) × Confirmed (line_at (changed number f b) i))
              (λ y. let r = rows-here (ap stands (sym line_here) ∙ y) in
              (r.0 ∙ ap (λ (l : Line). l.row) (sym line_here), subst Confirmed (sym line_here) r.1))
              (λ i p ne y.
              let was : stands (line_at b i) ≡ true = ap stands (sym (line_there i p ne)) ∙ y in (
                rows-there i p ne ∙ kept.rows i p was ∙ ap (λ (l : Line). l.row) (sym (line_there i p ne)),
                subst Confirmed (sym (line_there i p ne)) (kept.noted i p was),
              ));
          stay = by_place (λ i. in_force (contract_at s i) ≡ true → row_at t i ≡ row_at s i) rows_stay (λ i p ne _. rows-there i p ne);
          settled = settled;
        }

  -- rows that are as they were
  rows_same : (t : State V) → t.sizes ≡ s.sizes → t.rows ≡ s.rows → (i : ℕ) → row_at t i ≡ row_at s i
  rows_same t sizes rows i = ap (λ (z : Sizes). row_of z.hours t.rows i) sizes ∙ ap (λ (xs : List ℕ). row_of s.sizes.hours xs i) rows

  module _ (laws : Laws (joins k)) (t : State V) where
    pub ending_kept : (number agent : ℕ) → Finished k number s t → Kept k (noted (ending number agent) b) t
    ending_kept number agent e =
        let i = e.index in
        let was = contract_at s i in
        let c = with_effective 0 (with_state Ended was) in
        let alike = rows_same t e.settled.sizes e.rows in
        settle k laws b (changed number ended b) was.terms.seller (set (contracts s) i c) s t kept
        (change_moves number i e.found ended c t refl refl refl e.shortfalls
        (λ j _ _. alike j) (λ _. alike i) (λ y. absurd (both_ways false refl y)) e.settled)

    pub telling_kept : (agent kwh : ℕ) → tell_refusal s agent kwh ≡ None → Noted k agent kwh s t → Kept k (noted (telling agent kwh) b) t
    telling_kept agent kwh answered e =
        let passed = telling_passed s agent kwh answered in
        let alike = rows_same t e.settled.sizes e.rows in
        let d : Ledger = record { lines = b.lines; shortfall = λ a. cond (eqb a agent) kwh (b.shortfall a) } in
        settle k laws b d agent (contracts s) s t kept (record {
          within = passed.within;
          long = contracts_long;
          count = refl;
          fields = λ i _. refl;
          terms = λ i _. refl;
          state = kept.state;
          others = λ i _ _. (refl, refl);
          told = λ a low high. ap (λ (xs : List ℕ). get_or xs (a - 1) 0) e.shortfalls ∙ elim (cases_eq a agent) [
            | inl same ↦ ap (λ (n : ℕ). get_or (set s.shortfalls (agent - 1) kwh) (n - 1) 0) same
                ∙ get_or-set_same s.shortfalls (agent - 1) kwh 0 (let w = passed.within in omega (arith, passed.lengths.shortfalls))
                ∙ sym (cond-true _ _ _ (eq-eqb a agent same))
            | inr ne ↦ get_or-set_other s.shortfalls (agent - 1) (a - 1) kwh 0 (λ q. ne (let w = passed.within in omega arith))
                ∙ kept.shortfalls a low high ∙ sym (cond-false _ _ _ (ne_eqb a agent ne))
          ];
          untold = λ a ne. cond-false _ _ _ (ne_eqb a agent ne);
          rows = λ i p y. (alike i ∙ kept.rows i p y, kept.noted i p y);
          stay = λ i _ _. alike i;
          settled = e.settled;
        })

    pub confirming_kept : (number agent : ℕ) (weights : List ℕ) → confirm_refusal s number agent weights ≡ None → Enforced k number weights s t →
        Kept k (noted (confirming number agent weights) b) t
    confirming_kept number agent weights answered e =
        let i = e.index in
        let was = contract_at s i in
        let passed = confirmation_passed s number agent weights i e.found answered in
        let p = taken_at number i e.found in
        let hours = s.sizes.hours in
        let ws = clipped was.terms.first was.terms.last weights in
        let row = shares_of rounding was.terms.amount ws in
        let long : length row ≡ hours = length_shared (rounding was.terms.amount (sum ws)) 0 ws ∙ length_clipped_from 1 was.terms.first was.terms.last weights ∙ passed.hours in
        let room : i * hours + hours ≤ length s.rows = subst (λ (n : ℕ). i * hours + hours ≤ n) (sym passed.lengths.rows)
        (row_before i s.sizes.places hours (let r = kept.room in omega (arith, p, passed.lengths.places))) in
        let written : (j : ℕ) → row_at t j ≡ row_of hours (put_row hours i row s.rows) j =
        λ j. ap (λ (z : Sizes). row_of z.hours t.rows j) e.settled.sizes ∙ ap (λ (xs : List ℕ). row_of hours xs j) e.rows in
        let l = line_at b i in
        settle k laws b (changed number (confirmed weights) b) was.terms.seller (set (contracts s) i (with_state InForce was)) s t kept
        (change_moves number i e.found (confirmed weights) (with_state InForce was) t refl refl refl e.shortfalls
        (λ j _ ne. written j ∙ row_there hours i row s.rows long room j ne)
        (λ y. absurd (both_ways (in_force was) passed.idle y))
        (λ _. (
          written i ∙ row_here hours i row s.rows long room
              ∙ ap (λ (o : Offer). shares_of rounding o.amount (clipped o.first o.last weights)) (kept.same i p),
          record { weighs = subst (λ (o : Offer). 1 ≤ sum (clipped o.first o.last weights)) (kept.same i p) passed.weighs; row = refl },
        ))
        e.settled)
