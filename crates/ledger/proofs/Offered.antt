-- Opening gives what every life keeps, and an offer keeps it.
use Rattle.std.proofs.Common.{◌≡◌, ℕ, ◌+◌, ◌-◌, ◌*◌, ◌<◌, ◌≤◌, true, false, ◌≢◌, List, [], ◌∷◌, ◌++◌, map, length, get_or, take, replicate, None, sym, refl, ap, ◌∙◌, subst, inl, inr, arith}
use Rattle.std.proofs.lemmas.List.{length-set, length_push, length-map, length-take-le, get_or_append_left, get_or_push, get_or-replicate, get_or_past, length-replicate, take_more_set, map_push}
use Rattle.std.proofs.lemmas.Bool.{cases_lt, cond-false, both_ways}
use Rattle.entry.specs.Kinds.{Kind, Laws, joins, up_to}
use Rattle.entry.proofs.Totals.{up_more, up_same}
use Rattle.book.specs.declared.contract.Contract.{Contract}
use Rattle.book.specs.declared.contract.Offer.{Offer}
use Rattle.book.specs.declared.sizes.Sizes.{Sizes}
use Rattle.book.specs.Cuts.{Claim, effective_at}
use Rattle.book.specs.Sound.{row_of}
use Rattle.book.specs.States.{in_force, is_in_force}
use Rattle.book.specs.Terms.{Acceptable, fields, blank}
use Rattle.ledger.specs.States.{State, contracts, contract_at, row_at}
use Rattle.board.specs.Moves.{cell}
use Rattle.ledger.specs.Boards.{puts, AllCancel}
use Rattle.ledger.specs.Calls.{rounding, Taken, Opened}
use Rattle.ledger.specs.Checks.{offer_refusal}
use Rattle.ledger.specs.Past.{Line, Ledger, ledger, no_line, line_at, stands, claim_in, effective_in, entered, noted, offering}
use Rattle.ledger.proofs.Board.{Posted}
use Rattle.ledger.proofs.Kept.{Kept, Confirmed}
use Rattle.ledger.proofs.Passed.{PassedOffer, offer_passed}
use Rattle.ledger.proofs.Recut.{effective_longer}

all_alike : {X : Type 0} (n i : ℕ) (x : X) → get_or (replicate n x) i x ≡ x
all_alike n i x = elim (cases_lt i n) [
  | inl less ↦ get_or-replicate n i x x less
  | inr more ↦ get_or_past (replicate n x) i x (subst (λ (m : ℕ). m ≤ i) (sym (length-replicate n x)) more)
]

pub opening_kept : {V : Type 0} (k : Kind V) (s : State V) → Opened k s → Kept k (ledger []) s
opening_kept k s o =
    record {
      count = sym o.taken;
      room = let e = o.taken in omega arith;
      places = o.places;
      fit = λ i p. absurd (none i p);
      same = λ i p. absurd (none i p);
      state = λ i p. absurd (none i p);
      apart = λ i j p q e. absurd (none i p);
      rows = λ i p y. absurd (none i p);
      noted = λ i p y. absurd (none i p);
      effective = λ i p y. absurd (none i p);
      shortfalls = λ a low high. ap (λ (xs : List ℕ). get_or xs (a - 1) 0) o.shortfalls ∙ all_alike s.sizes.agents (a - 1) 0;
      posted = record {
        held = λ l hour ll hh. ap (λ vs. get_or vs (l * s.sizes.hours + hour) k.nothing) o.board
            ∙ all_alike (s.sizes.agents * 4 * s.sizes.hours) (l * s.sizes.hours + hour) k.nothing
            ∙ ap (λ (n : ℕ). up_to (joins k) n (λ i. puts k rounding (contract_at s i) (row_at s i) l hour)) (sym o.taken);
        cancels = λ i p. absurd (none i p);
      };
    }
  where
    none : (i : ℕ) → i < s.taken → ⊥
    none i p = let e = o.taken in omega arith

module _ {V : Type 0} (k : Kind V) (laws : Laws (joins k)) (b : Ledger) (s t : State V) (kept : Kept k b s) (o : Offer)
    (answered : offer_refusal s o ≡ None) (e : Taken o s t) where
  abbrev next : Ledger
  next = noted (offering o) b

  abbrev passed : PassedOffer s o
  passed = offer_passed s o answered

  contracts_long : length (contracts s) ≡ s.taken
  contracts_long = length-take-le s.taken s.places kept.room

  contracts_next : contracts t ≡ contracts s ++ (e.contract ∷ [])
  contracts_next = ap (λ (n : ℕ). take n t.places) e.taken ∙ ap (take (s.taken + 1)) e.places
      ∙ take_more_set s.places s.taken e.contract passed.room

  place_old : (i : ℕ) → i < s.taken → contract_at t i ≡ contract_at s i
  place_old i p = ap (λ (cs : List Contract). get_or cs i blank) contracts_next
      ∙ get_or_append_left (contracts s) (e.contract ∷ []) blank i (subst (λ (n : ℕ). i < n) (sym contracts_long) p)

  place_new : contract_at t s.taken ≡ e.contract
  place_new = ap (λ (cs : List Contract). get_or cs s.taken blank) contracts_next ∙ get_or_push (contracts s) e.contract blank s.taken contracts_long

  line_old : (i : ℕ) → i < s.taken → line_at next i ≡ line_at b i
  line_old i p = get_or_append_left b.lines (entered o ∷ []) no_line i (subst (λ (n : ℕ). i < n) (sym kept.count) p)

  line_new : line_at next s.taken ≡ entered o
  line_new = get_or_push b.lines (entered o) no_line s.taken kept.count

  idle_new : stands (line_at next s.taken) ≡ false
  idle_new = ap stands line_new

  idle_place : in_force (contract_at t s.taken) ≡ false
  idle_place = ap in_force place_new ∙ ap is_in_force e.offered.state

  row_old : (i : ℕ) → row_at t i ≡ row_at s i
  row_old i = ap (λ (z : Sizes). row_of z.hours t.rows i) e.sizes ∙ ap (λ (xs : List ℕ). row_of s.sizes.hours xs i) e.rows

  -- what holds of the old places and of the new one holds of all
  each : (P : ℕ → Type 0) → ((i : ℕ) → i < s.taken → P i) → P s.taken → (i : ℕ) → i < t.taken → P i
  each P old new i p = elim (cases_lt i s.taken) [
    | inl less ↦ old i less
    | inr more ↦ subst P (let q : s.taken ≡ i = omega (arith, e.taken) in q) new
  ]

  fresh_number : (i : ℕ) → i < s.taken → (line_at b i).fields.number ≢ o.number
  fresh_number i p q = passed.fresh i (subst (λ (n : ℕ). i < n) (sym contracts_long) p) (ap (λ (x : Offer). x.number) (kept.same i p) ∙ q)

  effective_old : (i : ℕ) → i < s.taken → stands (line_at next i) ≡ true → (contract_at t i).effective ≡ effective_in next i
  effective_old i p y =
      ap (λ (c : Contract). c.effective) (place_old i p)
      ∙ kept.effective i p (ap stands (sym (line_old i p)) ∙ y)
      ∙ ap (λ (l : Line). effective_at rounding (b.shortfall l.fields.seller) (map claim_in b.lines) i) (sym (line_old i p))
      ∙ sym (effective_longer rounding (b.shortfall (line_at next i).fields.seller) (map claim_in b.lines) (claim_in (entered o)) i refl
      (subst (λ (n : ℕ). i < n) (sym (length-map b.lines claim_in ∙ kept.count)) p))
      ∙ ap (λ (cs : List Claim). effective_at rounding (b.shortfall (line_at next i).fields.seller) cs i) (sym (map_push claim_in b.lines (entered o)))

  posted_offer : Posted k t
  posted_offer = record {
    held = λ l hour ll hh.
        ap (λ (z : Sizes). cell k z.hours t.board l hour) e.sizes
        ∙ ap (λ vs. cell k s.sizes.hours vs l hour) e.board
        ∙ kept.posted.held l hour (subst (λ (z : Sizes). l < z.agents * 4) e.sizes ll) (subst (λ (z : Sizes). hour < z.hours) e.sizes hh)
        ∙ up_same (joins k) laws s.taken _ _ (λ i p.
        ap (λ (c : Contract). puts k rounding c (row_at s i) l hour) (sym (place_old i p))
        ∙ ap (λ (r : List ℕ). puts k rounding (contract_at t i) r l hour) (sym (row_old i)))
        ∙ sym (laws.unit (up_to (joins k) s.taken (λ i. puts k rounding (contract_at t i) (row_at t i) l hour)))
        ∙ ap (k.join (up_to (joins k) s.taken (λ i. puts k rounding (contract_at t i) (row_at t i) l hour)))
        (sym (cond-false (in_force (contract_at t s.taken)) _ _ idle_place))
        ∙ sym (up_more (joins k) s.taken (λ i. puts k rounding (contract_at t i) (row_at t i) l hour))
        ∙ ap (λ (n : ℕ). up_to (joins k) n (λ i. puts k rounding (contract_at t i) (row_at t i) l hour)) (sym e.taken);
    cancels = each (λ i. AllCancel k rounding t.sizes.hours (contract_at t i) (row_at t i))
        (λ i p. subst (λ (z : Sizes). AllCancel k rounding z.hours (contract_at t i) (row_at t i)) (sym e.sizes)
        (subst (AllCancel k rounding s.sizes.hours (contract_at t i)) (sym (row_old i))
        (subst (λ (c : Contract). AllCancel k rounding s.sizes.hours c (row_at s i)) (sym (place_old i p)) (kept.posted.cancels i p))))
        (λ y. absurd (both_ways _ idle_place y));
  }

  pub offering_kept : Kept k next t
  offering_kept = record {
    count = length_push b.lines (entered o) ∙ ap (λ (n : ℕ). n + 1) kept.count ∙ sym e.taken;
    room = let r = passed.room in omega (arith, e.taken, ap length e.places, length-set s.places s.taken e.contract);
    places = ap length e.places ∙ length-set s.places s.taken e.contract ∙ kept.places ∙ ap (λ (z : Sizes). z.places) (sym e.sizes);
    fit = each (λ i. Acceptable t.sizes (line_at next i).fields)
        (λ i p. subst (λ (z : Sizes). Acceptable z (line_at next i).fields) (sym e.sizes)
        (subst (λ (l : Line). Acceptable s.sizes l.fields) (sym (line_old i p)) (kept.fit i p)))
        (subst (λ (z : Sizes). Acceptable z (line_at next s.taken).fields) (sym e.sizes)
        (subst (λ (l : Line). Acceptable s.sizes l.fields) (sym line_new) passed.acceptable));
    same = each (λ i. fields (contract_at t i).terms ≡ (line_at next i).fields)
        (λ i p. ap (λ (c : Contract). fields c.terms) (place_old i p) ∙ kept.same i p ∙ ap (λ (l : Line). l.fields) (sym (line_old i p)))
        (ap (λ (c : Contract). fields c.terms) place_new ∙ e.offered.terms ∙ ap (λ (l : Line). l.fields) (sym line_new));
    state = each (λ i. (contract_at t i).state ≡ (line_at next i).state)
        (λ i p. ap (λ (c : Contract). c.state) (place_old i p) ∙ kept.state i p ∙ ap (λ (l : Line). l.state) (sym (line_old i p)))
        (ap (λ (c : Contract). c.state) place_new ∙ e.offered.state ∙ ap (λ (l : Line). l.state) (sym line_new));
    apart = λ i j p q same. each (λ x. (y : ℕ) → y < t.taken → (line_at next x).fields.number ≡ (line_at next y).fields.number → x ≡ y)
        (λ x px. each (λ y. (line_at next x).fields.number ≡ (line_at next y).fields.number → x ≡ y)
        (λ y py w. kept.apart x y px py (ap (λ (l : Line). l.fields.number) (sym (line_old x px)) ∙ w ∙ ap (λ (l : Line). l.fields.number) (line_old y py)))
        (λ w. absurd (fresh_number x px (ap (λ (l : Line). l.fields.number) (sym (line_old x px)) ∙ w ∙ ap (λ (l : Line). l.fields.number) line_new))))
        (each (λ y. (line_at next s.taken).fields.number ≡ (line_at next y).fields.number → s.taken ≡ y)
        (λ y py w. absurd (fresh_number y py (ap (λ (l : Line). l.fields.number) (sym (line_old y py)) ∙ sym w ∙ ap (λ (l : Line). l.fields.number) line_new)))
        (λ w. refl)) i p j q same;
    rows = each (λ i. stands (line_at next i) ≡ true → row_at t i ≡ (line_at next i).row)
        (λ i p y. row_old i ∙ kept.rows i p (ap stands (sym (line_old i p)) ∙ y) ∙ ap (λ (l : Line). l.row) (sym (line_old i p)))
        (λ y. absurd (both_ways _ idle_new y));
    noted = each (λ i. stands (line_at next i) ≡ true → Confirmed (line_at next i))
        (λ i p y. subst Confirmed (sym (line_old i p)) (kept.noted i p (ap stands (sym (line_old i p)) ∙ y)))
        (λ y. absurd (both_ways _ idle_new y));
    effective = each (λ i. stands (line_at next i) ≡ true → (contract_at t i).effective ≡ effective_in next i)
        effective_old (λ y. absurd (both_ways _ idle_new y));
    shortfalls = λ a low high. ap (λ (xs : List ℕ). get_or xs (a - 1) 0) e.shortfalls ∙ kept.shortfalls a low (subst (λ (z : Sizes). a ≤ z.agents) e.sizes high);
    posted = posted_offer;
  }
