-- What every life of a month keeps: its memories are those of the ledger of its past.
use Rattle.std.proofs.Common.{◌≡◌, ℕ, ◌<◌, ◌≤◌, Bool, true, false, eqb, ◌≢◌, ◌⊎◌, List, map, length, get_or, sum, sym, ap, ◌∙◌, subst, inl, inr, arith}
use Rattle.std.proofs.lemmas.List.{length-map, get_or-map, ext_get_or}
use Rattle.std.proofs.lemmas.Bool.{cases_eq, eq-eqb, ne_eqb, cond-true, cond-false, and_from, and_right}
use Rattle.scale.specs.Shares.{shares_of}
use Rattle.entry.specs.Kinds.{Kind, Laws, joins}
use Rattle.book.specs.declared.contract.Contract.{Contract}
use Rattle.book.specs.declared.contract.Offer.{Offer}
use Rattle.book.specs.declared.contract.State as state
use Rattle.book.specs.declared.sizes.Sizes.{Sizes}
use Rattle.book.specs.Cuts.{Claim, no_claim, claim_of, effective_at, stands_for}
use Rattle.book.specs.States.{in_force, is_in_force}
use Rattle.book.specs.Terms.{Acceptable, fields, blank}
use Rattle.ledger.specs.States.{State, contract_at, row_at, agent_shortfall}
use Rattle.ledger.specs.Calls.{rounding, Resettled}
use Rattle.ledger.specs.Past.{Line, Ledger, no_line, line_at, stands, claim_in, effective_in}
use Rattle.ledger.proofs.Board.{Posted, Fits, posted_next}
use Rattle.ledger.proofs.Recut.{recut_at, get_or_recut, recut_terms, recut_state, effective_same, weights_same}

-- a line in force notes its weights, which weigh something, and its row
pub record Confirmed (l : Line) : Type 0 where
  pub weighs : 1 ≤ sum l.weights
  pub row : l.row ≡ shares_of rounding l.fields.amount l.weights

pub record Kept {V : Type 0} (k : Kind V) (b : Ledger) (s : State V) : Type 0 where
  pub count : length b.lines ≡ s.taken
  pub room : s.taken ≤ length s.places
  pub places : length s.places ≡ s.sizes.places
  pub fit : (i : ℕ) → i < s.taken → Acceptable s.sizes (line_at b i).fields
  pub same : (i : ℕ) → i < s.taken → fields (contract_at s i).terms ≡ (line_at b i).fields
  pub state : (i : ℕ) → i < s.taken → (contract_at s i).state ≡ (line_at b i).state
  pub apart : (i j : ℕ) → i < s.taken → j < s.taken → (line_at b i).fields.number ≡ (line_at b j).fields.number → i ≡ j
  pub rows : (i : ℕ) → i < s.taken → stands (line_at b i) ≡ true → row_at s i ≡ (line_at b i).row
  pub noted : (i : ℕ) → i < s.taken → stands (line_at b i) ≡ true → Confirmed (line_at b i)
  pub effective : (i : ℕ) → i < s.taken → stands (line_at b i) ≡ true → (contract_at s i).effective ≡ effective_in b i
  pub shortfalls : (a : ℕ) → 1 ≤ a → a ≤ s.sizes.agents → agent_shortfall s a ≡ b.shortfall a
  pub posted : Posted k s

pub kept_fits : {V : Type 0} {k : Kind V} {b : Ledger} {s : State V} → Kept k b s → Fits s
kept_fits {s} kept i p = subst (Acceptable s.sizes) (sym (kept.same i p)) (kept.fit i p)

-- What an event does to memories and ledger where the seller is set anew from the contracts `after` it.
pub record Moves {V : Type 0} (k : Kind V) (b d : Ledger) (seller : ℕ) (after : List Contract) (s t : State V) : Type 0 where
  pub within : (1 ≤ seller) × (seller ≤ s.sizes.agents)
  pub long : length after ≡ s.taken
  pub count : length d.lines ≡ length b.lines
  pub fields : (i : ℕ) → i < s.taken → (line_at d i).fields ≡ (line_at b i).fields
  pub terms : (i : ℕ) → i < s.taken → (get_or after i blank).terms ≡ (contract_at s i).terms
  pub state : (i : ℕ) → i < s.taken → (get_or after i blank).state ≡ (line_at d i).state
  pub others : (i : ℕ) → i < s.taken → (line_at d i).fields.seller ≢ seller → (get_or after i blank ≡ contract_at s i) × (line_at d i ≡ line_at b i)
  pub told : (a : ℕ) → 1 ≤ a → a ≤ s.sizes.agents → agent_shortfall t a ≡ d.shortfall a
  pub untold : (a : ℕ) → a ≢ seller → d.shortfall a ≡ b.shortfall a
  pub rows : (i : ℕ) → i < s.taken → stands (line_at d i) ≡ true → (row_at t i ≡ (line_at d i).row) × Confirmed (line_at d i)
  pub stay : (i : ℕ) → i < s.taken → in_force (contract_at s i) ≡ true → row_at t i ≡ row_at s i
  pub settled : Resettled k seller after s t

-- the cut rule reads the same of a contract and of its line
claim_same : (c : Contract) (l : Line) → fields c.terms ≡ l.fields → c.state ≡ l.state → claim_of c ≡ claim_in l
claim_same c l f st =
    ap (form (in_force c)) f ∙ ap (λ (x : state.State). form (is_in_force x) l.fields) st
  where
    form : Bool → Offer → Claim
    form b o = record { seller = o.seller; class = o.class; amount = o.amount; standing = b }

module _ {V : Type 0} (k : Kind V) (laws : Laws (joins k)) (b d : Ledger) (seller : ℕ) (after : List Contract) (s t : State V)
    (kept : Kept k b s) (moves : Moves k b d seller after s t) where
  abbrev short : ℕ
  short = agent_shortfall t seller

  inside : (i : ℕ) → i < s.taken → i < length after
  inside i p = subst (λ (n : ℕ). i < n) (sym moves.long) p

  lines_long : length d.lines ≡ s.taken
  lines_long = moves.count ∙ kept.count

  at_place : (i : ℕ) → i < s.taken → contract_at t i ≡ recut_at rounding seller short after i (get_or after i blank)
  at_place i p = ap (λ (cs : List Contract). get_or cs i blank) moves.settled.contracts ∙ get_or_recut rounding seller short after i (inside i p)

  terms_at : (i : ℕ) → i < s.taken → (contract_at t i).terms ≡ (contract_at s i).terms
  terms_at i p = ap (λ (c : Contract). c.terms) (at_place i p) ∙ recut_terms rounding seller short after i (get_or after i blank) ∙ moves.terms i p

  state_at : (i : ℕ) → i < s.taken → (contract_at t i).state ≡ (line_at d i).state
  state_at i p = ap (λ (c : Contract). c.state) (at_place i p) ∙ recut_state rounding seller short after i (get_or after i blank) ∙ moves.state i p

  fields_at : (i : ℕ) → i < s.taken → fields (get_or after i blank).terms ≡ (line_at d i).fields
  fields_at i p = ap fields (moves.terms i p) ∙ kept.same i p ∙ sym (moves.fields i p)

  claims : map claim_of after ≡ map claim_in d.lines
  claims = ext_get_or no_claim (map claim_of after) (map claim_in d.lines)
      (length-map after claim_of ∙ moves.long ∙ sym lines_long ∙ sym (length-map d.lines claim_in))
      (λ i p.
      let q : i < s.taken = subst (λ (n : ℕ). i < n) (length-map after claim_of ∙ moves.long) p in
      get_or-map claim_of after i blank no_claim (inside i q)
      ∙ claim_same (get_or after i blank) (line_at d i) (fields_at i q) (moves.state i q)
      ∙ sym (get_or-map claim_in d.lines i no_line no_claim (subst (λ (n : ℕ). i < n) (sym lines_long) q)))

  -- the seller's own contracts
  own_effective : (i : ℕ) → i < s.taken → stands (line_at d i) ≡ true → (line_at d i).fields.seller ≡ seller → (contract_at t i).effective ≡ effective_in d i
  own_effective i p y e =
      let c = get_or after i blank in
      let standing : stands_for seller c ≡ true = and_from (in_force c) (eqb c.terms.seller seller) (ap is_in_force (moves.state i p) ∙ y)
      (eq-eqb c.terms.seller seller (ap (λ (o : Offer). o.seller) (fields_at i p) ∙ e)) in
      ap (λ (x : Contract). x.effective) (at_place i p ∙ cond-true (stands_for seller c) _ _ standing)
      ∙ ap (λ (x : ℕ). effective_at rounding x (map claim_of after) i) (moves.told seller moves.within.0 moves.within.1 ∙ ap d.shortfall (sym e))
      ∙ ap (λ (cs : List Claim). effective_at rounding (d.shortfall (line_at d i).fields.seller) cs i) claims

  -- those of others
  other_effective : (i : ℕ) → i < s.taken → stands (line_at d i) ≡ true → (line_at d i).fields.seller ≢ seller → (contract_at t i).effective ≡ effective_in d i
  other_effective i p y ne =
      let c = get_or after i blank in
      let o = moves.others i p ne in
      let idle : stands_for seller c ≡ false = and_right (in_force c) (eqb c.terms.seller seller)
      (ne_eqb c.terms.seller seller (λ e. ne (sym (ap (λ (x : Offer). x.seller) (fields_at i p)) ∙ e))) in
      let il : i < length b.lines = subst (λ (n : ℕ). i < n) (sym kept.count) p in
      let id : i < length d.lines = subst (λ (n : ℕ). i < n) (sym lines_long) p in
      let bs = map claim_in b.lines in
      let ds = map claim_in d.lines in
      let here : get_or bs i no_claim ≡ get_or ds i no_claim =
      get_or-map claim_in b.lines i no_line no_claim il ∙ ap claim_in (sym o.1) ∙ sym (get_or-map claim_in d.lines i no_line no_claim id) in
      let whose : (get_or ds i no_claim).seller ≡ (line_at d i).fields.seller = ap (λ (x : Claim). x.seller) (get_or-map claim_in d.lines i no_line no_claim id) in
      let agree : (j : ℕ) → j < length bs → (get_or bs j no_claim ≡ get_or ds j no_claim) ⊎
      (((get_or bs j no_claim).seller ≢ (get_or ds i no_claim).seller) × ((get_or ds j no_claim).seller ≢ (get_or ds i no_claim).seller)) =
      λ j q. agrees i p ne whose j (subst (λ (n : ℕ). j < n) (length-map b.lines claim_in ∙ kept.count) q) in
      ap (λ (x : Contract). x.effective) (at_place i p ∙ cond-false (stands_for seller c) _ _ idle ∙ o.0)
      ∙ kept.effective i p (ap stands (sym o.1) ∙ y)
      ∙ ap (λ (x : ℕ). effective_at rounding x bs i) (ap (λ (l : Line). b.shortfall l.fields.seller) (sym o.1) ∙ sym (moves.untold (line_at d i).fields.seller ne))
      ∙ effective_same rounding (d.shortfall (line_at d i).fields.seller) bs ds i here
      (λ class. weights_same (get_or ds i no_claim).seller class bs ds (length-map b.lines claim_in ∙ sym moves.count ∙ sym (length-map d.lines claim_in)) agree)
    where
      agrees : (i : ℕ) → i < s.taken → (line_at d i).fields.seller ≢ seller → (get_or (map claim_in d.lines) i no_claim).seller ≡ (line_at d i).fields.seller →
          (j : ℕ) → j < s.taken → (get_or (map claim_in b.lines) j no_claim ≡ get_or (map claim_in d.lines) j no_claim) ⊎
          (((get_or (map claim_in b.lines) j no_claim).seller ≢ (get_or (map claim_in d.lines) i no_claim).seller)
          × ((get_or (map claim_in d.lines) j no_claim).seller ≢ (get_or (map claim_in d.lines) i no_claim).seller))
      agrees i p ne whose j q =
          let jb = get_or-map claim_in b.lines j no_line no_claim (subst (λ (n : ℕ). j < n) (sym kept.count) q) in
          let jd = get_or-map claim_in d.lines j no_line no_claim (subst (λ (n : ℕ). j < n) (sym lines_long) q) in
          elim (cases_eq (line_at d j).fields.seller seller) [
            | inl e ↦ inr (
              (λ z. ne (sym whose ∙ sym z ∙ ap (λ (x : Claim). x.seller) jb ∙ ap (λ (x : Offer). x.seller) (sym (moves.fields j q)) ∙ e)),
              (λ z. ne (sym whose ∙ sym z ∙ ap (λ (x : Claim). x.seller) jd ∙ e)),
            )
            | inr nj ↦ inl (jb ∙ ap claim_in (sym (moves.others j q nj).1) ∙ sym jd)
          ]

  abbrev back : {i : ℕ} → i < t.taken → i < s.taken
  back {i} p = subst (λ (n : ℕ). i < n) moves.settled.taken p

  pub settle : Kept k d t
  settle = record {
    count = lines_long ∙ sym moves.settled.taken;
    room = let r = kept.room in omega (arith, moves.settled.taken, moves.settled.places);
    places = moves.settled.places ∙ kept.places ∙ ap (λ (z : Sizes). z.places) (sym moves.settled.sizes);
    fit = λ i p. subst (λ (z : Sizes). Acceptable z (line_at d i).fields) (sym moves.settled.sizes)
        (subst (Acceptable s.sizes) (sym (moves.fields i (back p))) (kept.fit i (back p)));
    same = λ i p. ap fields (terms_at i (back p)) ∙ kept.same i (back p) ∙ sym (moves.fields i (back p));
    state = λ i p. state_at i (back p);
    apart = λ i j p q e. kept.apart i j (back p) (back q)
        (ap (λ (o : Offer). o.number) (sym (moves.fields i (back p))) ∙ e ∙ ap (λ (o : Offer). o.number) (moves.fields j (back q)));
    rows = λ i p y. (moves.rows i (back p) y).0;
    noted = λ i p y. (moves.rows i (back p) y).1;
    effective = λ i p y. elim (cases_eq (line_at d i).fields.seller seller) [
      | inl e ↦ own_effective i (back p) y e
      | inr ne ↦ other_effective i (back p) y ne
    ];
    shortfalls = λ a low high. moves.told a low (subst (λ (z : Sizes). a ≤ z.agents) moves.settled.sizes high);
    posted = posted_next k laws s t moves.settled.sizes moves.settled.taken (kept_fits kept) kept.posted terms_at moves.stay moves.settled.board;
  }
