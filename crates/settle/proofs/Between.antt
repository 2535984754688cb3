-- What a sound book gives the board, and what following it gives two states of a month. Assumes nothing.
use Rattle.std.proofs.Common.{◌≡◌, ℕ, ◌*◌, ◌<◌, ◌≤◌, true, false, cond, List, length, get_or, take, sym, ap, ◌∙◌, subst, inl, inr, arith}
use Rattle.std.proofs.lemmas.List.{get_or-take, length-take-le}
use Rattle.std.proofs.lemmas.Bool.{cases_Bool, cond-false}
use Rattle.scale.specs.Shares.{Rule}
use Rattle.entry.specs.Kinds.{Kind, Laws, Cancels, joins, up_to}
use Rattle.entry.proofs.Totals.{up_same}
use Rattle.book.specs.declared.contract.Contract.{Contract}
use Rattle.book.specs.declared.sizes.Sizes.{Sizes}
use Rattle.book.specs.Sound.{SoundBook, SoundPlace, row_of}
use Rattle.book.specs.States.{in_force}
use Rattle.book.specs.Terms.{blank}
use Rattle.ledger.specs.States.{State, contracts, contract_at, row_at}
use Rattle.board.specs.Moves.{cell}
use Rattle.ledger.specs.Boards.{changes, puts, takes_off, quantity_of, stays, AllCancel, Revised}
use Rattle.settle.specs.Settled.{booked, Placed, Ready}

-- a contract of a sound book is ready, and so are two sound books over the same rows
pub placed_sound : (z : Sizes) (taken : List Contract) (rows : List ℕ) (i : ℕ) (c : Contract) → SoundPlace z taken rows i c
    → Placed z (row_of z.hours rows i) c
placed_sound z taken rows i c s = record {
  terms = s.terms;
  total = s.row;
  effective = λ _. omega (arith, s.effective, s.terms.amount.1);
}

pub ready_sound : (z : Sizes) (old new : List Contract) (rows f f' : List ℕ) (entries : ℕ) → length new ≡ length old
    → length old * z.hours ≤ length rows → entries ≡ z.agents * 4 * z.hours
    → SoundBook z old rows f → SoundBook z new rows f' → Ready z old new rows entries
ready_sound z old new rows f f' entries long covered full s t = record {
  long = long;
  covered = covered;
  board = full;
  before = λ i lt. placed_sound z old rows i _ (s.place i blank lt);
  after = λ i lt. placed_sound z new rows i _ (t.place i blank (omega arith));
}

-- the row of a contract that is not in force does not count
module _ {V : Type 0} (k : Kind V) (rule : Rule) (c : Contract) (r r' : List ℕ) (same : in_force c ≡ true → r ≡ r') where
  takes_off_row : (l hour : ℕ) → takes_off k rule c r l hour ≡ takes_off k rule c r' l hour
  takes_off_row l hour = elim (cases_Bool (in_force c)) [
    | inl force ↦ ap (λ (x : List ℕ). takes_off k rule c x l hour) (same force)
    | inr idle ↦ cond-false (in_force c) _ _ idle ∙ sym (cond-false (in_force c) _ _ idle)
  ]

  puts_row : (l hour : ℕ) → puts k rule c r l hour ≡ puts k rule c r' l hour
  puts_row l hour = elim (cases_Bool (in_force c)) [
    | inl force ↦ ap (λ (x : List ℕ). puts k rule c x l hour) (same force)
    | inr idle ↦ cond-false (in_force c) _ _ idle ∙ sym (cond-false (in_force c) _ _ idle)
  ]

  cancel_row : (hours : ℕ) → AllCancel k rule hours c r → AllCancel k rule hours c r'
  cancel_row hours all force hour p =
      subst (λ (x : List ℕ). Cancels k (quantity_of rule c x hour) c.terms.source) (same force) (all force hour p)

-- what a place puts on the board, its contracts and rows named otherwise
changes_same : {V : Type 0} (k : Kind V) (rule : Rule) (a a' b b' : Contract) (r r' q q' : List ℕ) → a ≡ a' → b ≡ b'
    → (in_force a' ≡ true → r ≡ r') → (in_force b' ≡ true → q ≡ q') → (l hour : ℕ)
    → changes k rule a r b q l hour ≡ changes k rule a' r' b' q' l hour
changes_same k rule a a' b b' r r' q q' ea eb er eq l hour =
    ap (λ (x : Contract). changes k rule x r b q l hour) ea
    ∙ ap (λ (x : Contract). changes k rule a' r x q l hour) eb
    ∙ ap (λ (x : _). cond (stays a' b') k.nothing (k.join x (puts k rule b' q l hour))) (takes_off_row k rule a' r r' er l hour)
    ∙ ap (λ (x : _). cond (stays a' b') k.nothing (k.join (takes_off k rule a' r' l hour) x)) (puts_row k rule b' q q' eq l hour)

-- Two states whose contracts are those that the board followed, and whose rows are the given ones wherever a contract is in force.
module _ {V : Type 0} (k : Kind V) (laws : Laws (joins k)) (rule : Rule) (s t : State V) (rows : List ℕ)
    (taken : t.taken ≡ s.taken) (room : s.taken ≤ length s.places) (room' : t.taken ≤ length t.places)
    (old_row : (i : ℕ) → i < s.taken → in_force (contract_at s i) ≡ true → row_of s.sizes.hours rows i ≡ row_at s i)
    (new_row : (i : ℕ) → i < s.taken → in_force (contract_at t i) ≡ true → row_of s.sizes.hours rows i ≡ row_at t i) where
  long_old : length (contracts s) ≡ s.taken
  long_old = length-take-le s.taken s.places room

  long_new : length (contracts t) ≡ s.taken
  long_new = length-take-le t.taken t.places room' ∙ taken

  at : (cs : List Contract) (i : ℕ) → length cs ≡ s.taken → i < s.taken → get_or (take (length cs) cs) i blank ≡ get_or cs i blank
  at cs i e lt = get_or-take (length cs) cs i blank (omega arith)

  abbrev before : State V
  before = booked s.sizes (contracts s) rows s.board

  abbrev after : State V
  after = booked s.sizes (contracts t) rows t.board

  pub revised_between : Revised k rule before after → Revised k rule s t
  revised_between r = record {
    long = r.long;
    cells = λ l hour p q.
        let f : ℕ → V = λ i. changes k rule (contract_at before i) (row_at before i) (contract_at after i) (row_at after i) l hour in
        let f' : ℕ → V = λ i. changes k rule (contract_at s i) (row_at s i) (contract_at t i) (row_at t i) l hour in
        let each : (i : ℕ) → i < s.taken → f i ≡ f' i = λ i lt.
        changes_same k rule (contract_at before i) (contract_at s i) (contract_at after i) (contract_at t i) (row_at before i) (row_at s i) (row_at after i) (row_at t i)
        (at (contracts s) i long_old lt) (at (contracts t) i long_new lt) (old_row i lt) (new_row i lt) l hour in
        r.cells l hour p q
        ∙ ap (k.join (cell k s.sizes.hours s.board l hour)) (ap (λ (n : ℕ). up_to (joins k) n f) long_old ∙ up_same (joins k) laws s.taken f f' each);
    cancels = λ i lt st.
        let a = at (contracts s) i long_old lt in
        let b = at (contracts t) i long_new lt in
        let moves : stays (contract_at before i) (contract_at after i) ≡ false =
        ap (λ (x : Contract). stays x (contract_at after i)) a ∙ ap (stays (contract_at s i)) b ∙ st in
        let both = r.cancels i (omega (arith, long_old)) moves in (
          cancel_row k rule (contract_at s i) (row_at before i) (row_at s i) (old_row i lt) s.sizes.hours
              (subst (λ (x : Contract). AllCancel k rule s.sizes.hours x (row_at before i)) a both.0),
          cancel_row k rule (contract_at t i) (row_at before i) (row_at t i) (new_row i lt) s.sizes.hours
              (subst (λ (x : Contract). AllCancel k rule s.sizes.hours x (row_at before i)) b both.1),
        );
  }
