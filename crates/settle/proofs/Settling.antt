-- The board follows place after place. Assumes nothing.
use Rattle.std.proofs.Common.{◌≡◌, ℕ, ◌+◌, ◌*◌, ◌<◌, ◌≤◌, false, List, length, get_or, take, drop, sym, refl, ap, ◌∙◌, subst, inl, inr, le_trans, mul-le-mul_right, add-mul, one-mul, arith}
use Rattle.std.proofs.lemmas.List.{get_or-take, get_or_default, length-take-le, length-drop}
use Rattle.std.proofs.lemmas.Bool.{cases_eq}
use Rattle.entry.specs.Kinds.{Kind, Laws, joins, up_to}
use Rattle.entry.proofs.Totals.{up_more}
use Rattle.board.specs.Lanes.{room_for, fitting}
use Rattle.board.proofs.Lanes.{room_exact, fitting_when}
use Rattle.book.specs.declared.contract.Contract.{Contract}
use Rattle.book.specs.declared.sizes.Sizes.{Sizes}
use Rattle.book.specs.Sound.{row_of}
use Rattle.book.specs.Terms.{blank}
use Rattle.ledger.specs.States.{State, contract_at, row_at}
use Rattle.board.specs.Moves.{cell}
use Rattle.ledger.specs.Boards.{changes, stays, AllCancel, Revised}
use Rattle.ledger.specs.Calls.{rounding}
use Rattle.settle.specs.Settled.{booked, Placed}
use Rattle.settle.specs.Following.{contract_deal, Movable, Joined, BothCancel}

-- the first places have been followed
pub record Followed {V : Type 0} (k : Kind V) (s t : State V) (done : ℕ) : Type 0 where
  pub long : length t.board ≡ length s.board
  pub cells : (l hour : ℕ) → hour < s.sizes.hours →
      cell k s.sizes.hours t.board l hour
      ≡ k.join (cell k s.sizes.hours s.board l hour)
      (up_to (joins k) done (λ i. changes k rounding (contract_at s i) (row_at s i) (contract_at t i) (row_at t i) l hour))
  pub cancels : (i : ℕ) → i < done → stays (contract_at s i) (contract_at t i) ≡ false →
      AllCancel k rounding s.sizes.hours (contract_at s i) (row_at s i) × AllCancel k rounding s.sizes.hours (contract_at t i) (row_at t i)

-- the row of a place lies within the rows, and has an entry for each hour
covered_to : (n i h r : ℕ) → i < n → n * h ≤ r → (i + 1) * h ≤ r
covered_to n i h r lt le = le_trans (mul-le-mul_right h (let up : i + 1 ≤ n = omega arith in up)) le

pub row_long : (n i h : ℕ) (rows : List ℕ) → i < n → n * h ≤ length rows → length (row_of h rows i) ≡ h
row_long n i h rows lt le = length-take-le h (drop (i * h) rows) (omega (arith, covered_to n i h (length rows) lt le, length-drop (i * h) rows, add-mul i 1 h, one-mul h))

-- a contract that is ready can be moved
pub movable : (z : Sizes) (row : List ℕ) (c : Contract) (entries : ℕ) → entries ≡ z.agents * 4 * z.hours → length row ≡ z.hours
    → Placed z row c → Movable entries row c
movable z row c entries full long p = record {
  fits = λ _. ap (λ (n : ℕ). fitting (room_for entries n) (contract_deal c)) long
      ∙ ap (λ (a : ℕ). fitting a (contract_deal c)) (room_exact z.agents z.hours entries z.hours_low full)
      ∙ fitting_when z.agents (contract_deal c) (record { seller = p.terms.seller; buyer = p.terms.buyer; differ = p.terms.parties; submarket = p.terms.submarket });
  some = λ force. omega (arith, p.total force, p.terms.amount.0);
  most = λ force. omega (arith, p.total force, p.terms.amount.1);
  effective = p.effective;
}

pub movable_at : (z : Sizes) (cs : List Contract) (rows row : List ℕ) (c : Contract) (entries n i : ℕ) → c ≡ get_or cs i blank → row ≡ row_of z.hours rows i
    → i < n → n * z.hours ≤ length rows → entries ≡ z.agents * 4 * z.hours → Placed z (row_of z.hours rows i) (get_or cs i blank) → Movable entries row c
movable_at z cs rows row c entries n i ec er lt covered full p =
    subst (λ (r : List ℕ). Movable entries r c) (sym er)
    (subst (Movable entries (row_of z.hours rows i)) (sym ec) (movable z (row_of z.hours rows i) (get_or cs i blank) entries full (row_long n i z.hours rows lt covered) p))

-- the contract at a place of a booked state
pub booked_at : (cs : List Contract) (i : ℕ) (d : Contract) → i < length cs → get_or cs i d ≡ get_or (take (length cs) cs) i blank
booked_at cs i d lt = get_or_default cs i d blank lt ∙ sym (get_or-take (length cs) cs i blank lt)

module _ {V : Type 0} (k : Kind V) (laws : Laws (joins k)) (z : Sizes) (old new : List Contract) (rows : List ℕ) (before : List V) where
  pub followed_none : Followed k (booked z old rows before) (booked z new rows before) 0
  followed_none = record {
    long = refl;
    cells = λ l hour p. sym (laws.unit _);
    cancels = λ i p. absurd (omega arith);
  }

  -- one place, as the code has its contracts and its row
  abbrev One : List V → List V → ℕ → Contract → Contract → List ℕ → Type 0
  One mid after h a b row = Joined k h (changes k rounding a row b row) mid after
      × (stays a b ≡ false → AllCancel k rounding h a row × AllCancel k rounding h b row)

  pub followed_more : (mid after : List V) (i : ℕ) (a b : Contract) (row : List ℕ)
      → a ≡ contract_at (booked z old rows mid) i → b ≡ contract_at (booked z new rows mid) i
      → row ≡ row_of z.hours rows i → length row ≡ z.hours
      → Joined k (length row) (changes k rounding a row b row) mid after → BothCancel k row a b
      → Followed k (booked z old rows before) (booked z new rows mid) i
      → Followed k (booked z old rows before) (booked z new rows after) (i + 1)
  followed_more mid after i a b row ea eb er el joined both was =
      let s = booked z old rows before in
      let h = z.hours in
      let here : One mid after h (contract_at s i) (contract_at (booked z new rows mid) i) (row_at s i) =
      subst (λ (x : List ℕ). One mid after h (contract_at s i) (contract_at (booked z new rows mid) i) x) er
      (subst (λ (x : Contract). One mid after h (contract_at s i) x row) eb
      (subst (λ (x : Contract). One mid after h x b row) ea
      (subst (λ (n : ℕ). One mid after n a b row) el (joined, both)))) in
      record {
        long = here.0.long ∙ was.long;
        cells = λ l hour p.
            let f : ℕ → V = λ n. changes k rounding (contract_at s n) (row_at s n) (contract_at (booked z new rows mid) n) (row_at s n) l hour in
            here.0.cells l hour p
            ∙ ap (λ (x : V). k.join x (f i)) (was.cells l hour p)
            ∙ laws.assoc (cell k h before l hour) (up_to (joins k) i f) (f i)
            ∙ ap (k.join (cell k h before l hour)) (sym (up_more (joins k) i f));
        cancels = λ n p st. elim (cases_eq n i) [
          | inl e ↦ subst (λ (m : ℕ). stays (contract_at s m) (contract_at (booked z new rows mid) m) ≡ false
              → AllCancel k rounding h (contract_at s m) (row_at s m) × AllCancel k rounding h (contract_at (booked z new rows mid) m) (row_at s m)) (sym e) here.1 st
          | inr ne ↦ was.cancels n (omega arith) st
        ];
      }

  pub followed_all : (after : List V) (i : ℕ) → i ≡ length old → Followed k (booked z old rows before) (booked z new rows after) i
      → Revised k rounding (booked z old rows before) (booked z new rows after)
  followed_all after i e was =
      let all : Followed k (booked z old rows before) (booked z new rows after) (length old) =
      subst (Followed k (booked z old rows before) (booked z new rows after)) e was in
      record { long = all.long; cells = λ l hour _ p. all.cells l hour p; cancels = all.cancels }
