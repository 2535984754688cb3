-- What a question on the board answers, in every life of the month.
use Rattle.std.proofs.Common.{◌≡◌, ℕ, suc, ◌*◌, ◌≤◌, eqb, List, [], ◌∷◌, map, length, get_or, IfOk, None, Ok, Err, Result, sym, ap, ◌∙◌}
use Rattle.std.proofs.lemmas.List.{get_or-map}
use Rattle.std.proofs.lemmas.Bool.{eqb-true}
use Rattle.scale.specs.declared.fault.Fault.{Fault}
use Rattle.scale.specs.Refusals.{refusal_of, unless}
use Rattle.entry.specs.Kinds.{Kind, Laws, joins, up_to}
use Rattle.book.specs.declared.sizes.Sizes.{Sizes}
use Rattle.book.specs.Limits.{between}
use Rattle.ledger.specs.Boards.{position_of}
use Rattle.ledger.specs.Checks.{balance_refusal, position_refusal}
use Rattle.ledger.specs.Lives.{Lived}
use Rattle.ledger.specs.Past.{Event, ledger, position_in}
use Rattle.ledger.specs.States.{State}
use Rattle.ledger.proofs.Law.{lives_balance}
use Rattle.ledger.proofs.Numbers.{first_none as passed, unless_none as held}
use Rattle.month.specs.Questions.{entry_index, InEveryLife}
use Rattle.month.proofs.Checked.{within}
use Rattle.month.proofs.Entries.{entry_within}

-- what a position that was not refused lies within
pub record Placed (sizes : Sizes) (n agent submarket hour : ℕ) : Type 0 where
  pub board : n ≡ sizes.agents * 4 * sizes.hours
  pub agent_in : (1 ≤ agent) × (agent ≤ sizes.agents)
  pub submarket_in : (1 ≤ submarket) × (submarket ≤ 4)
  pub hour_in : (1 ≤ hour) × (hour ≤ sizes.hours)

pub placed : (sizes : Sizes) (n agent submarket hour : ℕ) → None ≡ position_refusal sizes n agent submarket hour → Placed sizes n agent submarket hour
placed sizes n agent submarket hour e =
    let p = passed _ _ (sym e) in
    let q = passed _ _ p.1 in
    let r = passed _ _ q.1 in
    let s = passed _ _ r.1 in
    record {
      board = eqb-true _ _ (held _ 1 4 p.0);
      agent_in = within 1 sizes.agents agent 4 1 (sym q.0);
      submarket_in = within 1 4 submarket 4 2 (sym r.0);
      hour_in = within 1 sizes.hours hour 4 3 (sym s.0);
    }

module _ {V : Type 0} (k : Kind V) {E : Type 0} (value : E → V) (sizes : Sizes) (board : List E) (agent submarket hour : ℕ) where
  -- an entry read from the board means the position of every state that has this board
  pub read : (e : E) → Placed sizes (length board) agent submarket hour → e ≡ get_or board (entry_index sizes agent submarket hour) e
      → (s : State V) → s.sizes ≡ sizes → s.board ≡ map value board → value e ≡ position_of k s agent submarket hour
  read e p is s same on =
      let h = p.hour_in in
      let inside = entry_within sizes.agents sizes.hours agent submarket hour (length board) p.agent_in.0 p.agent_in.1 p.submarket_in.0 p.submarket_in.1 h.0 h.1 p.board in
      ap value is ∙ sym (get_or-map value board (entry_index sizes agent submarket hour) e k.nothing inside)
      ∙ ap (λ (vs : List V). get_or vs (entry_index sizes agent submarket hour) k.nothing) (sym on)
      ∙ ap (λ (z : Sizes). get_or s.board (entry_index z agent submarket hour) k.nothing) (sym same)

  -- so what holds of the position in every life holds of the entry that was answered
  pub lived_at : (e : E) → None ≡ position_refusal sizes (length board) agent submarket hour → e ≡ get_or board (entry_index sizes agent submarket hour) e
      → (P : List Event → Type 0)
      → ((past : List Event) (s : State V) → Lived k past s → 1 ≤ agent → agent ≤ s.sizes.agents → 1 ≤ submarket → submarket ≤ 4 → 1 ≤ hour → hour ≤ s.sizes.hours
      → value e ≡ position_of k s agent submarket hour → P past)
      → InEveryLife k sizes (map value board) P
  lived_at e a is P so past s lived same on =
      let p = placed sizes (length board) agent submarket hour a in
      so past s lived p.agent_in.0 (rw same p.agent_in.1) p.submarket_in.0 p.submarket_in.1 p.hour_in.0 (rw same p.hour_in.1)
      (read e p is s same on)

  pub position_lived : Laws (joins k) → (r : Result E Fault) → refusal_of r ≡ position_refusal sizes (length board) agent submarket hour
      → IfOk r (λ e. e ≡ get_or board (entry_index sizes agent submarket hour) e)
      → IfOk r (λ e. InEveryLife k sizes (map value board) (λ past. value e ≡ position_in k (ledger past) agent submarket hour))
  position_lived laws (Ok e) a is =
      lived_at e a is (λ past. value e ≡ position_in k (ledger past) agent submarket hour)
      (λ past s lived a1 aa m1 m4 h1 hh at. at ∙ (lives_balance k laws past s lived).positions agent submarket hour a1 aa m1 m4 h1 hh)
  position_lived laws (Err f) a is = tt

-- what a joined entry that was not refused lies within
pub spotted : (sizes : Sizes) (n submarket hour : ℕ) → None ≡ balance_refusal sizes n submarket hour
    → ((1 ≤ submarket) × (submarket ≤ 4)) × ((1 ≤ hour) × (hour ≤ sizes.hours))
spotted sizes n submarket hour e =
    let m = unless (between 1 4 submarket) 4 1 in
    let h = unless (between 1 sizes.hours hour) 4 2 in
    let p = passed (unless (eqb n (sizes.agents * 4 * sizes.hours)) 1 4) (m ∷ h ∷ []) (sym e) in
    let q = passed m (h ∷ []) p.1 in
    let r = passed h [] q.1 in
    (within 1 4 submarket 4 1 (sym q.0), within 1 sizes.hours hour 4 2 (sym r.0))

-- all agents' entries at a submarket and hour
module _ {V : Type 0} (k : Kind V) (laws : Laws (joins k)) {E : Type 0} (value : E → V) (sizes : Sizes) (board : List E) (submarket hour : ℕ) where
  abbrev all : Sizes → List V → V
  all z vs = up_to (joins k) z.agents (λ a. get_or vs (entry_index z (suc a) submarket hour) k.nothing)

  pub balance_lived : (r : Result E Fault) → refusal_of r ≡ balance_refusal sizes (length board) submarket hour → IfOk r (λ e. value e ≡ all sizes (map value board))
      → IfOk r (λ e. InEveryLife k sizes (map value board) (λ past. value e ≡ k.nothing))
  balance_lived (Err f) a is = tt
  balance_lived (Ok e) a is = λ past s lived same on.
      let p = spotted sizes (length board) submarket hour a in
      is ∙ ap (all sizes) (sym on) ∙ ap (λ (z : Sizes). all z s.board) (sym same)
      ∙ (lives_balance k laws past s lived).cancels submarket hour p.0.0 p.0.1 p.1.0 (rw same p.1.1)
