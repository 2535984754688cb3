-- The row of a contract that can be supplied, and the state of the month once it is written.
use Rattle.std.proofs.Common.{◌≡◌, ℕ, ◌+◌, ◌-◌, ◌*◌, ◌≤◌, eqb, List, [], ◌∷◌, ◌++◌, length, take, None, Ok, Err, IsOk, Result, refl, sym, ap, ◌∙◌, arith, MatchResult}
use borrow.Rule.Slice.PartMut.{Post-is, put_mid}
use Rattle.std.proofs.lemmas.Bool.{eqb-true}
use Rattle.scale.specs.declared.fault.Fault.{Fault}
use Rattle.scale.specs.Refusals.{refusal_of, unless}
use Rattle.scale.specs.Shares.{Shared, down_to, share_check, shares_of}
use Rattle.scale.specs.Totals.{limit, total_check}
use Rattle.scale.specs.Weights.{clipped}
use Rattle.scale.proofs.Parts.{length_clipped_from}
use Rattle.scale.proofs.Totals.{share_fine}
use Rattle.book.specs.declared.contract.Terms.{Terms}
use Rattle.book.specs.Supply.{supply_check}
use Rattle.ledger.specs.Calls.{put_row, rounding}
use Rattle.ledger.proofs.Numbers.{first_none as passed, unless_none as held}

-- what a supply that was not refused is
pub record Supply (hours : ℕ) (t : Terms) (weights : List ℕ) : Type 0 where
  pub long : length weights ≡ hours
  pub weighs : total_check (clipped t.first t.last weights) ≡ None

pub supply : (hours : ℕ) (t : Terms) (weights : List ℕ) → supply_check hours t weights ≡ None → Supply hours t weights
supply hours t weights e =
    let x = unless (eqb (length weights) hours) 11 0 in
    let y = total_check (clipped t.first t.last weights) in
    let p = passed x (y ∷ []) e in
    let q = passed y [] p.1 in
    record { long = eqb-true (length weights) hours (held _ 11 0 p.0); weighs = q.0 }

-- so its sharing is not refused either
pub share_passes : (hours n : ℕ) (t : Terms) (weights : List ℕ) → Supply hours t weights → t.amount ≤ limit → n ≡ hours
    → share_check t.amount n (clipped t.first t.last weights) ≡ None
share_passes hours n t weights s low e =
    sym (share_fine t.amount n (clipped t.first t.last weights) low (e ∙ sym (length_clipped_from 1 t.first t.last weights ∙ s.long)) (sym s.weighs))

pub shares : {X : Type 0} (r : Result X Fault) → refusal_of r ≡ None → IsOk r
shares (Ok x) none = refl
shares (Err f) none = absurd (let z : ◌≡◌ {A = ℕ} 0 1 = cc in omega arith)

pub shared_row : {X : Type 0} (q : ℕ) (ws row before : List ℕ) (r : Result X Fault) → refusal_of r ≡ None
    → MatchResult r (λ _. Shared down_to q ws row) (λ _. row ≡ before) → row ≡ shares_of rounding q ws
shared_row q ws row before (Ok x) none s = s.parts
shared_row q ws row before (Err f) none s = absurd (let z : ◌≡◌ {A = ℕ} 0 1 = cc in omega arith)

-- the row written where the code lends it
pub row_put : (hours index : ℕ) (rows row : List ℕ) → put_mid (index * hours) (index * hours + hours - index * hours) rows row ≡ put_row hours index row rows
row_put hours index rows row = ap (λ (xs : List ℕ). take (index * hours) rows ++ (row ++ xs)) (Post-is (index * hours) (index * hours + hours) rows (omega arith))
