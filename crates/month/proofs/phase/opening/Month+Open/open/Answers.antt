-- Every check passed, so the lengths are right, and what was written is the opened month.
use Rattle.std.proofs.Common.{◌≡◌, ℕ, List, [], ◌∷◌, map, length, replicate, refl, ap, ◌∙◌, subst, rules}
use Rattle.std.specs.List.{FoldsTo}
use lib.LanesLaws.{map-replicate}
use Rattle.entry.specs.Kinds.{meaning}
use Rattle.ledger.specs.Calls.{Opened}
use Rattle.ledger.proofs.Law.{opens}
use Rattle.month.proofs.Laws.{lawful}
use Rattle.month.proofs.Checked.{long}
use Rattle.month.proofs.phase.opening.Month+Open.open.Goals as goal

-- what calls of a closure that gives one value, and stays as it is, have filled
filled : {F E : Type 0} (step : F → E → F → Type 0) (v : E) (f : F) → ((y : E) (q : F) → step f y q → (y ≡ v) × (q ≡ f))
    → (xs : List E) (last : F) → FoldsTo step f xs last → xs ≡ replicate (length xs) v
filled step v f so [] last ran = refl
filled step v f so (x ∷ xs) last (q, called, rest) =
    let p = so x q called in
    λ i. p.0 i ∷ filled step v f so xs last (subst (λ r. FoldsTo step r xs last) p.1 rest) i

pub returns-clause-opened : goal.returns-clause-opened
returns-clause-opened g c =
    let j = g.E.Joining in
    let k = meaning j g.E.Reversible in
    let h = c.in_ok-sizes.ensures.holds in
    let b = c.fill_with.new.self in
    let ran = c.fill_with.ensures.ran in
    let empty : b ≡ replicate (length b) c.empty-empty.result = filled _ _ _ (λ y q called. (search rules, search rules)) b ran.0 ran.1 in
    let l = long _ _ _ _ _ _ _ c.in_ok-check_lengths.ensures in
    let cleared : Opened k _ = record {
      taken = refl;
      places = l.places;
      rows = l.rows;
      shortfalls = c.fill.ensures.after (λ y is. is) ∙ ap (λ (n : ℕ). replicate n 0) l.shortfalls;
      board = ap (map j.value) empty ∙ map-replicate j.value (length b) c.empty-empty.result
          ∙ ap (replicate (length b)) c.empty-empty.ensures ∙ ap (λ (n : ℕ). replicate n j.nothing) (c.fill_with.ensures.len ∙ l.board);
    } in
    (h, cleared, opens k (lawful g.met.E.Joining.assoc g.met.E.Joining.comm g.met.E.Joining.unit) _ cleared)
