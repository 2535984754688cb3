-- Entries of a lane joined one after another. Assumes nothing.
use Rattle.std.proofs.Common.{◌≡◌, ℕ, ◌+◌, ◌<◌, ◌≤◌, ◌≢◌, List, length, get_or, set, ap, ◌∙◌, inl, inr, arith}
use Rattle.std.proofs.lemmas.List.{get_or-set_same, get_or-set_other, map-set, length-map}
use Rattle.std.proofs.lemmas.Bool.{cases_eq}
use Rattle.entry.specs.Kinds.{values}
use Rattle.entry.specs.declared.joining.Joining as joining

module _ {E : Type 0} (j : joining.Ghosts E) (makes : ℕ → E → Type 0) (quantities : List ℕ) (old : List E) where
  -- the entries of the hours below `done` were joined
  pub record Below (done : ℕ) (new : List E) : Type 0 where
    pub joined : (hour : ℕ) → hour < done → (e : E) × makes (get_or quantities hour 0) e
        × (get_or (values j new) hour j.nothing ≡ j.joined (get_or (values j old) hour j.nothing) (j.value e))
    pub rest : (hour : ℕ) → done ≤ hour → get_or (values j new) hour j.nothing ≡ get_or (values j old) hour j.nothing

  -- and one more
  pub below_one_more : (done : ℕ) (new : List E) (x e : E) → done < length new → makes (get_or quantities done 0) e
      → j.value x ≡ j.joined (get_or (values j new) done j.nothing) (j.value e) → Below done new → Below (done + 1) (set new done x)
  below_one_more done new x e lt made is was = record {
    joined = λ hour p. elim (cases_eq hour done) [
      | inl q ↦ rw q ((e, made, at_done))
      | inr ne ↦ let w = was.joined hour (omega arith) in (w.0, w.1, other hour ne ∙ w.2)
    ];
    rest = λ hour p. other hour (omega arith) ∙ was.rest hour (omega arith);
  }
    where
      other : (hour : ℕ) → hour ≢ done → get_or (values j (set new done x)) hour j.nothing ≡ get_or (values j new) hour j.nothing
      other hour ne = ap (λ vs. get_or vs hour j.nothing) (map-set j.value new done x) ∙ get_or-set_other (values j new) done hour (j.value x) j.nothing ne

      at_done : get_or (values j (set new done x)) done j.nothing ≡ j.joined (get_or (values j old) done j.nothing) (j.value e)
      at_done = ap (λ vs. get_or vs done j.nothing) (map-set j.value new done x)
          ∙ get_or-set_same (values j new) done (j.value x) j.nothing (rw length-map lt)
          ∙ is ∙ ap (λ v. j.joined v (j.value e)) (was.rest done (omega arith))
