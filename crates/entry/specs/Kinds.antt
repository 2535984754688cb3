-- What a kind of entry means: values that join, and what a quantity sold and bought means.
use Rattle.std.specs.Prelude.{◌≡◌, ℕ, zero, suc, List, map}
use Rattle.entry.specs.declared.source.Source.{Source}
use Rattle.entry.specs.declared.joining.Joining as joining
use Rattle.entry.specs.declared.reversible.Reversible as reversible

-- values that join, and the empty one
pub record Joins (V : Type 0) : Type 0 where
  pub nothing : V
  pub join : V → V → V

-- and what a quantity means to its seller and to its buyer
pub record Kind (V : Type 0) : Type 0 where
  pub nothing : V
  pub join : V → V → V
  pub sold : ℕ → Source → V
  pub bought : ℕ → Source → V

abbrev pub joins : {V : Type 0} → Kind V → Joins V
joins k = record { nothing = k.nothing; join = k.join }

-- what the entries of a type mean: of a joining kind, and of a reversible one
abbrev pub joins_in : {E : Type 0} (j : joining.Ghosts E) → Joins j.Value
joins_in j = record { nothing = j.nothing; join = j.joined }

abbrev pub meaning : {E : Type 0} (j : joining.Ghosts E) → reversible.Ghosts E → Kind j.Value
meaning j r = record {
  nothing = j.nothing;
  join = j.joined;
  sold = λ q s. j.value (r.of q s);
  bought = λ q s. j.value (r.opposed (r.of q s));
}

abbrev pub values : {E : Type 0} (j : joining.Ghosts E) → List E → List j.Value
values j es = map j.value es

pub record Laws {V : Type 0} (k : Joins V) : Type 0 where
  pub assoc : (x y z : V) → k.join (k.join x y) z ≡ k.join x (k.join y z)
  pub comm : (x y : V) → k.join x y ≡ k.join y x
  pub unit : (x : V) → k.join x k.nothing ≡ x

-- a quantity whose entry and its opposite join to nothing
abbrev pub Cancels : {V : Type 0} → Kind V → ℕ → Source → Type 0
Cancels k q s = k.join (k.sold q s) (k.bought q s) ≡ k.nothing

-- the join of f at the numbers below n
abbrev pub up_to : {V : Type 0} → Joins V → ℕ → (ℕ → V) → V
up_to k zero f = k.nothing
up_to k (suc n) f = k.join (up_to k n f) (f n)
