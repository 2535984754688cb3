-- The laws of a kind of entry, as its trait states them.
use Rattle.std.proofs.Common.{◌≡◌}
use Rattle.entry.specs.Kinds.{Joins, Laws}

pub lawful : {V : Type 0} {k : Joins V} → ((x y z : V) → k.join (k.join x y) z ≡ k.join x (k.join y z)) → ((x y : V) → k.join x y ≡ k.join y x)
    → ((x : V) → k.join x k.nothing ≡ x) → Laws k
lawful a c u = record { assoc = a; comm = c; unit = u }
