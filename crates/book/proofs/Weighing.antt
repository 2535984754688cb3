-- The weights of contracts, part by part.
use Rattle.std.proofs.Common.{◌≡◌, ℕ, ◌-◌, ◌≤◌, List, map, length, get_or, ap, ◌∙◌, arith, sym, Some, None, Option, MatchOption, Bor, is_some, refl, true}
use Rattle.std.proofs.lemmas.Bool.{both_ways}
use Rattle.std.specs.Option.{SomeIff}
use Rattle.std.specs.Slice.{IsItemAt}
use Rattle.std.proofs.lemmas.List.{get_or-map, length-map}
use Rattle.scale.specs.Weights.{weight_at}
use Rattle.scale.proofs.Parts.{weight_in}
use Rattle.book.specs.Cuts.{claim_of, class_weights, weight}
use Rattle.book.specs.Terms.{blank}
use Rattle.book.specs.declared.contract.Contract.{Contract}

pub weights_length : (seller class : ℕ) (cs : List Contract) → length (class_weights seller class (map claim_of cs)) ≡ length cs
weights_length seller class cs = length-map (map claim_of cs) (weight seller class) ∙ length-map cs claim_of

pub weight_inside : (seller class : ℕ) (cs : List Contract) (j : ℕ) → 1 ≤ j → j ≤ length cs
    → weight_at (class_weights seller class (map claim_of cs)) j ≡ weight seller class (claim_of (get_or cs (j - 1) blank))
weight_inside seller class cs j low high =
    weight_in (class_weights seller class (map claim_of cs)) j low
    ∙ get_or-map (weight seller class) (map claim_of cs) (j - 1) (claim_of blank) 0 (omega (arith, length-map cs claim_of))
    ∙ ap (weight seller class) (get_or-map claim_of cs (j - 1) blank (claim_of blank) (omega arith))

-- the weight of the part that a contract was found for
pub weight_found : (seller class part : ℕ) (cs : List Contract) (index : Option ℕ) (c : Bor Contract)
    → SomeIff index (1 ≤ part) (part - 1) → MatchOption index (Some c ≡ None) (λ i. IsItemAt cs i (Some c))
    → weight seller class (claim_of c.now) ≡ weight_at (class_weights seller class (map claim_of cs)) part
weight_found seller class part cs None c low none = absurd (both_ways true (ap is_some none) refl)
weight_found seller class part cs (Some i) c at item =
    ap (λ (x : Contract). weight seller class (claim_of x)) (item.4 (omega arith) blank ∙ ap (λ (j : ℕ). get_or cs j blank) at.1)
    ∙ sym (weight_inside seller class cs part at.0 (omega (arith, at.0, at.1, item.3.0)))
