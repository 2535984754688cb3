-- Whether a contract can be supplied on a scale.
use Rattle.std.specs.Prelude.{ℕ, List, [], ◌∷◌, length, Option, ◌==◌}
use Rattle.scale.specs.Refusals.{Refusal, unless, first_of}
use Rattle.scale.specs.Totals.{total_check}
use Rattle.scale.specs.Weights.{clipped}
use Rattle.book.specs.declared.contract.Terms.{Terms}

-- the scale must be as long as the month, and weigh something and not too much within the contract's hours
abbrev pub supply_check : ℕ → Terms → List ℕ → Option Refusal
supply_check hours t weights = first_of (unless (length weights == hours) 11 0 ∷ total_check (clipped t.first t.last weights) ∷ [])
