-- The sizes of a month: which are refused, and what the others are.
use Rattle.std.specs.Prelude.{◌≡◌, ℕ, List, [], ◌∷◌, Option}
use Rattle.scale.specs.Refusals.{Refusal, unless}
use Rattle.book.specs.Limits.{between}
use Rattle.book.specs.declared.sizes.Sizes.{Sizes}

abbrev pub size_checks : ℕ → ℕ → ℕ → List (Option Refusal)
size_checks agents hours places =
    unless (between 2 64 agents) 3 1 ∷ unless (between 1 744 hours) 3 2 ∷ unless (between 1 256 places) 3 3 ∷ []

pub record Holds (s : Sizes) (of_agents of_hours of_places : ℕ) : Type 0 where
  pub agents : s.agents ≡ of_agents
  pub hours : s.hours ≡ of_hours
  pub places : s.places ≡ of_places
