-- The numbers that a line names kinds of entry by.
use Rattle.std.specs.Prelude.{◌≡◌, ℕ, ◌<◌, Result, MatchResult}
use Rattle.session.specs.declared.kind.BoardKind.{BoardKind}
use Rattle.session.specs.declared.kind.BoardKind.TheVariants.{Net, BySource}
use Rattle.session.specs.declared.kind.UnknownKind.{UnknownKind}

abbrev pub kind_number : BoardKind → ℕ
kind_number Net = 0
kind_number BySource = 1

-- the kind that has the number, or an error with a number that no kind has
abbrev pub IsKindOf : ℕ → Result BoardKind UnknownKind → Type 0
IsKindOf number r = MatchResult r (λ kind. kind_number kind ≡ number) (λ e. (e.0 ≡ number) × (1 < number))
