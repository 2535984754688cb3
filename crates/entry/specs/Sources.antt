-- The numbers that an offer names sources by.
use Rattle.std.specs.Prelude.{◌≡◌, ℕ, ◌<◌, Result, MatchResult}
use Rattle.entry.specs.declared.source.Source.{Source}
use Rattle.entry.specs.declared.source.Source.TheVariants.{Conventional, Incentivised}
use Rattle.entry.specs.declared.source.UnknownSource.{UnknownSource}

abbrev pub source_number : Source → ℕ
source_number Conventional = 0
source_number Incentivised = 1

-- the source that has the number, or an error with a number that no source has
abbrev pub IsSourceOf : ℕ → Result Source UnknownSource → Type 0
IsSourceOf number r = MatchResult r (λ source. source_number source ≡ number) (λ e. (e.0 ≡ number) × (1 < number))
