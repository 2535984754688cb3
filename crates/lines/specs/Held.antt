-- What is held of a line that is coming in.
use Rattle.std.specs.Prelude.{◌≡◌, ℕ, ◌<◌, ◌≤◌, Bool, true, false, List, [], ◌∷◌, length, take}
use Rattle.lines.specs.Grammar.{longest}
use Rattle.lines.specs.declared.hold.LineHold.{LineHold}

-- t came since the last line feed: it is held whole, or known to be too long
pub record Holds (h : LineHold) (t : List ℕ) : Type 0 where
  pub long : longest < h.len → longest < length t
  pub whole : h.len ≤ longest → (h.len ≡ length t) × (take h.len h.held ≡ t)

-- a byte came
abbrev pub started : List ℕ → Bool
started [] = false
started (b ∷ bs) = true
