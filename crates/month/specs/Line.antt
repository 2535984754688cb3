-- The certificate line.
use Rattle.std.specs.Prelude.{ℕ, List, [], ◌∷◌, ◌++◌, codes, decimal}

-- what is certified of an agent: its turnover, in kWh, and a line feed
abbrev pub certificate_line : ℕ → ℕ → ℕ → List ℕ
certificate_line agent sold bought = codes "agent " ++ (decimal agent ++ (codes " sold " ++ (decimal sold ++ (codes " bought " ++ (decimal bought ++ (10 ∷ []))))))
