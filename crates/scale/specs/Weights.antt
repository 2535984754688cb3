-- Lists of weights. Parts count from 1.
use Rattle.std.specs.Prelude.{ℕ, zero, suc, cond, ◌&&◌, List, [], ◌∷◌, nat_le, slice_index}

-- the weight of part j, 0 of any other part
abbrev pub weight_at : List ℕ → ℕ → ℕ
weight_at ws zero = 0
weight_at ws (suc j) = slice_index ws j

-- the weights of parts first to last, the rest 0, where the list's head is part j
abbrev pub clipped_from : ℕ → ℕ → ℕ → List ℕ → List ℕ
clipped_from j first last [] = []
clipped_from j first last (w ∷ ws) = cond (nat_le first j && nat_le j last) w 0 ∷ clipped_from (suc j) first last ws

abbrev pub clipped : ℕ → ℕ → List ℕ → List ℕ
clipped first last ws = clipped_from 1 first last ws
