-- The front of a memory after a call that was lent it.
use Rattle.std.proofs.Common.{◌≡◌, ℕ, ◌≤◌, List, ◌++◌, length, take, drop, ◌∙◌}
use Rattle.std.proofs.lemmas.List.{take_at, length-take-le}

-- what was left in the front is the front, since the call kept its length
pub front : {A : Type 0} (n : ℕ) (before after : List A) → n ≤ length before → length after ≡ length (take n before) → take n (after ++ drop n before) ≡ after
front n before after within same = take_at after (drop n before) n (same ∙ length-take-le n before within)
