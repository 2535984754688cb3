-- Where an agent's entry stands on the board.
use Rattle.std.proofs.Common.{◌≡◌, ℕ, ◌+◌, ◌-◌, ◌*◌, ◌<◌, ◌≤◌, mul-le-mul_right, arith}
use lib.Arith.{digits_lt}

-- every entry within the limits stands on the board
pub entry_within : (agents hours agent submarket hour n : ℕ) → 1 ≤ agent → agent ≤ agents → 1 ≤ submarket → submarket ≤ 4 → 1 ≤ hour → hour ≤ hours
    → n ≡ agents * 4 * hours → ((agent - 1) * 4 + (submarket - 1)) * hours + (hour - 1) < n
entry_within agents hours agent submarket hour n a1 a2 s1 s2 h1 h2 e =
    let lane = (agent - 1) * 4 + (submarket - 1) in
    let last : lane + 1 ≤ agents * 4 = omega arith in
    let less : lane * hours + (hour - 1) < (lane + 1) * hours = digits_lt (omega arith) (omega arith) in
    let most : (lane + 1) * hours ≤ agents * 4 * hours = mul-le-mul_right hours last in
    omega arith
