-- The lanes of a deal lie apart and within the board. Assumes nothing.
use Rattle.std.proofs.Common.{◌≡◌, ℕ, zero, suc, ◌+◌, ◌*◌, ◌/◌, ◌<◌, ◌≤◌, true, ◌≢◌, ap, ◌∙◌, le_trans, mul-le-mul_right, div-mul-le_self, mul-div_cancel, arith, lit<}
use native.Mathlib.Nat.{div-zero}
use Rattle.std.proofs.lemmas.Bool.Decides.{nat_tests}
use Rattle.board.specs.declared.deal.Deal.{Deal}
use Rattle.board.specs.Lanes.{seller_lane, buyer_lane, room_for, fitting}

pub record Fit (agents : ℕ) (d : Deal) : Type 0 where
  pub seller : (1 ≤ d.seller) × (d.seller ≤ agents)
  pub buyer : (1 ≤ d.buyer) × (d.buyer ≤ agents)
  pub differ : d.seller ≢ d.buyer
  pub submarket : (1 ≤ d.submarket) × (d.submarket ≤ 4)

pub fit_from : (agents : ℕ) (d : Deal) → fitting agents d ≡ true → Fit agents d
fit_from agents d e = record {
  seller = (grind (arith, nat_tests), grind (arith, nat_tests));
  buyer = (grind (arith, nat_tests), grind (arith, nat_tests));
  differ = λ same. grind (arith, nat_tests);
  submarket = (grind (arith, nat_tests), grind (arith, nat_tests));
}

pub fitting_when : (agents : ℕ) (d : Deal) → Fit agents d → fitting agents d ≡ true
fitting_when agents d f = grind (arith, nat_tests)

pub room_within : (entries hours lanes : ℕ) → lanes ≤ room_for entries hours * 4 → lanes * hours ≤ entries
room_within entries hours lanes le =
    let up : lanes ≤ entries / hours = le_trans le (div-mul-le_self (entries / hours) 4) in
    le_trans (mul-le-mul_right hours up) (div-mul-le_self entries hours)

module _ (entries hours : ℕ) {d : Deal} (fit : Fit (room_for entries hours) d) where
  pub lanes_apart : seller_lane d ≢ buyer_lane d
  lanes_apart e = fit.differ (omega arith)

  pub seller_within : (seller_lane d + 1) * hours ≤ entries
  seller_within = room_within entries hours (seller_lane d + 1) (omega arith)

  pub buyer_within : (buyer_lane d + 1) * hours ≤ entries
  buyer_within = room_within entries hours (buyer_lane d + 1) (omega arith)

-- a board of exactly so many agents has room for them
pub room_exact : (agents hours entries : ℕ) → 1 ≤ hours → entries ≡ agents * 4 * hours → room_for entries hours ≡ agents
room_exact agents hours entries some e = ap (λ n. n / hours / 4) e ∙ ap (λ n. n / 4) (mul-div_cancel (agents * 4) some) ∙ mul-div_cancel agents (lit< tt)

-- where a deal fits there is an hour
pub some_hour : (entries hours : ℕ) (d : Deal) → Fit (room_for entries hours) d → 0 < hours
some_hour entries zero d fit = absurd (omega (arith, fit.seller.0, fit.seller.1, div-zero entries))
some_hour entries (suc h) d fit = omega arith
