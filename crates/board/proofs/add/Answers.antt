use Rattle.std.proofs.Common.{◌+◌, ◌*◌, ◌≤◌, ◌≢◌, length, sym, ap, ◌∙◌, rules}
use Rattle.board.specs.Lanes.{room_for, fitting}
use Rattle.board.proofs.Lanes.{Fit, fit_from, lanes_apart, seller_within, buyer_within}
use Rattle.board.proofs.add.Goals as goal

pub transfer-requires : goal.transfer-requires
transfer-requires g c =
    let d = c.args.deal.now in
    let n = length c.args.board.now in
    let h = length c.args.quantities.now in
    let fit : Fit (room_for n h) d = fit_from _ d (ap (λ a. fitting a d) (sym c.room_for-agents.ensures) ∙ sym c.is_fitting.ensures ∙ c.if-not-is_fitting.false) in
    let sells : (c.lane-sells.result + 1) * h ≤ n = rw c.lane-sells.ensures (seller_within n h fit) in
    let buys : (c.lane-buys.result + 1) * h ≤ n = rw c.lane-buys.ensures (buyer_within n h fit) in
    let differ : c.lane-sells.result ≢ c.lane-buys.result = λ e. lanes_apart n h fit (sym c.lane-sells.ensures ∙ e ∙ c.lane-buys.ensures) in
    record { apart = λ e. differ (cc); leaves = search rules; enters = search rules }
