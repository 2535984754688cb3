-- Every check passed, so the entry stands on the board.
use Rattle.std.proofs.Common.{◌<◌, length, sym, arith}
use Rattle.std.proofs.lemmas.Bool.{eqb-true}
use Rattle.ledger.proofs.Numbers.{unless_none as held}
use Rattle.month.proofs.Checked.{within}
use Rattle.month.proofs.Entries.{entry_within}
use Rattle.month.proofs.phase.Month.entry_at.Goals as goal
use Rattle.month.proofs.phase.Month.entry_at.Goals.{After-index_of}

inside : (g : _) (c : After-index_of g) → c.index_of.result < length c.args.board.now
inside g c =
    let sizes = c.args.self.now.sizes in
    let a = within 1 sizes.agents c.args.agent 4 1 c.in_ok-check_agent.ensures in
    let s = within 1 4 c.args.submarket 4 2 c.in_ok-check_submarket.ensures in
    let h = within 1 sizes.hours c.args.hour 4 3 c.in_ok-check_hour.ensures in
    let n = eqb-true _ _ (held _ 1 4 (sym c.in_ok-check_board.ensures)) in
    let least = entry_within sizes.agents sizes.hours c.args.agent c.args.submarket c.args.hour (length c.args.board.now) a.0 a.1 s.0 s.1 h.0 h.1 n in
    omega (arith, c.index_of.ensures, least)

pub offset_bounds-board-index_of : goal.offset_bounds-board-index_of
offset_bounds-board-index_of g c = omega (arith, inside g c)

pub bounds-board-index_of : goal.bounds-board-index_of
bounds-board-index_of g c = inside g c
