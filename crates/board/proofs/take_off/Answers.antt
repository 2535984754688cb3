use Rattle.std.proofs.Common.{◌≡◌, is_ok, length, OnOk, rules}
use Rattle.entry.specs.Kinds.{meaning, values}
use Rattle.board.specs.Lanes.{room_for, fitting}
use Rattle.board.specs.Moves.{TakenOff}
use Rattle.board.proofs.Undo.{undone}
use Rattle.board.proofs.take_off.Goals as goal

pub returns-clause-undoes : goal.returns-clause-undoes
returns-clause-undoes g c =
    let k = meaning g.E.Joining g.E.Reversible in
    let met = g.met.E.Joining in
    let d = c.args.deal.now in
    let qs = c.args.quantities.now in
    let told : is_ok c.add.result ≡ fitting (room_for (length c.args.board.now) (length qs)) d = search rules in
    let off : OnOk c.add.result (TakenOff k d qs (values g.E.Joining c.args.board.now) (values g.E.Joining c.add.new.board)) = search rules in
    undone k (record { assoc = met.assoc; comm = met.comm; unit = met.unit }) (length c.args.board.now) d qs _ _ c.add.result told off
