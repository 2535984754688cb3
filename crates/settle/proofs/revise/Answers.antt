use Rattle.std.proofs.Common.{◌≡◌, ◌<◌, length, get_or, sym, ap, ◌∙◌, subst, arith, rules, length-append}
use Rattle.entry.specs.Kinds.{meaning, values}
use Rattle.book.specs.Sound.{row_of}
use Rattle.book.specs.Terms.{blank}
use Rattle.settle.proofs.Rows.{turn, end}
use Rattle.settle.specs.Settled.{booked}
use Rattle.settle.proofs.Settling.{Followed, row_long, movable_at, followed_more, followed_all, booked_at}
use Rattle.settle.proofs.revise.Goals as goal
use Rattle.settle.proofs.revise.Goals.{In-Some}
use Rattle.settle.proofs.revise.Given.{Over}

-- the contracts of this turn, and their row
here : (g : Over) (c : In-Some g) → (length c.loop-before.yielded < length c.args.old.now)
    × (c.in-Some.before.now ≡ get_or c.args.old.now (length c.loop-before.yielded) blank)
    × (c.in-Some.after.now ≡ get_or c.args.new.now (length c.loop-before.yielded) blank)
    × (c.in-Some.row.now ≡ row_of c.args.sizes.now.hours c.args.rows.now (length c.loop-before.yielded))
here g c =
    turn c.args.old.now c.args.new.now c.args.rows.now c.args.sizes.now.hours c.args.sizes.now.hours_low c.requires.long c.requires.covered c.into_iter-before-iterator.result
    (search rules) (search rules) (search rules) (search rules) c.loop-before.yielded c.loop-before.before-iterator c.next.new.self c.loop-before.yielded_by _ c.next.ensures.steps _ c.in-Some.is blank

pub move_place-requires-clause-leaves : goal.move_place-requires-clause-leaves
move_place-requires-clause-leaves g c =
    let z = c.args.sizes.now in
    let t = here g (goal.at.move_place-requires-clause-leaves g c).In-Some in
    movable_at z c.args.old.now c.args.rows.now c.in-Some.row.now c.in-Some.before.now _ (length c.args.old.now) (length c.loop-before.yielded) t.1 t.3 t.0 c.requires.covered
    (c.loop-before.auto.board ∙ c.requires.board) (c.requires.before (length c.loop-before.yielded) t.0)

pub move_place-requires-clause-enters : goal.move_place-requires-clause-enters
move_place-requires-clause-enters g c =
    let z = c.args.sizes.now in
    let t = here g (goal.at.move_place-requires-clause-enters g c).In-Some in
    movable_at z c.args.new.now c.args.rows.now c.in-Some.row.now c.in-Some.after.now _ (length c.args.old.now) (length c.loop-before.yielded) t.2 t.3 t.0 c.requires.covered
    (c.loop-before.auto.board ∙ c.requires.board) (c.requires.after (length c.loop-before.yielded) t.0)

pub loop-before-preserved : goal.loop-before-preserved
loop-before-preserved g c =
    let j = g.E.Joining in
    let k = meaning j g.E.Reversible in
    let met = g.met.E.Joining in
    let z = c.args.sizes.now in
    let old = c.args.old.now in
    let new = c.args.new.now in
    let rows = c.args.rows.now in
    let i = length c.loop-before.yielded in
    let after = values j c.move_place.new.board in
    let t = here g (goal.at.loop-before-preserved g c).In-Some in
    subst (Followed k (booked z old rows (values j c.args.board.now)) (booked z new rows after))
    (sym (length-append c.loop-before.yielded _))
    (followed_more k (record { assoc = met.assoc; comm = met.comm; unit = met.unit }) z old new rows (values j c.args.board.now)
    (values j c.loop-before.board) after i c.in-Some.before.now c.in-Some.after.now c.in-Some.row.now
    (t.1 ∙ booked_at old i blank t.0) (t.2 ∙ booked_at new i blank (omega (arith, t.0, c.requires.long))) t.3 (ap length t.3 ∙ row_long (length old) i z.hours rows t.0 c.requires.covered)
    c.move_place.ensures.cells c.move_place.ensures.cancels c.loop-before.invariant)

pub returns : goal.returns
returns g c =
    let j = g.E.Joining in
    let met = g.met.E.Joining in
    let a = c.args in
    let all : length c.loop-before.yielded ≡ length a.old.now
    = end a.old.now a.new.now a.rows.now a.sizes.now.hours a.sizes.now.hours_low c.requires.long c.requires.covered c.into_iter-before-iterator.result
    (search rules) (search rules) (search rules) (search rules) c.loop-before.yielded c.loop-before.before-iterator c.next.new.self c.loop-before.yielded_by _ c.next.ensures.steps c.in-None.is in
    followed_all (meaning j g.E.Reversible) (record { assoc = met.assoc; comm = met.comm; unit = met.unit }) a.sizes.now a.old.now a.new.now a.rows.now
    (values j a.board.now) (values j c.loop-before.board) _ all c.loop-before.invariant
