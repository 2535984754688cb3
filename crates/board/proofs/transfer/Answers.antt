use Rattle.std.proofs.Common.{◌≡◌, ℕ, ◌<◌, length, get_or, ap, ◌∙◌, arith, rules}
use Rattle.entry.specs.Kinds.{Laws, Cancels, joins, meaning}
use Rattle.board.proofs.Cells.{moved_both}
use Rattle.board.proofs.transfer.Goals as goal

pub returns : goal.returns
returns g c =
    let j = g.E.Joining in
    let k = meaning j g.E.Reversible in
    let met = g.met.E.Joining in
    let laws : Laws (joins k) = record { assoc = met.assoc; comm = met.comm; unit = met.unit } in
    let s = c.args.source in
    let h = length c.args.quantities.now in
    let q : ℕ → ℕ = λ t. get_or c.args.quantities.now t 0 in
    let sells = c.join_each.ensures in
    let buys = c.join_each-2.ensures in
    let sold : (t : ℕ) (p : t < h) → j.value (sells t p).0 ≡ k.sold (q t) s = λ t p. let made = (sells t p).1 in search rules in
    let bought : (t : ℕ) (p : t < h) → j.value (buys t p).0 ≡ k.bought (q t) s = λ t p. let made = (buys t p).1 in search (rules, g.met.E.Reversible.alike) parts 8 in
    let cancels : (t : ℕ) (p : t < h) → Cancels k (q t) s = λ t p. let made = (buys t p).1 in let is = bought t p in search rules parts 8 in
    moved_both k laws j.value c.args.from c.args.to s h q c.args.board.now c.join_each.new.lane c.join_each-2.new.lane _ _
    c.requires.apart (omega arith) (omega arith) c.requires.leaves c.requires.enters
    (let same = c.join_each.auto.lane in search rules)
    (let same = c.join_each-2.auto.lane in search rules)
    (λ t p. (sells t p).2 ∙ ap (k.join _) (sold t p))
    (λ t p. (buys t p).2 ∙ ap (k.join _) (bought t p))
    cancels
