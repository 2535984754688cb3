use Rattle.std.proofs.Common.{◌≡◌, ℕ, zero, suc, ◌<◌, get_or, [], ◌∷◌, sym, refl, arith}
use Rattle.scale.specs.Shares.{down_to}
use Rattle.book.specs.Terms.{class_number}
use Rattle.book.specs.declared.contract.Class.{Class}
use Rattle.book.specs.declared.contract.Class.TheVariants.{Free, Retail, Regulated}
use Rattle.book.proofs.Recutting.{class_within, cut_last, cut_one}
use Rattle.book.proofs.cuts.recut.Goals as goal

-- the classes that are cut, in turn
abbrev cut_at : ℕ → Class
cut_at i = get_or (Free ∷ Retail ∷ Regulated ∷ []) i Free

numbered : (i : ℕ) → i < 3 → class_number (cut_at i) ≡ suc i
numbered zero less = refl
numbered (suc zero) less = refl
numbered (suc (suc zero)) less = refl
numbered (suc (suc (suc i))) less = omega arith

pub overflow_cast-cut : goal.overflow_cast-cut
overflow_cast-cut c =
    let class : ℕ = class_number (cut_at c.loop-class.class-index) in
    let sells = rw c.new.ensures.taken at (rw c.new.ensures.seller at (rw c.new.ensures.class at c.amounts.ensures)) in
    omega (arith, c.min-cut.ensures, sells, class_within down_to c.args.seller c.args.shortfall c.args.taken.now c.loop-class.class-index class c.loop-class.taken c.loop-class.invariant.0 (sym c.if-not-has_room.ensures))

pub cut_class-requires-clause-moderate : goal.cut_class-requires-clause-moderate
cut_class-requires-clause-moderate c =
    class_within down_to _ c.args.shortfall c.args.taken.now c.loop-class.class-index _ _ c.loop-class.invariant.0 (sym c.if-not-has_room.ensures)

pub loop-class-preserved : goal.loop-class-preserved
loop-class-preserved c =
    let i = c.loop-class.class-index in
    let sells = rw c.new.ensures.taken at (rw c.new.ensures.seller at (rw c.new.ensures.class at c.amounts.ensures)) in
    cut_one down_to _ _ _ i _ _ _ _ _ (omega arith) (numbered i (omega arith)) c.loop-class.invariant.0 c.loop-class.invariant.1
    (omega (arith, c.min-cut.ensures, sells)) c.cut_class.ensures

pub cut_class-requires-2-clause-moderate : goal.cut_class-requires-2-clause-moderate
cut_class-requires-2-clause-moderate c =
    class_within down_to _ c.args.shortfall c.args.taken.now c.loop-class.class-index _ _ c.loop-class.invariant.0 (sym c.if-not-has_room.ensures)

pub returns-clause-memory : goal.returns-clause-memory
returns-clause-memory c =
    cut_last down_to _ _ _ c.loop-class.class-index _ _ (omega (arith, c.loop-class-test.false)) c.loop-class.invariant.0 c.cut_class-2.ensures
