use Rattle.std.proofs.Common.{◌≡◌, ℕ, ◌≤◌, min, false, length, get_or, drop, sym, refl, ap, ◌∙◌, zero-mul, arith}
use Rattle.std.proofs.lemmas.List.{at_drop_all, get_or-replicate}
use Rattle.std.proofs.lemmas.Bool.{and_from, and_left, and_right, leb-true}
use Rattle.scale.specs.Refusals.{first_of}
use Rattle.book.specs.Sound.{place_checks, sound_place}
use Rattle.book.specs.Terms.{blank}
use Rattle.book.proofs.Checking.{fails, passes, place_is, place_passes, place_fails, rest_more, row_here, still_moderate, sound_book, total_more}
use Rattle.book.proofs.Passing.{refused_unsound}
use Rattle.book.proofs.sound.examine.Goals as goal
use Rattle.book.proofs.sound.examine.Goals.{then-not-sound_alone-via-then-not-sound_alone, then-not-sound_alone-via-else-not-sound_alone+then-not-tally}

pub loop-i-init : goal.loop-i-init
loop-i-init c = (
  ap (λ (k : ℕ). drop k c.args.rows.now) (sym (zero-mul _)),
  refl,
  λ s h. get_or-replicate {A = ℕ} 65 s 0 0 (omega arith),
  λ s h. omega (arith, get_or-replicate {A = ℕ} 65 s 0 0 (omega arith)),
)

pub returns-then-not-sound_alone : goal.returns-then-not-sound_alone
returns-then-not-sound_alone c =
    let z = c.args.sizes.now in
    let taken = c.args.taken.now in
    let rows = c.args.rows.now in
    let i = c.loop-i.i in
    let lt = c.loop-i-test.true in
    let one = get_or taken i blank in
    let mid = c.min.ensures ∙ ap (λ (n : ℕ). min n (length c.loop-i.rest.now)) c.hours-hours.ensures in
    let row = row_here z.hours i _ rows _ _ c.loop-i.invariant.0 mid c.split_at.ensures.front in
    let unsound : sound_place z taken rows i one ≡ false =
    elim c.then-not-sound_alone.branch [
      | then-not-sound_alone-via-then-not-sound_alone w ↦
          sym (place_is z taken rows i one _ _ row refl) ∙ and_left _ _ (sym w.if-not-sound_alone.ensures.sound)
      | then-not-sound_alone-via-else-not-sound_alone+then-not-tally w ↦
          let seller : one.terms.seller ≤ 64 = omega (arith, (w.if-not-sound_alone.ensures.terms refl).seller.1) in
          let total = total_more taken i blank _ _ _ lt (c.loop-i.invariant.2 _ seller) (w.tally.ensures.after _ seller) in
          sym (place_is z taken rows i one _ _ row total) ∙ and_right _ _ (sym w.if-not-tally.ensures.within)
    ] in
    let some = passes _ 2 0 (place_checks z taken rows 0 taken) (sym c.if-not-all_moderate.ensures) ∙ sym c.loop-i.invariant.1 ∙ place_fails z taken rows i blank lt unsound in
    record { refused = sym some; sound = refused_unsound z taken rows _ _ some }

pub loop-i-preserved : goal.loop-i-preserved
loop-i-preserved c =
    let z = c.args.sizes.now in
    let taken = c.args.taken.now in
    let rows = c.args.rows.now in
    let i = c.loop-i.i in
    let lt = c.loop-i-test.true in
    let one = get_or taken i blank in
    let seller : one.terms.seller ≤ 64 = omega (arith, (c.if-not-sound_alone.ensures.terms refl).seller.1) in
    let total : (s : ℕ) → s ≤ 64 → _ = λ s h. total_more taken i blank s _ _ lt (c.loop-i.invariant.2 s h) (c.tally.ensures.after s h) in
    let within = sym c.if-not-tally.ensures.within in
    let mid = c.min.ensures ∙ ap (λ (n : ℕ). min n (length c.loop-i.rest.now)) c.hours-hours.ensures in
    let row = row_here z.hours i _ rows _ _ c.loop-i.invariant.0 mid c.split_at.ensures.front in
    let alone = sym c.if-not-sound_alone.ensures.sound in
    let sound = sym (place_is z taken rows i one _ _ row (total _ seller)) ∙ and_from _ _ alone within in (
      rest_more z.hours i _ rows _ _ c.loop-i.invariant.0 mid c.split_at.ensures.back,
      sym (place_passes z taken rows i blank lt sound) ∙ c.loop-i.invariant.1,
      total,
      still_moderate _ _ one c.tally.ensures.after c.loop-i.invariant.3 (leb-true _ _ within),
    )

pub returns : goal.returns
returns c =
    let z = c.args.sizes.now in
    let taken = c.args.taken.now in
    let rows = c.args.rows.now in
    let end = at_drop_all (λ cs. first_of (place_checks z taken rows c.loop-i.i cs)) taken _ c.loop-i-test.false in
    let none = passes _ 2 0 (place_checks z taken rows 0 taken) (sym c.if-not-all_moderate.ensures) ∙ sym c.loop-i.invariant.1 ∙ end in
    record { refused = sym none; sound = sound_book z taken rows _ none }

pub returns-then-not-all_moderate : goal.returns-then-not-all_moderate
returns-then-not-all_moderate c =
    let z = c.args.sizes.now in
    let taken = c.args.taken.now in
    let rows = c.args.rows.now in
    let some = fails _ 2 0 (place_checks z taken rows 0 taken) (sym c.if-not-all_moderate.ensures) in
    record { refused = sym some; sound = refused_unsound z taken rows _ _ some }
