-- Each part is written after the one before it.
use Rattle.std.proofs.Common.{w64, SFits, rules}
use Rattle.std.proofs.lemmas.Int.{to_z-of_z}
use Rattle.page.proofs.Over.{then}
use Rattle.lines.proofs.say.put_words.Goals as goal

pub returns-in-Refused-clause-wrote : goal.returns-in-Refused-clause-wrote
returns-in-Refused-clause-wrote c =
    let spot = then c.text-in-Refused-2.ensures.wrote c.put_number-in-Refused.ensures.wrote in
    rw c.in-Refused.is (then c.text-in-Refused.ensures.wrote (then (rw c.from.ensures at c.put_number.ensures.wrote) spot))

pub returns-in-At-clause-wrote : goal.returns-in-At-clause-wrote
returns-in-At-clause-wrote c =
    let fits : SFits w64 c.in-At.net = search rules in
    rw c.in-At.is (then c.text-in-At.ensures.wrote (simp to_z-of_z at c.put_position.ensures.wrote))

pub returns-in-AtBySource-clause-wrote : goal.returns-in-AtBySource-clause-wrote
returns-in-AtBySource-clause-wrote c =
    let fits : SFits w64 c.in-AtBySource.conventional = search rules in
    let fits_too : SFits w64 c.in-AtBySource.incentivised = search rules in
    let first = simp to_z-of_z at c.put_position-in-AtBySource.ensures.wrote in
    let second = simp to_z-of_z at c.put_position-in-AtBySource-2.ensures.wrote in
    rw c.in-AtBySource.is (then c.text-in-AtBySource.ensures.wrote (then first (then c.text-in-AtBySource-2.ensures.wrote second)))
