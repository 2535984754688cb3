-- The entry on the board means the position of every life, so its numbers are the true differences.
use Rattle.std.proofs.Common.{◌≡◌, ap, ◌∙◌}
use Rattle.entry.specs.Kinds.{meaning}
use Rattle.ledger.specs.Past.{ledger}
use Rattle.month.proofs.Living.{lived_at}
use Rattle.month.proofs.phase.Month.true_position.Goals as goal

pub returns-clause-lived : goal.returns-clause-lived
returns-clause-lived g c =
    let a = c.args in
    let j = g.E.Joining in
    let read = c.in_ok-entry in
    lived_at (meaning j g.E.Reversible) j.value a.self.now.sizes a.board.now a.agent a.submarket a.hour read.entry read.ensures.answer read.ensures.entry
    (λ past. c.exact.result ≡ g.E.Counted.difference (ledger past) a.agent a.submarket a.hour)
    (λ past s lived a1 aa m1 m4 h1 hh is.
    c.exact.ensures.counted past s lived a.agent a.submarket a.hour a1 aa m1 m4 h1 hh (ap j.value c.exact.ensures.same ∙ is))
