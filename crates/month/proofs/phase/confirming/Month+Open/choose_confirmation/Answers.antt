-- Found, allowed, fitting, supplied, within the seller's limit: the first check that fails decides.
use Rattle.std.proofs.Common.{◌≡◌, ◌+◌, rules}
use Rattle.ledger.specs.Checks.{confirm_refusal}
use Rattle.ledger.specs.States.{contracts}
use Rattle.month.specs.Months.{lent}
use Rattle.month.proofs.Deciding.{confirm_decided, confirm_of}
use Rattle.month.proofs.phase.confirming.Month+Open.choose_confirmation.Goals as goal
use Rattle.month.proofs.phase.confirming.Month+Open.choose_confirmation.Goals.{In_ok-index}

decided : (g : _) (c : In_ok-index g)
    → confirm_refusal (lent g.E.Joining c.args.self.now c.args.memories) c.args.number c.args.agent (g.S.Scale.weights c.args.scale.now)
    ≡ confirm_of c.args.self.now.sizes.hours (contracts (lent g.E.Joining c.args.self.now c.args.memories)) c.in_ok-index.contract c.args.agent (c.in_ok-index.index + 1)
    (g.S.Scale.weights c.args.scale.now)
decided g c =
    let a = c.args in
    confirm_decided (lent g.E.Joining a.self.now a.memories) a.number c.in_ok-index.index c.in_ok-index.contract
    c.in_ok-index.ensures.chosen c.in_ok-index.ensures.decided a.agent (g.S.Scale.weights a.scale.now)

pub returns-in_err-weigh-clause-refused : goal.returns-in_err-weigh-clause-refused
returns-in_err-weigh-clause-refused g c = let d = decided g (goal.at.returns-in_err-weigh-clause-refused g c).In_ok-index in search rules

pub returns-then-not-has_room-clause-refused : goal.returns-then-not-has_room-clause-refused
returns-then-not-has_room-clause-refused g c = let d = decided g (goal.at.returns-then-not-has_room-clause-refused g c).In_ok-index in search rules

pub returns-clause-refused : goal.returns-clause-refused
returns-clause-refused g c = let d = decided g (goal.at.returns-clause-refused g c).In_ok-index in search rules
