-- Each letter's call, and the line that is replied to it.
use Rattle.std.proofs.Common.{length, drop, Some, refl, ap, arith, length-append}
use Rattle.entry.specs.Kinds.{meaning}
use Rattle.ledger.specs.Calls.{Offering, Ending, Telling}
use Rattle.ledger.specs.Past.{offering, ending, telling}
use Rattle.scale.specs.Refusals.{refusal_of}
use Rattle.book.specs.declared.contract.Offer as offer
use Rattle.lines.specs.declared.command.Command.TheVariants.{Open, Offer, Confirm, End, Tell, Close}
use Rattle.session.specs.Held.{held_of}
use Rattle.session.specs.Questions.{showing_of}
use Rattle.session.specs.Turns.{Changes, Closes, Confirms, Refused, unfit}
use Rattle.session.proofs.Replies.{acked, unfitted, located, certified_on, uncertified, shut}
use Rattle.session.proofs.desk.Desk.answer.Goals as goal

pub returns-in-Offer-clause-does : goal.returns-in-Offer-clause-does
returns-in-Offer-clause-does g c =
    let j = g.E.Joining in
    let k = meaning j g.E.Reversible in
    let a = c.in-Offer in
    let o : offer.Offer = record { number = a.number; seller = a.seller; buyer = a.buyer; submarket = a.submarket; class = a.class; source = a.source; first = a.first; last = a.last; amount = a.amount } in
    acked k (showing_of j g.E.Shown) _ (Offer a.number a.seller a.buyer a.submarket a.class a.source a.first a.last a.amount) a.is (Changes k (offering o) (Offering o)) (λ h t answer d. (answer, refl, d))
    (held_of j c.args.self.now) (held_of j c.offer.new.self) (refusal_of c.offer.result) c.offer.ensures _ _ _ c.put_ack.ensures.put

pub returns-in-Confirm-clause-does : goal.returns-in-Confirm-clause-does
returns-in-Confirm-clause-does g c =
    let j = g.E.Joining in
    let k = meaning j g.E.Reversible in
    let a = c.in-Confirm in
    acked k (showing_of j g.E.Shown) _ (Confirm a.number a.agent) a.is (Confirms k a.number a.agent) (λ h t answer d. (answer, refl, d))
    (held_of j c.args.self.now) (held_of j c.confirm.new.self) (refusal_of c.confirm.result) c.confirm.ensures _ _ _ c.put_ack-in-Confirm.ensures.put

pub returns-in-End-clause-does : goal.returns-in-End-clause-does
returns-in-End-clause-does g c =
    let j = g.E.Joining in
    let k = meaning j g.E.Reversible in
    let a = c.in-End in
    acked k (showing_of j g.E.Shown) _ (End a.number a.agent) a.is (Changes k (ending a.number a.agent) (Ending k a.number a.agent)) (λ h t answer d. (answer, refl, d))
    (held_of j c.args.self.now) (held_of j c.end.new.self) (refusal_of c.end.result) c.end.ensures _ _ _ c.put_ack-in-End.ensures.put

pub returns-in-Tell-clause-does : goal.returns-in-Tell-clause-does
returns-in-Tell-clause-does g c =
    let j = g.E.Joining in
    let k = meaning j g.E.Reversible in
    let a = c.in-Tell in
    acked k (showing_of j g.E.Shown) _ (Tell a.agent a.kwh) a.is (Changes k (telling a.agent a.kwh) (Telling k a.agent a.kwh)) (λ h t answer d. (answer, refl, d))
    (held_of j c.args.self.now) (held_of j c.tell.new.self) (refusal_of c.tell.result) c.tell.ensures _ _ _ c.put_ack-in-Tell.ensures.put

pub returns-in-Close-clause-does : goal.returns-in-Close-clause-does
returns-in-Close-clause-does g c =
    let j = g.E.Joining in
    let k = meaning j g.E.Reversible in
    let a = c.in-Close in
    acked k (showing_of j g.E.Shown) _ (Close) a.is (Closes) (λ h t answer d. (answer, refl, d))
    (held_of j c.args.self.now) (held_of j c.close.new.self) (refusal_of c.close.result) (shut j c.args.self.now.stage c.args.self.now c.close.new.self (refusal_of c.close.result) refl c.close.ensures) _ _ _ c.put_ack-in-Close.ensures.put

pub returns-in-Open-clause-does : goal.returns-in-Open-clause-does
returns-in-Open-clause-does g c =
    let j = g.E.Joining in
    let k = meaning j g.E.Reversible in
    let a = c.in-Open in
    acked k (showing_of j g.E.Shown) _ (Open a.agents a.hours a.places a.kind) a.is (Refused) (λ h t answer d. (answer, refl, d))
    (held_of j c.args.self.now) (held_of j c.args.self.now) (Some unfit) (unfitted k (showing_of j g.E.Shown) (held_of j c.args.self.now)) _ _ _ c.put_ack-in-Open.ensures.put

pub returns-in-Position-clause-does : goal.returns-in-Position-clause-does
returns-in-Position-clause-does g c =
    let j = g.E.Joining in
    let a = c.in-Position in
    located (meaning j g.E.Reversible) (showing_of j g.E.Shown) _ a.agent a.submarket a.hour a.is (held_of j c.args.self.now) c.position-answer.result
    c.unwrap_or_else.result c.position-answer.ensures c.unwrap_or_else.ensures _ _ _ c.put_reply.ensures.put

pub returns-in-Ok : goal.returns-in-Ok
returns-in-Ok g c =
    let j = g.E.Joining in
    let a = c.in-Certificate in
    let page = c.args.page.now in
    let r = certified_on (meaning j g.E.Reversible) (showing_of j g.E.Shown) _ a.agent a.is (held_of j c.args.self.now) page c.certificate.new.page c.in-Ok.n c.in-Ok.ensures in
    record { does = r; within = omega (arith, r.fronted.count, ap length r.fronted.page, length-append r.line (drop c.in-Ok.n page), c.certificate.array_long) }

pub returns-in-Err-clause-does : goal.returns-in-Err-clause-does
returns-in-Err-clause-does g c =
    let j = g.E.Joining in
    let a = c.in-Certificate in
    uncertified (meaning j g.E.Reversible) (showing_of j g.E.Shown) _ a.agent a.is (held_of j c.args.self.now) c.args.page.now c.certificate.new.page
    c.in-Err.fault c.in-Err.ensures _ c.from.ensures _ _ c.put_reply-in-Err.ensures.put
