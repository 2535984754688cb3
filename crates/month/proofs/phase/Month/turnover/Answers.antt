-- What the book's contracts come to is what the ledger says, since every life keeps the two alike.
use Rattle.std.proofs.Common.{◌≡◌, ap, ◌∙◌, rules}
use Rattle.ledger.specs.States.{contracts}
use Rattle.ledger.proofs.Told.{turnover_told}
use Rattle.month.specs.Months.{lent}
use Rattle.month.specs.Questions.{sold, bought}
use Rattle.month.proofs.phase.Month.turnover.Goals as goal

pub returns : goal.returns
returns g c =
    let a = c.args in
    let m = a.self.now in
    let s = lent g.E.Joining m a.memories in
    let t = c.turnover_over-turnover in
    let sells : t.result.sold ≡ sold a.agent (contracts s) = t.ensures.sold ∙ ap (sold a.agent) c.contracts.ensures in
    let buys : t.result.bought ≡ bought a.agent (contracts s) = t.ensures.bought ∙ ap (bought a.agent) c.contracts.ensures in
    record {
      answer = search rules;
      amounts = (sells, buys);
      most = t.ensures.most;
      lived = λ k laws past life. (
        sells ∙ turnover_told s (λ o. o.seller) a.agent k laws past life,
        buys ∙ turnover_told s (λ o. o.buyer) a.agent k laws past life,
      );
    }
