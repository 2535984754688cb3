use Rattle.std.proofs.Common.{◌≡◌, IfOk, subst}
use Rattle.scale.specs.Shares.{down_to, shares_of}
use Rattle.scale.specs.Weights.{weight_at}
use Rattle.scale.proofs.share.quantity.Goals as goal

-- the row scale's weights are the row
pub returns-clause-value : goal.returns-clause-value
returns-clause-value c =
    subst (λ ws. IfOk c.share_at.result (λ x. x ≡ weight_at (shares_of down_to c.args.effective ws) c.args.hour)) c.new.ensures c.share_at.ensures.value
