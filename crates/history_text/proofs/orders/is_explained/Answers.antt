use Rattle.std.proofs.Common.{◌∙◌, List, subst}
use Rattle.std.proofs.lemmas.Result.{IfOk-weaker}
use Rattle.client_history.specs.declared.client_call.ClientCall.{ClientCall}
use Rattle.client_history.specs.rule.Explained.{always, IsExplainedBy}
use Rattle.history_text.proofs.orders.is_explained.Goals as goal

pub returns : goal.returns
returns c =
    let order = c.args.order.now in
    IfOk-weaker c.explains.result _ _ (λ yes is. λ given clock. (order, subst (λ (calls : List ClientCall). IsExplainedBy always calls order) (c.as_slice.ensures.value ∙ c.in_ok-wider.ensures clock) (is.0 given))) c.explains.ensures
