use Rattle.std.proofs.Common.{List, subst}
use Rattle.client_history.specs.declared.client_call.ClientCall.{ClientCall}
use Rattle.client_history.specs.declared.verdict.Verdict.TheVariants.{Unexplained}
use Rattle.client_history.specs.rule.Explained.{always, IsVerdict}
use Rattle.history_text.proofs.judged.judge_file.Goals as goal

pub contradicted-requires : goal.contradicted-requires
contradicted-requires c = λ order whole.
    let calls = c.args.file.now.calls.items in
    let said : IsVerdict calls (Unexplained c.in-Unexplained.call c.in-Unexplained.ways) = subst (λ (xs : List ClientCall). IsVerdict xs (Unexplained c.in-Unexplained.call c.in-Unexplained.ways)) c.as_slice.ensures.value (subst (IsVerdict c.as_slice.result.now) c.in-Unexplained.is (c.in_ok-order.ensures {u = tt})) in
    said.from.none always order said.from.timed whole
