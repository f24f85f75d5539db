use Rattle.std.proofs.Common.{inr, map, refl, Some}
use Rattle.std.proofs.lemmas.Result.{IfErr-weaker, IfOk-weaker, err_from_is_err_and}
use Rattle.replay.specs.rule.Judging.{IsJudgedWith}
use Rattle.replay.proofs.Judging.{had-judged}
use Rattle.replay.proofs.Tools.{textless, tool-weaker}
use Rattle.replay.proofs.judge.judged_by.Goals as goal

pub returns-in_err-text-clause-fault : goal.returns-in_err-text-clause-fault
returns-in_err-text-clause-fault g c =
    let p = err_from_is_err_and c.from_residual.result c.from_residual.ensures.1 in
    rw (p.1, p.2) (textless (g.S.Store.holds c.args.store.now) _ c.args.orders.now (IsJudgedWith (map (λ path. path.now) c.args.paths.now) (Some c.args.orders.now)) _ (inr refl) c.in_err-text.ensures.fault)

pub returns-clause-done : goal.returns-clause-done
returns-clause-done g c =
    let holds = g.S.Store.holds in
    IfOk-weaker c.all_judged.result _ _ (λ shown is.
    had-judged c.args.judging.allowed (Some c.args.orders.now) (holds c.args.store.now) (holds c.text_of.new.store) (map (λ path. path.now) c.args.paths.now) shown c.text_of.ensures.files is
    ) c.all_judged.ensures.done

pub returns-clause-fault : goal.returns-clause-fault
returns-clause-fault g c =
    let holds = g.S.Store.holds in
    IfErr-weaker c.all_judged.result _ _ (λ fault is. tool-weaker (holds c.args.store.now) (holds c.text_of.new.store) _ _ fault c.text_of.ensures.files (λ path reads. reads) is) c.all_judged.ensures.fault
