use Rattle.std.proofs.Common.{List, subst}
use Rattle.std.proofs.lemmas.Result.{IfOk-weaker}
use Rattle.client_history.specs.declared.client_call.ClientCall.{ClientCall}
use Rattle.history_text.specs.rule.Judgements.{IsJudged}
use Rattle.history_text.proofs.judged.file_judged.Goals as goal

pub returns : goal.returns
returns c = IfOk-weaker c.judge_file.result _ _ (λ found is. λ clock. subst (λ (calls : List ClientCall). IsJudged calls found) (c.in_ok-wider.ensures clock) is) c.judge_file.ensures
