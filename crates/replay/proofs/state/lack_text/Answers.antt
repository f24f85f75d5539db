use Rattle.std.proofs.Common.{◌∙◌, length}
use Rattle.std.proofs.lemmas.Result.{IfOk-weaker}
use Rattle.replay.specs.rule.Commands.{lack_text}
use Rattle.replay.proofs.state.lack_text.Goals as goal

pub returns : goal.returns
returns c = IfOk-weaker c.lack_line.result _ _ (λ text is. is ∙ (λ i. lack_text (c.position_in.ensures i) (length (c.entries.ensures.value i)))) c.lack_line.ensures
