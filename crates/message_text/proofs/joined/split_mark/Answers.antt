use Rattle.std.proofs.Common.{arith}
use Rattle.texts.proofs.SingleWords.{split-first}
use Rattle.message_text.proofs.joined.split_mark.Goals as goal

pub returns-clause-parts : goal.returns-clause-parts
returns-clause-parts g c = rw (← c.mark.ensures.value) (split-first c.mark.result (omega (arith, c.mark.ensures.value, c.mark.ensures.ascii)) c.args.text.now c.split_once.result c.split_once.ensures.cases)
