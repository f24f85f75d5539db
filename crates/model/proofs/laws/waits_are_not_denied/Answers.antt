use Rattle.model.specs.declared.reply.Reply.TheVariants.{Interrupted}
use Rattle.model.proofs.ReadOnly.{only_done_change}
use Rattle.model.proofs.ReplayLaws.{wait_never}
use Rattle.model.proofs.laws.waits_are_not_denied.Goals as goal

pub returns : goal.returns
returns c = record {
  never_again = wait_never;
  unchanged = λ t u p op h. only_done_change t u p op Interrupted tt h;
}
