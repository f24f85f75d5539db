use Rattle.std.proofs.Common.{sym}
use Rattle.model.specs.declared.reply.Reply.TheVariants.{Interrupted}
use Rattle.fcntl_table.specs.rule.Tables.{table_of}
use Rattle.placement.proofs.Waits.{blocked-goes_on}
use Rattle.placement.proofs.answers.lock.Goals as goal

pub returns-in-Wait-Some-clause-goes_on : goal.returns-in-Wait-Some-clause-goes_on
returns-in-Wait-Some-clause-goes_on c =
    blocked-goes_on (table_of c.args.table.now) c.args.process c.args.call c.in-Wait-Some.field-0-1 c.in-Ok.target Interrupted (sym c.in-Ok.ensures.value) c.in-Wait-Some.ensures.blocks
