use Rattle.std.proofs.Common.{ap}
use Rattle.model.specs.declared.process.Process.{Process}
use Rattle.fcntl_table.proofs.TableLaws.{close-found, close-refused}
use Rattle.fcntl_table.proofs.table.FcntlTable.plan_close.Goals as goal

pub returns-in-Ok-clause-is : goal.returns-in-Ok-clause-is
returns-in-Ok-clause-is c =
    (close-found c.args.self.now c.args.process c.host_of.result c.process.inside.pid c.args.fd c.in-Ok.field-0 c.host_of.ensures (ap (λ (p : Process). p.pid) c.process.view_is) c.in-Ok.ensures.value).0

pub returns-in-Ok-clause-fits : goal.returns-in-Ok-clause-fits
returns-in-Ok-clause-fits c =
    (close-found c.args.self.now c.args.process c.host_of.result c.process.inside.pid c.args.fd c.in-Ok.field-0 c.host_of.ensures (ap (λ (p : Process). p.pid) c.process.view_is) c.in-Ok.ensures.value).1

pub returns-in-Err-clause-is : goal.returns-in-Err-clause-is
returns-in-Err-clause-is c =
    close-refused c.args.self.now c.args.process c.host_of.result c.process.inside.pid c.args.fd c.in-Err.error c.reply.result c.host_of.ensures (ap (λ (p : Process). p.pid) c.process.view_is) c.in-Err.ensures.value c.reply.ensures
