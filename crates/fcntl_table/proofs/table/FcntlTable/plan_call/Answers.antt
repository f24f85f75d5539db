use Rattle.std.proofs.Common.{◌≡◌, ℕ, ap, subst}
use Rattle.std.specs.Prelude.{Ok}
use Rattle.model.specs.declared.process.Process.{Process}
use Rattle.model.specs.rule.Descriptors.{Processes, after}
use Rattle.descriptors.specs.code.Rows.{Refuses}
use Rattle.descriptors.specs.code.Edits.{edited}
use Rattle.fcntl_table.specs.rule.Hosts.{processes_of}
use Rattle.fcntl_table.specs.rule.Tables.{table_of}
use Rattle.fcntl_table.proofs.TableLaws.{planned-ok, planned-refused, not-refused, refused-outright, if_matched}
use Rattle.fcntl_table.proofs.table.FcntlTable.plan_call.Goals as goal

pub returns-in-Ok-clause-ok : goal.returns-in-Ok-clause-ok
unfolding table_of
returns-in-Ok-clause-ok c =
    let ps : Processes = processes_of c.args.self.now.hosts c.host_of-host.result.node c.host_of-host.result.incarnation in
    let P : ℕ → Type 0 = λ pid. after ps pid c.args.call ≡ Ok (edited ps c.in-Ok.edit, c.in-Ok.reply) in
    planned-ok (table_of c.args.self.now) c.args.process c.host_of-host.result c.in-Ok.edit (λ ps. after ps c.args.process.pid c.args.call) c.in-Ok.reply c.host_of-host.ensures (subst P (ap (λ (p : Process). p.pid) c.process.view_is) c.in-Ok.ensures.ok)

pub returns-in-Err-clause-ok : goal.returns-in-Err-clause-ok
unfolding table_of
returns-in-Err-clause-ok c =
    let ps : Processes = processes_of c.args.self.now.hosts c.host_of-host.result.node c.host_of-host.result.incarnation in
    let P : ℕ → Type 0 = λ pid. Refuses c.in-Err.error (after ps pid c.args.call) in
    let refuses = subst P (ap (λ (p : Process). p.pid) c.process.view_is) c.in-Err.ensures.err in
    if_matched c.refused.result _ _ _ c.refused.ensures (λ planned m. planned-refused (table_of c.args.self.now) c.args.process c.host_of-host.result planned.edit (λ ps. after ps c.args.process.pid c.args.call) planned.reply c.host_of-host.ensures m.0 (m.1 (after ps c.args.process.pid c.args.call) refuses))

pub returns-in-Ok-clause-refused : goal.returns-in-Ok-clause-refused
unfolding table_of
returns-in-Ok-clause-refused c = λ refusal refused.
    let ps : Processes = processes_of c.args.self.now.hosts c.host_of-host.result.node c.host_of-host.result.incarnation in
    let P : ℕ → Type 0 = λ pid. after ps pid c.args.call ≡ Ok (edited ps c.in-Ok.edit, c.in-Ok.reply) in
    absurd (not-refused (table_of c.args.self.now) c.args.process c.host_of-host.result (λ ps. after ps c.args.process.pid c.args.call) _ refusal c.host_of-host.ensures (subst P (ap (λ (p : Process). p.pid) c.process.view_is) c.in-Ok.ensures.ok) refused)

pub returns-in-Err-clause-refused : goal.returns-in-Err-clause-refused
unfolding table_of
returns-in-Err-clause-refused c = λ refusal refused.
    let ps : Processes = processes_of c.args.self.now.hosts c.host_of-host.result.node c.host_of-host.result.incarnation in
    let P : ℕ → Type 0 = λ pid. Refuses c.in-Err.error (after ps pid c.args.call) in
    refused-outright (table_of c.args.self.now) c.args.process c.host_of-host.result (λ ps. after ps c.args.process.pid c.args.call) c.in-Err.error refusal c.refused.result c.host_of-host.ensures (subst P (ap (λ (p : Process). p.pid) c.process.view_is) c.in-Err.ensures.err) c.refused.ensures refused
