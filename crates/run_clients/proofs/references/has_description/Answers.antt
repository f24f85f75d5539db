use Rattle.std.proofs.Common.{sym, ◌∙◌, arith}
use Rattle.model.specs.rule.Descriptors.{is_of}
use Rattle.model.specs.rule.Table.{around}
use Rattle.fcntl_table.specs.rule.Tables.{table_of}
use Rattle.run_clients.proofs.Calls.{idle_has_none, has_found, none_more}
use Rattle.run_clients.proofs.references.has_description.Goals as goal

pub returns-then-not-is_running : goal.returns-then-not-is_running
returns-then-not-is_running c = idle_has_none (table_of c.args.table.now) c.args.process c.args.description c.requires (sym c.is_running.ensures ∙ c.if-not-is_running.true)

pub returns-then-is_of : goal.returns-then-is_of
returns-then-is_of c = has_found (around (table_of c.args.table.now) c.args.process) c.args.description c.args.process.pid c.loop-fd.fd c.loop-fd-test.true (sym c.is_of.ensures ∙ c.if-is_of.true)

pub loop-fd-preserved : goal.loop-fd-preserved
loop-fd-preserved c =
    let below = c.loop-fd-test.true in
    record {
      below = omega arith;
      none = none_more (λ fd. is_of c.args.description ((around (table_of c.args.table.now) c.args.process).opened c.args.process.pid fd)) 0 c.loop-fd.fd c.loop-fd.fd (omega arith) c.loop-fd.invariant.none (sym c.is_of.ensures ∙ c.if-is_of.false);
    }
