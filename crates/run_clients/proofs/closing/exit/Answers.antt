use Rattle.std.proofs.Common.{sym, ◌∙◌, ap, subst, arith}
use Rattle.model.specs.rule.Table.{Table, is_running}
use Rattle.model.proofs.FailLaws.{closed_below-more}
use Rattle.fcntl_table.specs.rule.Tables.{table_of}
use Rattle.run_clients.specs.code.Times.{AreAnchored}
use Rattle.run_clients.specs.rule.Seen.{closings_below}
use Rattle.run_clients.proofs.Drops.{closings-zero, closed_below-zero, shut_keeps}
use Rattle.run_clients.proofs.Shut.{closings_more, exit_shut, none_at_first, shut_runs}
use Rattle.run_clients.proofs.closing.exit.Goals as goal

pub loop-fd-init : goal.loop-fd-init
loop-fd-init c =
    let t = table_of c.args.table.now in
    record {
      below = omega arith;
      table = sym (closed_below-zero t c.args.process);
      deeds = none_at_first c.args.deeds.now.items (closings_below t c.args.process 0) (closings-zero t c.args.process);
    }

pub close-requires-clause-runs : goal.close-requires-clause-runs
close-requires-clause-runs c = ap (λ (x : Table). is_running x c.args.process) c.loop-fd.invariant.table ∙ (shut_runs (table_of c.args.table.now) c.args.process c.loop-fd.fd ∙ c.requires.runs)

pub close-requires-clause-anchored : goal.close-requires-clause-anchored
close-requires-clause-anchored c = subst AreAnchored (sym c.loop-fd.invariant.table) (shut_keeps c.args.process (table_of c.args.table.now) c.loop-fd.fd c.requires.anchored (c.requires.anchored.hosts c.args.process.node c.args.process.incarnation c.args.process.pid c.requires.runs))

pub loop-fd-preserved : goal.loop-fd-preserved
loop-fd-preserved c =
    let t = table_of c.args.table.now in
    let u = table_of c.loop-fd.table in
    let below = c.loop-fd-test.true in
    record {
      below = omega arith;
      table = c.in_ok-close.ensures.table ∙ closed_below-more t u c.args.process c.loop-fd.fd c.loop-fd.invariant.table;
      deeds = closings_more t c.args.process u c.loop-fd.fd c.args.deeds.now.items c.loop-fd.deeds.items c.close.new.deeds.items c.loop-fd.invariant.table c.loop-fd.invariant.deeds c.in_ok-close.ensures.deeds;
    }

pub returns-clause-table : goal.returns-clause-table
returns-clause-table c = exit_shut (table_of c.args.table.now) (table_of c.loop-fd.table) (table_of c.exit.new.self) c.args.process c.loop-fd.fd c.exit.result c.requires.runs c.loop-fd.invariant.table c.loop-fd-test.false c.loop-fd.invariant.below c.exit.ensures
