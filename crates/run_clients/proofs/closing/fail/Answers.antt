use Rattle.std.proofs.Common.{◌-◌, sym, ◌∙◌, subst, arith}
use Rattle.std.proofs.lemmas.Bool.{both_ways}
use Rattle.model.specs.rule.Limits.{most_processes}
use Rattle.model.proofs.FailLaws.{exited_before-first, exited_before-more, exited_to-none}
use Rattle.fcntl_table.specs.rule.Tables.{table_of}
use Rattle.run_clients.specs.code.Times.{AreAnchored}
use Rattle.run_clients.specs.rule.Seen.{exits_to}
use Rattle.run_clients.proofs.Drops.{exits_to-zero, exits_keep}
use Rattle.run_clients.proofs.Shut.{exits_more, no_host_idle, none_at_first, none_exit}
use Rattle.run_clients.proofs.closing.fail.Goals as goal

pub returns-then-not-is_host-clause-table : goal.returns-then-not-is_host-clause-table
returns-then-not-is_host-clause-table c =
    let t = table_of c.args.table.now in
    sym (exited_to-none t c.args.node c.args.incarnation most_processes (no_host_idle t c.args.node c.args.incarnation c.requires.anchored (λ host. both_ways c.is_host.result c.if-not-is_host.true (c.is_host.ensures.1 host))))

pub returns-then-not-is_host-clause-deeds : goal.returns-then-not-is_host-clause-deeds
returns-then-not-is_host-clause-deeds c =
    let t = table_of c.args.table.now in
    none_at_first c.args.deeds.now.items (exits_to t c.args.node c.args.incarnation most_processes) (none_exit t c.args.node c.args.incarnation (no_host_idle t c.args.node c.args.incarnation c.requires.anchored (λ host. both_ways c.is_host.result c.if-not-is_host.true (c.is_host.ensures.1 host))) most_processes)

pub loop-pid-init : goal.loop-pid-init
loop-pid-init c =
    let t = table_of c.args.table.now in
    record {
      first = omega arith;
      below = omega arith;
      table = exited_before-first t c.args.node c.args.incarnation;
      deeds = none_at_first c.args.deeds.now.items (exits_to t c.args.node c.args.incarnation 0) (exits_to-zero t c.args.node c.args.incarnation);
    }

pub exit_if-requires : goal.exit_if-requires
exit_if-requires c = record { anchored = subst AreAnchored (sym c.loop-pid.invariant.table) (exits_keep c.args.node c.args.incarnation (table_of c.args.table.now) (c.loop-pid.pid - 1) c.requires.anchored (c.is_host.ensures.0 c.if-not-is_host.false)) }

pub loop-pid-preserved : goal.loop-pid-preserved
loop-pid-preserved c =
    let t = table_of c.args.table.now in
    let u = table_of c.loop-pid.table in
    let pid = c.loop-pid.pid in
    let least = c.loop-pid.invariant.first in
    let most = c.loop-pid-test.true in
    record {
      first = omega arith;
      below = omega arith;
      table = c.in_ok-exit_if.ensures.table ∙ exited_before-more t u c.args.node c.args.incarnation pid least c.loop-pid.invariant.table;
      deeds = exits_more t u c.args.node c.args.incarnation pid c.args.deeds.now.items c.loop-pid.deeds.items c.exit_if.new.deeds.items least c.loop-pid.invariant.table c.loop-pid.invariant.deeds c.in_ok-exit_if.ensures.deeds;
    }
