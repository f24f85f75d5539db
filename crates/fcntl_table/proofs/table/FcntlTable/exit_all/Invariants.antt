use Rattle.std.proofs.Common.{◌≡◌}
use Rattle.model.proofs.FailLaws.{exited_before}
use Rattle.fcntl_table.specs.rule.Tables.{table_of}
use Rattle.fcntl_table.proofs.table.FcntlTable.exit_all.Given as goal

abbrev pub invariant-loop-pid : goal.invariant-loop-pid
invariant-loop-pid l = table_of l.self ≡ exited_before (table_of l.initial.self) l.host.node l.host.incarnation l.pid
