use Rattle.std.proofs.Common.{◌≡◌}
use Rattle.seat_commands.specs.rule.Merging.{all_logs}
use Rattle.seat_commands.proofs.merge_command.parts_of.Given as goal

abbrev pub invariant-loop-log : goal.invariant-loop-log
invariant-loop-log l = l.parts.items ≡ all_logs l.yielded
