-- The declarations that lines need to come behind them, as the lines are passed one after the other.
use Rattle.std.specs.Prelude.{◌≡◌, ℕ, Bool, true, List, Some}
use Rattle.std.specs.BTreeMap as tree
use Rattle.std.specs.BTreeMap.{BTreeMap}
use Rattle.std.specs.Ordering.{nat_cmp}
use Rattle.messages.specs.rule.Members.{MembersParts, members_state}
use Rattle.lockscript.specs.declared.script_line.ScriptCommand.{ScriptCommand}
use Rattle.thread_runs.specs.declared.played_line.PlayedLine.{PlayedLine}
use Rattle.thread_runs.specs.rule.Runs.{ClusterMembers, fails_in}

-- the members that the code's lists stand for
abbrev pub members_of : MembersParts → ClusterMembers
members_of p = record { nodes = members_state p.nodes; servers = members_state p.servers }

-- each node of the list is declared failed by one of these lines in the phase, behind the position that the list has for it
abbrev pub AreMet : (ScriptCommand → Bool) → BTreeMap ℕ ℕ → List PlayedLine → Type 0
AreMet is_between awaited behind = (n after : ℕ) → tree.get nat_cmp awaited n ≡ Some after → fails_in is_between n after behind ≡ true
