-- The blocks before `rest` lead to the list.
use Rattle.std.proofs.Common.{◌≡◌, ℕ, List, ◌++◌}
use Rattle.seat_commands.specs.declared.change_list.NotedChange.{NotedChange}
use Rattle.seat_commands.specs.rule.Changes.{list_state}
use Rattle.seat_commands.specs.rule.ListFiles.{Leads}
use Rattle.seat_commands.proofs.read_back.read_blocks.Given as goal

abbrev pub invariant-loop : goal.invariant-loop
invariant-loop l =
    (changes : List NotedChange) × (done : List ℕ) × (l.initial.rest ≡ done ++ l.rest)
    × Leads (list_state l.fn.read.list) l.fn.read.last changes (list_state l.read.list) l.read.last done
