-- The rows of processes, and the processes that they stand for.
use Rattle.std.specs.Prelude.{ℕ, false, List, [], Option, None, slice_index_or}
use Rattle.model.specs.declared.opened.Opened.{Opened}
use Rattle.model.specs.rule.Descriptors.{Processes}
use Rattle.descriptors.specs.declared.process_entry.ProcessEntry.{ProcessEntry}

-- what descriptor fd refers to, in the list of a process's descriptors
abbrev pub slot : List (Option Opened) → ℕ → Option Opened
slot fds fd = slice_index_or fds fd None

-- the row of a process that doesn't run
abbrev pub idle : ProcessEntry
idle = record { runs = false; opened = [] }

-- the row of process pid
abbrev pub row : List ProcessEntry → ℕ → ProcessEntry
row rows pid = slice_index_or rows pid idle

-- the processes that the rows stand for
unfoldable pub processes : List ProcessEntry → Processes
processes rows = record { runs = λ pid. (row rows pid).runs; opened = λ pid fd. slot (row rows pid).opened fd }
