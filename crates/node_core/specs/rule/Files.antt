-- What the rows of a node say of its files.
use Rattle.std.specs.Prelude.{ℕ, zero, suc, List, Option, Some, None}
use Rattle.std.specs.List.{slice_get}
use Rattle.token_set.specs.rule.Tokens.{token_of}
use Rattle.node_core.specs.declared.file_row.FileRow.{FileRow}
use Rattle.node_core.specs.rule.Answers.{answer_of}
use Rattle.node_core.specs.rule.State.{FileState, first_file}

-- what a row says of its file
abbrev pub state_of : FileRow → FileState
state_of r = record { token = token_of r.token; last = r.last; answer = answer_of r.answer; owes_freed = r.owes_freed }

abbrev pub state_or : Option FileRow → FileState
state_or None = first_file
state_or (Some r) = state_of r

-- what the rows say of each file; the first row is of file 1
unfoldable pub file_state : List FileRow → ℕ → FileState
file_state rows zero = first_file
file_state rows (suc file) = state_or (slice_get rows file)
