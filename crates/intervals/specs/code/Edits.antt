-- What a planned write makes of a map.
use Rattle.std.specs.Prelude.{ℕ, nat_le, if◌then◌else◌, List, length, Option}
use Rattle.intervals.specs.declared.byte_run.ByteRun.{ByteRun}
use Rattle.intervals.specs.declared.span_edit.SpanEdit.{SpanEdit}
use Rattle.intervals.specs.rule.Bytes.{put}
use Rattle.intervals.specs.rule.Runs.{value_at}

-- the value of each byte after a planned write; a map of more runs than the edit holds memory for stays as it is
abbrev pub written : {V : Type 0} → SpanEdit V → List (ByteRun V) → ℕ → Option V
written e runs = if nat_le (length runs) e.runs then put (value_at runs) e.span e.value else value_at runs
