-- What a list of runs of bytes has at each byte.
use Rattle.std.specs.Prelude.{ℕ, if◌then◌else◌, Option, Some, None, List, [], ◌∷◌}
use Rattle.intervals.specs.declared.byte_run.ByteRun.{ByteRun}
use Rattle.intervals.specs.rule.Bytes.{Range, is_in}

-- the span of a run
abbrev pub bytes_of : {V : Type 0} → ByteRun V → Range
bytes_of r = record { lo = r.lo; hi = r.hi }

-- the value that a list of runs has at byte b: the one of the first run that contains the byte
unfoldable pub value_at : {V : Type 0} → List (ByteRun V) → ℕ → Option V
value_at [] b = None
value_at (r ∷ rest) b = if is_in (bytes_of r) b then Some r.value else value_at rest b
