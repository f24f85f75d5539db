-- The bytes that a lock call names by START and LEN.
use Rattle.std.specs.Prelude.{ℕ, zero, suc, ◌+◌, ◌-◌, ℤ, pos, negsuc, nat_le, if◌then◌else◌, Result, Ok, Err}
use Rattle.intervals.specs.rule.Bytes.{Range, greatest}
use Rattle.intervals.specs.declared.span.SpanError.{SpanError}
use Rattle.intervals.specs.declared.span.SpanError.TheVariants.{Invalid, Overflow}

-- the span from lo to hi; Overflow where hi is past the greatest offset
abbrev pub up_to : ℕ → ℕ → Result Range SpanError
up_to lo hi = if nat_le hi greatest then Ok (record { lo = lo; hi = hi }) else Err Overflow

-- POSIX.1-2017 fcntl(), l_start, l_len: LEN bytes from START; 0: all from START; LEN < 0: those before START. START < 0 is Invalid by this project's choice
abbrev pub seg : ℤ → ℤ → Result Range SpanError
seg (negsuc s) len = Err Invalid
seg (pos s) (pos zero) = if nat_le s greatest then Ok (record { lo = s; hi = greatest }) else Err Overflow
seg (pos s) (pos (suc n)) = up_to s (s + n)
seg (pos s) (negsuc n) = if nat_le (suc n) s then up_to (s - suc n) (s - 1) else Err Invalid
