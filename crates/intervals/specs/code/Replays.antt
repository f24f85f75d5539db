-- What a list of writes makes of a map.
use Rattle.std.specs.Prelude.{ℕ, Option, List, [], ◌∷◌}
use Rattle.intervals.specs.declared.replay.SpanWrite.{SpanWrite}
use Rattle.intervals.specs.rule.Bytes.{put, nothing}

-- the function f after the writes, in order
abbrev pub replayed_on : {V : Type 0} → (ℕ → Option V) → List (SpanWrite V) → ℕ → Option V
replayed_on f [] = f
replayed_on f (c ∷ commands) = replayed_on (put f c.span c.value) commands

-- the function that the writes make, in order, of one without values
abbrev pub replayed : {V : Type 0} → List (SpanWrite V) → ℕ → Option V
replayed commands = replayed_on nothing commands
