use Rattle.std.proofs.Common.{◌≡◌, flat_map, string_bytes, take}
use Rattle.replay.specs.rule.Scripts.{open_line}
use Rattle.replay.proofs.threads.open_lines.Given as goal

abbrev pub invariant-loop-call : goal.invariant-loop-call
invariant-loop-call l = string_bytes l.text ≡ flat_map open_line (take l.call-index l.calls)
