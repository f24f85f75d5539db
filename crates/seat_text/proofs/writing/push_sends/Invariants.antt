use Rattle.std.proofs.Common.{◌≡◌, ◌++◌, flat_map, string_bytes, take}
use Rattle.seat_text.specs.rule.Blocks.{to_line}
use Rattle.seat_text.proofs.writing.push_sends.Given as goal

abbrev pub invariant-loop-message : goal.invariant-loop-message
invariant-loop-message l = string_bytes l.out ≡ string_bytes l.fn.out ++ flat_map to_line (take l.message-index l.messages)
