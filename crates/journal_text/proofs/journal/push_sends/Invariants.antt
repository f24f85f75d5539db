use Rattle.std.proofs.Common.{◌≡◌, ◌++◌, flat_map, string_bytes, take}
use Rattle.journal_text.specs.rule.Journals.{send_line}
use Rattle.journal_text.proofs.journal.push_sends.Given as goal

abbrev pub invariant-loop-message : goal.invariant-loop-message
invariant-loop-message l = string_bytes l.out ≡ string_bytes l.fn.out ++ flat_map (send_line l.version) (take l.message-index l.sends)
