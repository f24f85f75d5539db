use Rattle.std.proofs.Common.{◌≡◌, ◌+◌, ◌++◌, string_bytes, drop}
use Rattle.messages.specs.declared.version.Version.TheVariants.{Second}
use Rattle.journal_text.specs.rule.Journals.{entries_text}
use Rattle.line_play.proofs.answering.push_entries_behind.Given as goal

abbrev pub invariant-loop-place : goal.invariant-loop-place
invariant-loop-place l = string_bytes l.out ++ entries_text Second (l.place + 1) (drop l.place l.entries) ≡ string_bytes l.fn.out ++ entries_text Second (l.before + 1) (drop l.before l.entries)
