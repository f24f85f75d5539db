use Rattle.std.proofs.Common.{◌≡◌, ◌+◌, ◌++◌, string_bytes, drop}
use Rattle.journal_text.specs.rule.Journals.{entries_text}
use Rattle.journal_text.proofs.journal.push_entries.Given as goal

abbrev pub invariant-loop-entry : goal.invariant-loop-entry
invariant-loop-entry l = record {
  counted : l.position ≡ l.entry-index;
  written : string_bytes l.out ++ entries_text l.version (l.position + 1) (drop l.entry-index l.entries) ≡ string_bytes l.fn.out ++ entries_text l.version 1 l.entries;
}
