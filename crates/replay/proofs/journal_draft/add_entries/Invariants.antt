use Rattle.std.proofs.Common.{◌≡◌, ◌+◌, drop}
use Rattle.journal_text.specs.rule.Journals.{entries_text}
use Rattle.replay.proofs.Drafts.{Lacks}
use Rattle.replay.proofs.journal_draft.add_entries.Given as goal

abbrev pub invariant-loop-entry : goal.invariant-loop-entry
invariant-loop-entry g l = record {
  counted : l.position ≡ l.entry-index;
  text : Lacks (g.D.FileDraft.has l.fn.draft) (g.D.FileDraft.has l.draft) (entries_text l.version 1 l.entries) (entries_text l.version (l.position + 1) (drop l.entry-index l.entries));
}
