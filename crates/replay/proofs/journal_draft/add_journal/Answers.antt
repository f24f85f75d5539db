use Rattle.std.proofs.Common.{◌∙◌, ap, length, List}
use Rattle.std.proofs.lemmas.Result.{on_ok_weaker}
use Rattle.messages.specs.declared.entry.Entry.{Entry}
use Rattle.messages.specs.rule.Shapes.{ShapeFields}
use Rattle.replay.proofs.Drafts.{journal_added}
use Rattle.replay.proofs.journal_draft.add_journal.Goals as goal

pub returns : goal.returns
returns g c =
    let has = g.D.FileDraft.has in
    let shape = c.shape-shape.ensures.value in
    let version = c.version.ensures ∙ ap (λ (s : ShapeFields). s.version) shape in
    let entries = c.entries-entries.ensures.value in
    let count = ap (λ (es : List Entry). length es) entries in
    on_ok_weaker c.add_end.result (λ last. journal_added (has c.args.draft.now) (has c.add_head.new.draft) (has c.add_entries.new.draft) (has c.add_end.new.draft) c.args.journal.shape _ _ c.args.journal.entries _ _ shape version entries count c.in_ok-add_head.ensures c.in_ok-add_entries.ensures last) c.add_end.ensures
