use Rattle.std.proofs.Common.{All, List, subst}
use Rattle.messages.specs.rule.Entries.{EntryFields}
use Rattle.messages.specs.rule.Shapes.{IsShape}
use Rattle.journal_text.specs.code.Fits.{FitsEntry}
use Rattle.journal_text.proofs.Limits.{read-run}
use Rattle.journal_text.proofs.laws.each_journal_is_read.Goals as goal

pub returns : goal.returns
returns c =
    let journal = c.args.journal.now in
    let fits = subst (λ (es : List EntryFields). All FitsEntry es) c.entries.ensures.value c.entries_fit.ensures in
    read-run journal.shape journal.entries (subst IsShape c.shape-shape.ensures.value c.shape-shape.ensures.served) c.entries.ensures.few c.entries.ensures.run fits
