use Rattle.std.proofs.Common.{All, List, subst}
use Rattle.std.proofs.lemmas.List.{take_all}
use Rattle.std.proofs.lemmas.List.Elements.{All-more}
use Rattle.messages.specs.rule.Entries.{EntryFields}
use Rattle.journal_text.specs.code.Fits.{FitsEntry}
use Rattle.journal_text.proofs.fits.entries_fit.Goals as goal

pub loop-entry-preserved : goal.loop-entry-preserved
loop-entry-preserved c =
    let entry = c.entry-item.result in
    All-more FitsEntry c.args.entries.now c.loop-entry.entry-index entry c.loop-entry-test.true c.loop-entry.invariant (subst (λ (e : EntryFields). FitsEntry e) c.entry-item.is c.entry_fits.ensures)

pub returns : goal.returns
returns c =
    subst (λ (es : List EntryFields). All FitsEntry es) (take_all c.loop-entry.entry-index c.args.entries.now c.loop-entry-test.false) c.loop-entry.invariant
