use Rattle.std.proofs.Common.{All, take}
use Rattle.journal_text.specs.code.Fits.{FitsEntry}
use Rattle.journal_text.proofs.fits.entries_fit.Given as goal

abbrev pub invariant-loop-entry : goal.invariant-loop-entry
invariant-loop-entry l = All FitsEntry (take l.entry-index l.entries)
