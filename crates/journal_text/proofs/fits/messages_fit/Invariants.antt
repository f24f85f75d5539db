use Rattle.std.proofs.Common.{All, take}
use Rattle.journal_text.specs.code.Fits.{FitsMessage}
use Rattle.journal_text.proofs.fits.messages_fit.Given as goal

abbrev pub invariant-loop-message : goal.invariant-loop-message
invariant-loop-message l = All FitsMessage (take l.message-index l.messages)
