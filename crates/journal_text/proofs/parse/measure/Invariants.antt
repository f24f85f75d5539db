use Rattle.std.proofs.Common.{length}
use Rattle.journal_text.specs.code.Built.{BuilderFields}
use Rattle.journal_text.proofs.Standing.{Standing}
use Rattle.journal_text.proofs.parse.measure.Given as goal

abbrev pub invariant-loop : goal.invariant-loop
invariant-loop l = (b : BuilderFields) × Standing l.text l.shape l.reader.rest.now l.reader.taken l.reader.place b

abbrev pub decreases-loop : goal.decreases-loop
decreases-loop l = length l.reader.rest.now
