use Rattle.std.proofs.Common.{◌≡◌, [], length}
use Rattle.journal_text.specs.code.Built.{BuilderFields}
use Rattle.journal_text.proofs.Standing.{Standing}
use Rattle.journal_text.proofs.parse.read_each.Given as goal

abbrev pub invariant-loop-builder : goal.invariant-loop-builder
invariant-loop-builder g l = (b : BuilderFields) × Standing l.text l.shape l.reader.rest.now l.reader.taken l.reader.place b × (b.last ≡ l.builder) × (g.K.Sink.took l.fn.sink l.shape [] → g.K.Sink.took l.sink l.shape b.entries)

abbrev pub decreases-loop-builder : goal.decreases-loop-builder
decreases-loop-builder g l = length l.reader.rest.now
