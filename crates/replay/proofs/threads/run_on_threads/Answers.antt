use Rattle.std.proofs.Common.{Err, ap, sym, ◌∙◌}
use Rattle.std.proofs.lemmas.Option.{none-some}
use Rattle.replay.proofs.threads.run_on_threads.Goals as goal

pub unreachable-requires : goal.unreachable-requires
unreachable-requires g c =
    let told = c.run_threads.ensures.bad_line c.in-Err-BadLine.field-0-0 in
    none-some c.in-Err-BadLine.field-0-0 (sym c.requires ∙ told.0 (c.in-Err-BadLine.is ∙ ap Err c.in-Err-BadLine.field-0-is))

pub returns-in-Err-JournalFull-clause-full : goal.returns-in-Err-JournalFull-clause-full
returns-in-Err-JournalFull-clause-full g c = λ full.
    let journal = c.in-Err-JournalFull.field-0-0 in
    (journal, c.run_threads.ensures.full journal (c.in-Err-JournalFull.is ∙ ap Err c.in-Err-JournalFull.field-0-is))
