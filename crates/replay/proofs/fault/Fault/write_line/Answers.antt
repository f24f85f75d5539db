use Rattle.std.proofs.Common.{append_assoc, codes}
use Rattle.replay.proofs.fault.Fault.write_line.Goals as goal

pub returns-in-CannotRead : goal.returns-in-CannotRead
returns-in-CannotRead g c =
    rw (c.in-CannotRead.is, append_assoc (codes "cannot read ") c.in-CannotRead.path.now (codes "\n")) c.put_line-in-CannotRead.ensures

pub returns-in-CannotWrite : goal.returns-in-CannotWrite
returns-in-CannotWrite g c =
    rw (c.in-CannotWrite.is, append_assoc (codes "cannot write ") c.in-CannotWrite.path.now (codes "\n")) c.put_line-in-CannotWrite.ensures

pub returns-in-CannotWriteOutput : goal.returns-in-CannotWriteOutput
returns-in-CannotWriteOutput g c = rw c.in-CannotWriteOutput.is c.put_line-in-CannotWriteOutput.ensures

pub returns-in-JournalFull : goal.returns-in-JournalFull
returns-in-JournalFull g c = rw c.in-JournalFull.is c.put_line-in-JournalFull.ensures

pub returns-in-OldJournal : goal.returns-in-OldJournal
returns-in-OldJournal g c = rw c.in-OldJournal.is c.put_line-in-OldJournal.ensures
