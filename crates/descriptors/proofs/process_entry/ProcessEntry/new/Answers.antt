use Rattle.descriptors.proofs.RowLaws.{slot-none}
use Rattle.descriptors.proofs.process_entry.ProcessEntry.new.Goals as goal

pub returns-clause-opened : goal.returns-clause-opened
returns-clause-opened c = λ fd. slot-none 64 fd
