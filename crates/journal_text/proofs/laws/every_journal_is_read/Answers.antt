use Rattle.journal_text.proofs.Printed.{read-printed}
use Rattle.journal_text.proofs.laws.every_journal_is_read.Goals as goal

pub returns : goal.returns
returns c = read-printed
