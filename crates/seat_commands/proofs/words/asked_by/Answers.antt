use Rattle.seat_commands.proofs.Asking.{refusal_is}
use Rattle.seat_commands.proofs.words.asked_by.Goals as goal

pub returns-clause-refused : goal.returns-clause-refused
returns-clause-refused g c = refusal_is _ _ _ c.in-Err.ensures.kind c.of.ensures
