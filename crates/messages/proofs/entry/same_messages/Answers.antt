use Rattle.std.proofs.lemmas.Slice.Eq.{slice_eq-Decides}
use Rattle.messages.proofs.SameMessages.{message_eq-Decides}
use Rattle.messages.proofs.entry.same_messages.Goals as goal

pub returns : goal.returns
returns c = slice_eq-Decides message_eq-Decides _ _ _ c.eq.ensures
