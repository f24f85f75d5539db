use Rattle.history_text.proofs.OwnerLaws.{learns_both}
use Rattle.history_text.proofs.known_names.KnownNames.next_call.Goals as goal

pub next_deed-requires-clause-sound : goal.next_deed-requires-clause-sound
next_deed-requires-clause-sound c = (c.in_ok-owner.ensures.learns 0).sound

pub returns-in-Ok-clause-learns : goal.returns-in-Ok-clause-learns
returns-in-Ok-clause-learns c = learns_both c.args.line c.args.self.now c.caller.new.self c.next_deed.new.self (c.in_ok-owner.ensures.learns c.args.line) c.in-Ok.ensures.learns
