use Rattle.std.proofs.Common.{length, ap, ◌∙◌, arith}
use Rattle.intervals.specs.code.Runs.{begins_at}
use Rattle.intervals.proofs.part.Part.write.Goals as goal

pub write-requires-clause-room : goal.write-requires-clause-room
write-requires-clause-room g c = let same = ap length c.self.view_is in omega (arith, same, c.requires.room)

pub write-requires-clause-runs : goal.write-requires-clause-runs
write-requires-clause-runs g c = rw c.self.view_is c.requires.runs

pub write-requires-clause-bounded : goal.write-requires-clause-bounded
write-requires-clause-bounded g c = rw c.self.view_is c.requires.bounded

pub invariant_of-self : goal.invariant_of-self
invariant_of-self g c = c.first_of-self-inside.ensures ∙ ap begins_at c.deref.ensures.value

pub returns-clause-bytes : goal.returns-clause-bytes
returns-clause-bytes g c b = rw (← c.self.view_is) (c.write.ensures.bytes b)
