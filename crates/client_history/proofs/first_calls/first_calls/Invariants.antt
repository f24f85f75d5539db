use Rattle.lock_table.specs.rule.Tables.{held}
use Rattle.client_history.proofs.SetLaws.{Below, MayBeFirst}
use Rattle.client_history.proofs.first_calls.first_calls.Given as goal

abbrev pub invariant-loop-call : goal.invariant-loop-call
invariant-loop-call l = Below (MayBeFirst (held l.table) l.«open» l.taken l.first.items) l.call-items l.call-index
