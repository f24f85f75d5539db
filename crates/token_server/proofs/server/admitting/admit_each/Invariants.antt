use Rattle.std.proofs.Common.{◌++◌, take}
use Rattle.token_server.specs.code.Admissions.{IsAdmitted}
use Rattle.token_server.specs.code.Edits.{served_on, left_in}
use Rattle.token_server.proofs.server.admitting.admit_each.Given as goal

abbrev pub invariant-loop-place : goal.invariant-loop-place
invariant-loop-place l = IsAdmitted (served_on l.gone l.held) (left_in l.gone l.front ++ left_in l.gone (take l.place l.slots)) l.fresh.items
