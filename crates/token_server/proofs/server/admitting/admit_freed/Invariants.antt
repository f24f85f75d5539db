use Rattle.std.specs.Prelude.{Some}
use Rattle.std.proofs.Common.{take}
use Rattle.token_server.specs.rule.Requests.{requests_in}
use Rattle.token_server.specs.rule.Actives.{requests_of}
use Rattle.token_server.specs.code.Admissions.{IsAdmitted}
use Rattle.token_server.specs.code.Edits.{still_active}
use Rattle.token_server.proofs.server.admitting.admit_freed.Given as goal

abbrev pub invariant-loop-place : goal.invariant-loop-place
invariant-loop-place l = IsAdmitted (still_active (Some l.call) (requests_of l.held)) (requests_in (take l.place l.slots)) l.fresh.items
