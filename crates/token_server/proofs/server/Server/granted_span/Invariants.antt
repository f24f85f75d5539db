use Rattle.token_server.specs.code.Edits.{with_told, drafted}
use Rattle.token_server.proofs.GrantLaws.{IsNarrowed}
use Rattle.token_server.proofs.server.Server.granted_span.Given as goal

abbrev pub invariant-loop-place : goal.invariant-loop-place
invariant-loop-place l = IsNarrowed (with_told l.told (drafted l.self l.draft)) l.request l.place l.span
