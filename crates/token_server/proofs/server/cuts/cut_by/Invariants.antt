use Rattle.std.proofs.Common.{take}
use Rattle.token_server.specs.rule.Actives.{requests_of}
use Rattle.token_server.specs.code.Edits.{kept}
use Rattle.token_server.proofs.GrantLaws.{IsLeft}
use Rattle.token_server.proofs.server.cuts.cut_by.Given as goal

abbrev pub invariant-loop-other : goal.invariant-loop-other
invariant-loop-other l = IsLeft (requests_of (kept l.draft (take l.other-index l.held))) l.request l.span
