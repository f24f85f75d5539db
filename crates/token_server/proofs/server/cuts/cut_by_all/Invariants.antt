use Rattle.std.proofs.Common.{take}
use Rattle.token_server.specs.rule.Actives.{requests_of}
use Rattle.token_server.proofs.GrantLaws.{AreCut}
use Rattle.token_server.proofs.server.cuts.cut_by_all.Given as goal

abbrev pub invariant-loop-other : goal.invariant-loop-other
invariant-loop-other l = AreCut l.required l.fn.within (requests_of (take l.other-index l.held)) l.span
