use Rattle.std.proofs.Common.{◌≡◌, ◌++◌, flat_map, string_bytes, take}
use Rattle.line_play.specs.rule.Answers.{refused_line}
use Rattle.line_play.proofs.answering.push_refusals.Given as goal

abbrev pub invariant-loop-code : goal.invariant-loop-code
invariant-loop-code l = string_bytes l.out ≡ string_bytes l.fn.out ++ flat_map refused_line (take l.code-index l.refused)
