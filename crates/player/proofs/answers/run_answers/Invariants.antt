use Rattle.std.proofs.Common.{◌≡◌, ◌++◌, ℕ, [], drop, take}
use Rattle.player.specs.rule.Expectations.{answers_behind, taken}
use Rattle.player.specs.code.Answers.{list_in}
use Rattle.player.proofs.answers.run_answers.Given as goal

abbrev pub invariant-loop-line : goal.invariant-loop-line
invariant-loop-line l = record {
  known : (node pid : ℕ) → list_in l.taken node pid ≡ taken l.refused node pid (take l.line-index l.lines);
  answered : l.answers.items ++ answers_behind (take l.line-index l.lines) (drop l.line-index l.lines) l.refused l.entries ≡ answers_behind [] l.lines l.refused l.entries;
}
