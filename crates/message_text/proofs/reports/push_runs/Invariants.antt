use Rattle.std.proofs.Common.{◌≡◌, ◌++◌, ◌∷◌, string_bytes, decimal, take, length}
use Rattle.std.specs.List.{flat_map}
use Rattle.texts.specs.rule.Layout.{space}
use Rattle.message_text.specs.rule.Texts.{run_text}
use Rattle.message_text.proofs.reports.push_runs.Given as goal

abbrev pub invariant-loop-run : goal.invariant-loop-run
invariant-loop-run l = string_bytes l.out ≡ string_bytes l.fn.out ++ decimal (length l.runs) ++ flat_map (λ r. space ∷ run_text r) (take l.run-index l.runs)
