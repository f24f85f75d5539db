use Rattle.std.proofs.Common.{ℕ}
use Rattle.history_text.specs.declared.rule.Allowed.{Allowed}
use Rattle.history_text.specs.code.Readings.{Adds, AreLives}
use Rattle.history_text.proofs.drops.add_exits.Given as goal

abbrev pub invariant-loop-owner : goal.invariant-loop-owner
invariant-loop-owner l = (allowed : Allowed) (lines : ℕ) → AreLives lines l.owners.lives.items → Adds allowed l.owners.lives.items lines l.fn.file l.file
