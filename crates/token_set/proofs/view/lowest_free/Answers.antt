use Rattle.std.proofs.Common.{sym, ◌∙◌, arith}
use Rattle.token_set.proofs.TokenLaws.{none-conflicts}
use Rattle.token_set.proofs.ViewLaws.{one-byte}
use Rattle.token_set.proofs.view.lowest_free.Goals as goal

pub returns-then-conflicts : goal.returns-then-conflicts
returns-then-conflicts c = record {
  above = c.requires.order;
  below = omega arith;
  free = λ b from below here. absurd (omega arith);
  full_below = λ b next ge. one-byte _ _ _ b (omega arith) (omega arith) (sym c.conflicts.ensures ∙ c.if-conflicts.true);
}

pub free_around-requires-clause-free : goal.free_around-requires-clause-free
free_around-requires-clause-free c = none-conflicts _ _ _ (sym c.conflicts.ensures ∙ c.if-conflicts.false)
