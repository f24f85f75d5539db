use Rattle.std.proofs.Common.{sym, arith}
use Rattle.std.proofs.lemmas.Bool.{both_ways}
use Rattle.token_set.proofs.TokenLaws.{largest_around-is, largest_around-free, largest-conflicts}
use Rattle.token_set.proofs.set.TokenSet.free_around.Goals as goal

pub returns-clause-largest : goal.returns-clause-largest
returns-clause-largest c =
    rw (← c.self.view_is) (largest-conflicts _ c.args.mode _ _ _ (rw c.bar_of.ensures at c.largest_around.ensures))

pub returns-clause-value : goal.returns-clause-value
returns-clause-value c = largest_around-is _ _ _ _ (omega (arith, c.required.invariant)) (returns-clause-largest c)

pub returns-then-excludes_none-clause-value : goal.returns-then-excludes_none-clause-value
returns-then-excludes_none-clause-value c =
    sym (largest_around-free _ _ _ (omega (arith, c.required.invariant)) c.requires.starts_within c.requires.ends_within (λ b above below yes. both_ways _ (c.excludes_none.ensures c.if-excludes_none.true b) yes))
