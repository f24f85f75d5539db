use Rattle.std.proofs.Common.{sym, ◌∙◌}
use Rattle.std.proofs.lemmas.Bool.{both_ways}
use Rattle.token_set.proofs.TokenLaws.{conflicts-none, conflicts-found}
use Rattle.token_set.proofs.set.TokenSet.conflicts.Goals as goal

pub returns : goal.returns
returns c = rw (← c.self.view_is) (c.is_some.ensures ∙ conflicts-found _ _ _ _ (rw c.bar_of.ensures at c.first_where.ensures))

pub returns-then-excludes_none : goal.returns-then-excludes_none
returns-then-excludes_none c = sym (conflicts-none _ _ _ (λ b above below yes. both_ways _ (c.excludes_none.ensures c.if-excludes_none.true b) yes))
