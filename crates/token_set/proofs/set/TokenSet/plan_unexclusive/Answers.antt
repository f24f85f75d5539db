use Rattle.std.proofs.Common.{sym, ◌∙◌}
use Rattle.token_set.proofs.TokenLaws.{lowered-free, lowered-all}
use Rattle.token_set.proofs.set.TokenSet.plan_unexclusive.Goals as goal

pub returns-then-covers : goal.returns-then-covers
returns-then-covers c =
    (rw c.self.view_is at c.in_ok-plan.ensures.written) ∙ lowered-all _ _ (rw c.self.view_is at c.covers.ensures.0 c.if-covers.true)

pub returns-then-not-conflicts : goal.returns-then-not-conflicts
returns-then-not-conflicts c = lowered-free _ _ (sym c.conflicts.ensures ∙ c.if-not-conflicts.true)
