use Rattle.std.proofs.Common.{sym, ◌∙◌}
use Rattle.token_set.proofs.TokenLaws.{raised-free}
use Rattle.token_set.proofs.set.TokenSet.plan_shared.Goals as goal

pub returns : goal.returns
returns c = (rw c.self.view_is at c.in_ok-plan.ensures.written) ∙ raised-free _ _ (sym c.conflicts.ensures ∙ c.if-conflicts.false)
