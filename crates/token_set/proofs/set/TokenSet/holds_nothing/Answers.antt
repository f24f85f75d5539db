use Rattle.std.specs.Cmp.{both_ways as same_tests}
use Rattle.token_set.proofs.TokenLaws.{holds_nothing-no_token, no_token-from}
use Rattle.token_set.proofs.set.TokenSet.holds_nothing.Goals as goal

pub returns : goal.returns
returns c = rw (← c.self.view_is) (same_tests _ _
    (λ empty. holds_nothing-no_token _ (c.is_empty.ensures.empty.0 empty))
    (λ nothing. c.is_empty.ensures.empty.1 (no_token-from _ nothing c.is_empty.ensures.bounded)))
