use Rattle.std.specs.Cmp.{both_ways as same_tests}
use Rattle.token_set.proofs.TokenLaws.{covers-read, read-covers, covers-write, write-covers}
use Rattle.token_set.proofs.set.TokenSet.covers.Goals as goal

pub returns-in-Read : goal.returns-in-Read
returns-in-Read c = rw (← c.self.view_is, c.in-Read.is) (same_tests _ _
    (λ all. covers-read _ _ (c.has_levels.ensures.0 all))
    (λ all. c.has_levels.ensures.1 (read-covers _ _ all)))

pub returns-in-Write : goal.returns-in-Write
returns-in-Write c = rw (← c.self.view_is, c.in-Write.is) (same_tests _ _
    (λ all. covers-write _ _ (c.covers.ensures.0 all))
    (λ all. c.covers.ensures.1 (write-covers _ _ all)))
