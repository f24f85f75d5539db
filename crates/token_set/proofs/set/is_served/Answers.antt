use Rattle.std.proofs.Common.{sym, ◌∙◌}
use Rattle.token_set.proofs.TokenLaws.{covers-put}
use Rattle.token_set.proofs.set.is_served.Goals as goal

pub returns-then-is_within : goal.returns-then-is_within
returns-then-is_within c = λ served t.
    let within = c.is_within.ensures c.if-is_within.true in
    covers-put t c.args.write.now.span c.args.span c.args.write.now.value c.args.mode within.0 within.1 (sym c.serves.ensures ∙ served)
