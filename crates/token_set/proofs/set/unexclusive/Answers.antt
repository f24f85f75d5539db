use Rattle.std.proofs.Common.{ap, ◌∙◌}
use Rattle.model.specs.declared.level.Level.TheVariants.{Shared}
use Rattle.token_set.specs.code.Sets.{at_exclusive}
use Rattle.token_set.specs.rule.Tokens.{token_of}
use Rattle.token_set.proofs.TokenLaws.{lowered-is}
use Rattle.token_set.proofs.set.unexclusive.Goals as goal

pub returns : goal.returns
returns c =
    let t = token_of c.args.levels.now in
    let s = c.args.span in
    c.in_ok-set_exclusive.ensures ∙ ap (at_exclusive t s Shared) (ap token_of c.in_ok-new.ensures) ∙ lowered-is t s
