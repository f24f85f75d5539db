use Rattle.std.proofs.Common.{Some, ap, ◌∙◌}
use Rattle.intervals.specs.rule.Bytes.{put}
use Rattle.model.specs.declared.level.Level.TheVariants.{Shared, Exclusive}
use Rattle.token_set.specs.code.Sets.{at_exclusive}
use Rattle.token_set.specs.rule.Tokens.{token_of}
use Rattle.token_set.proofs.TokenLaws.{raised-is}
use Rattle.token_set.proofs.set.shared.Goals as goal

pub returns : goal.returns
returns c =
    let t = token_of c.args.levels.now in
    let s = c.args.span in
    c.in_ok-set_exclusive.ensures ∙ ap (at_exclusive t s Exclusive) (c.in_ok-set.ensures.ok ∙ ap (λ levels. put (token_of levels) s (Some Shared)) c.in_ok-new.ensures) ∙ raised-is t s
