use Rattle.std.specs.Prelude.{◌≡◌, Bool, true, false}
use Rattle.std.proofs.Common.{refl, ◌∙◌}
use Rattle.intervals.specs.rule.Bytes.{put}
use Rattle.token_set.specs.rule.Tokens.{conflicts}
use Rattle.token_set.specs.rule.Tokens.{token_of}
use Rattle.token_set.proofs.ViewLaws.{within-way, below-way, above-way, found, parts-free}
use Rattle.token_set.proofs.view.conflicts_with.Goals as goal

pub returns-then-conflicts_within : goal.returns-then-conflicts_within
returns-then-conflicts_within c =
    let t = token_of c.args.token.now in
    let x = c.conflicts_within.ensures.some c.if-conflicts_within.true in
    found t c.args.over c.args.level c.args.mode c.args.span x.0 x.3 x.4 (within-way t c.args.over c.args.level c.args.mode x.0 x.1 x.2 x.5)

pub returns-then-conflicts_below : goal.returns-then-conflicts_below
returns-then-conflicts_below c =
    let t = token_of c.args.token.now in
    let x = c.conflicts_below.ensures.some c.if-conflicts_below.true in
    found t c.args.over c.args.level c.args.mode c.args.span x.0 x.2 x.3 (below-way t c.args.over c.args.level c.args.mode x.0 x.1 x.4)

pub returns : goal.returns
returns c = by c.conflicts_above.result refl
  where
    by : (yes : Bool) → c.conflicts_above.result ≡ yes → c.conflicts_above.result ≡ conflicts (put (token_of c.args.token.now) c.args.over c.args.level) c.args.span c.args.mode
    by true is =
        let t = token_of c.args.token.now in
        let x = c.conflicts_above.ensures.some is in
        is ∙ found t c.args.over c.args.level c.args.mode c.args.span x.0 x.2 x.3 (above-way t c.args.over c.args.level c.args.mode x.0 x.1 x.4)
    by false is =
        let t = token_of c.args.token.now in
        is ∙ parts-free t c.args.over c.args.level c.args.mode c.args.span (c.conflicts_within.ensures.none c.if-conflicts_within.false) (c.conflicts_below.ensures.none c.if-conflicts_below.false) (c.conflicts_above.ensures.none is)
