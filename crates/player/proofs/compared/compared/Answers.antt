use Rattle.std.proofs.Common.{rules, ◌≡◌, ℕ, Bool, List, ◌+◌, drop, ap, ap₂, sym, ◌∙◌}
use Rattle.std.specs.Prelude.{◌||◌, slice_get}
use Rattle.player.specs.rule.Expectations.{breaks_from, expected, is_broken_at}
use Rattle.player.proofs.Expectations.{drop_here, or-over}
use Rattle.player.proofs.compared.compared.Goals as goal

pub loop-line-preserved : goal.loop-line-preserved
loop-line-preserved c =
    let text = c.args.text.now in
    let lines = c.args.lines.now in
    let answers = c.in_ok-answers.answers.items in
    let k = c.loop-line.line-index in
    let index = c.loop-line.index in
    let l = c.line-item.result in
    let known = c.loop-line.breaks in
    let here = c.in_ok-is_broken.is_broken in
    let later = breaks_from text answers (index + 1) (drop (k + 1) lines) in
    let inv = c.loop-line.invariant in
    let broken : here ≡ is_broken_at (expected text l) (slice_get answers index) =
    c.in_ok-is_broken.ensures.broken ∙ ap₂ is_broken_at (ap (λ (t : List ℕ). expected t l) inv.read) (search rules) in
    let before : breaks_from text answers index (drop k lines) ≡ (here || later) =
    ap (breaks_from text answers index) (drop_here lines k l c.loop-line-test.true c.line-item.is) ∙ ap (λ (b : Bool). b || later) (sym broken) in
    record {
      counted = search rules;
      read = search rules;
      same = ap (λ (b : Bool). b || later) c.is_either-breaks.ensures ∙ or-over known here later ∙ ap (λ (b : Bool). known || b) (sym before) ∙ inv.same;
    }
