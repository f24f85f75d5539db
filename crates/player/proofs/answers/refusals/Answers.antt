use Rattle.std.proofs.Common.{◌≡◌, ◌∙◌, ◌+◌, ◌-◌, ◌<◌, ◌∷◌, ℕ, List, length, drop, get_or, ap, sym, arith}
use Rattle.lockscript.specs.declared.refused_line.RefusedLine.{RefusedLine}
use Rattle.player.specs.rule.Expectations.{refusal_of}
use Rattle.player.proofs.Expectations.{drop_at}
use Rattle.player.proofs.answers.refusals.Goals as goal

pub loop-index-preserved : goal.loop-index-preserved
loop-index-preserved c number =
    let all = c.args.refused.now in
    let n = c.loop-index.index in
    let k = c.loop-index.index - 1 in
    let line : RefusedLine = get_or all k (record { line = 0; code = 0 }) in
    let last : n ≡ k + 1 = omega (arith, c.loop-index-test.true) in
    let within : k < length all = omega (arith, c.loop-index-test.true, c.loop-index.auto.index) in
    let here : drop k all ≡ line ∷ drop n all = drop_at all k (record { line = 0; code = 0 }) within ∙ ap (λ (m : ℕ). line ∷ drop m all) (sym last) in
    c.in_ok-note_refusal.ensures (drop n all) c.loop-index.invariant number ∙ ap (λ (ls : List RefusedLine). refusal_of ls number) (sym here)
