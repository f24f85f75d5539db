use Rattle.std.proofs.Common.{◌≡◌, ◌∙◌, ◌+◌, ◌-◌, ◌<◌, ℕ, List, ◌∷◌, length, drop, ap, sym, arith}
use Rattle.messages.specs.rule.Entries.{EntryFields}
use Rattle.player.specs.rule.Expectations.{reply_answer}
use Rattle.player.proofs.Expectations.{drop_here}
use Rattle.player.proofs.answers.replies.Goals as goal

pub loop-index-preserved : goal.loop-index-preserved
loop-index-preserved c call =
    let es = c.args.entries.now in
    let n = c.loop-index.index in
    let k = c.loop-index.index - 1 in
    let e = c.index-entries-index.result in
    let last : n ≡ k + 1 = omega (arith, c.loop-index-test.true) in
    let within : k < length es = omega (arith, c.loop-index-test.true, c.loop-index.auto.index) in
    let here : drop k es ≡ e ∷ drop n es = drop_here es k e within c.index-entries-index.is ∙ ap (λ (m : ℕ). e ∷ drop m es) (sym last) in
    c.in_ok-note_reply.ensures (drop n es) c.loop-index.invariant call ∙ ap (λ (ds : List EntryFields). reply_answer call ds) (sym here)
