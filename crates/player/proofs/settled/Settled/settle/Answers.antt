use Rattle.std.proofs.Common.{◌<◌, ap, refl, ◌∙◌, length, rules, ℕ, Bool}
use Rattle.player.specs.rule.Progress.{with_settled}
use Rattle.player.specs.code.Rounds.{SettledParts}
use Rattle.player.proofs.Marks.{settled-mark, settled-push}
use Rattle.player.proofs.settled.Settled.settle.Goals as goal

pub loop-self-preserved : goal.loop-self-preserved
loop-self-preserved c =
    let at : SettledParts = record { cursor = c.loop-self.self-inside.cursor; marks = c.loop-self.self-inside.marks.items } in
    settled-push at _ refl c.in_ok-push.ensures.items ∙ c.loop-self.invariant

pub returns : goal.returns
returns c =
    let at : SettledParts = record { cursor = c.loop-self.self-inside.cursor; marks = c.loop-self.self-inside.marks.items } in
    let within : c.args.index < length at.marks = search rules in
    settled-mark at _ c.args.index within refl c.mark.ensures ∙ ap (λ (f : ℕ → Bool). with_settled f c.args.index) c.loop-self.invariant
