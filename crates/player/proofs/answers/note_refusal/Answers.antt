use Rattle.std.proofs.Common.{◌∙◌, ℕ, ◌==◌, Some, ap, cond}
use Rattle.std.specs.Prelude.{nat_eq}
use Rattle.std.specs.HashMap.{get}
use Rattle.player.proofs.Expectations.{refusal-more}
use Rattle.player.proofs.answers.note_refusal.Goals as goal

pub returns : goal.returns
returns c behind knows number =
    c.in_ok-insert.ensures.updates.0 number
    ∙ ap (λ (n : ℕ). cond (n == number) (Some c.args.line.now.code) (get nat_eq c.args.refusals.now number)) c.from.ensures
    ∙ refusal-more c.args.line.now behind number _ (knows number)
