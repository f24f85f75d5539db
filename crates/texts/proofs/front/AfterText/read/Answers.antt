use Rattle.std.proofs.Common.{ℕ, List, ◌++◌, ap, ◌∙◌}
use Rattle.texts.proofs.Pairs.{reads-after}
use Rattle.texts.proofs.front.AfterText.read.Goals as goal

pub returns-in-Some : goal.returns-in-Some
returns-in-Some g c =
    reads-after g.F.Front.front g.B.Text.text_of g.B.Text.is_served c.args.text.now c.in-Some.rest.now
    (c.in-Some.ensures ∙ ap (λ (front : List ℕ). front ++ c.in-Some.rest.now) c.front_text.ensures) c.read.result c.read.ensures
