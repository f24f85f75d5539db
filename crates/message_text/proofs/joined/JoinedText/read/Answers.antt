use Rattle.texts.proofs.Pairs.{reads-joined, reads-joined_none}
use Rattle.message_text.proofs.joined.JoinedText.read.Goals as goal

pub returns-in-None : goal.returns-in-None
returns-in-None g c =
    reads-joined_none g.M.Separator.mark g.A.Text.text_of g.B.Text.text_of g.A.Text.is_served g.B.Text.is_served c.args.text.now (λ x fits. c.are_digits.ensures x fits g.M.Separator.mark c.split_mark.ensures.no_digit) c.in-None.ensures.parts

pub returns-in-Some : goal.returns-in-Some
returns-in-Some g c =
    rw c.zip.ensures (reads-joined g.M.Separator.mark g.A.Text.text_of g.B.Text.text_of g.A.Text.is_served g.B.Text.is_served c.args.text.now c.in-Some.first.now c.in-Some.rest.now (λ x fits. c.are_digits.ensures x fits g.M.Separator.mark c.split_mark.ensures.no_digit) c.in-Some.ensures.parts.0 c.in-Some.ensures.parts.1 c.read.result c.read-in-Some.result c.read.ensures c.read-in-Some.ensures)
