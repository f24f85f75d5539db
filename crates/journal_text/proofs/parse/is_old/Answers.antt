use Rattle.journal_text.proofs.FirstLines.{old-no_head}
use Rattle.journal_text.proofs.parse.is_old.Goals as goal

pub returns-in_default-head_of : goal.returns-in_default-head_of
returns-in_default-head_of c = (
  λ says. absurd (cc),
  λ old. absurd (old-no_head c.args.text.now c.in-Some.line.now c.in-Some.field-0-1.now c.in-Some.ensures c.in_default-head_of.ensures old),
)
