use Rattle.std.proofs.Common.{ap, ◌∙◌}
use Rattle.intervals.specs.rule.Bytes.{whole}
use Rattle.model.specs.declared.mode.Mode.TheVariants.{Read}
use Rattle.token_set.specs.declared.edit.TokenEdit.{TokenEdit}
use Rattle.token_set.specs.rule.Tokens.{conflicts}
use Rattle.token_set.specs.code.Edits.{edited}
use Rattle.token_set.proofs.ViewLaws.{written-unexclusive}
use Rattle.token_set.proofs.edit.TokenEdit.may_exclude.Goals as goal

pub returns-in-Write : goal.returns-in-Write
returns-in-Write c = λ free levels none.
    ap (λ (e : TokenEdit). conflicts (edited e levels) whole Read) c.in-Write.is
    ∙ written-unexclusive c.in-Write.write levels (c.is_exclusive.ensures free) none
