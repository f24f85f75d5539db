use Rattle.std.proofs.Common.{w64, rules, ◌∙◌, sym, ap, subst, FitsSigned}
use Rattle.std.proofs.lemmas.Int.{to_z-of_z}
use Rattle.std.specs.Fmt.{signed_decimal}
use Rattle.std.proofs.lemmas.Fmt.{parse-signed_decimal}
use Rattle.texts.proofs.Outcomes.{err-not_ok}
use Rattle.texts.proofs.Plain.{plain_signed_numeral, signed_is_plain}
use Rattle.texts.specs.rule.Reads.{IsPlainSigned}
use Rattle.texts.proofs.number.offset_of.Goals as goal

pub returns-in-Err : goal.returns-in-Err
returns-in-Err c = λ z fits e.
    err-not_ok c.parse.result _ z c.in-Err.is (parse-signed_decimal w64 z c.args.word.now c.parse.result fits (search rules) e c.parse.ensures.value.0)

pub returns-then-is_plain_signed : goal.returns-then-is_plain_signed
returns-then-is_plain_signed c =
    let read = c.in-Ok.ensures.value.0 in
    let value = to_z-of_z w64 c.in-Ok.offset (subst (FitsSigned w64) (sym read.1) read.0.1) ∙ read.1 in (
      subst (FitsSigned w64) (sym value) read.0.1,
      sym (ap signed_decimal value ∙ plain_signed_numeral c.args.word.now c.if-is_plain_signed.ensures read.0.0 read.0.1),
    )

pub returns-else-is_plain_signed : goal.returns-else-is_plain_signed
returns-else-is_plain_signed c = λ z fits e. c.if-is_plain_signed.ensures (subst IsPlainSigned (sym e) (signed_is_plain z fits))
