use Rattle.std.proofs.Common.{◌∙◌, sym, ap, subst, arith, decimal}
use Rattle.texts.specs.rule.Reads.{IsPlain}
use Rattle.std.proofs.lemmas.Fmt.{parse-decimal}
use Rattle.texts.proofs.Outcomes.{err-not_ok}
use Rattle.texts.proofs.Plain.{plain_numeral, decimal_is_plain}
use Rattle.texts.proofs.number.natural_of.Goals as goal

pub returns-in-Err : goal.returns-in-Err
returns-in-Err c = λ n small e.
    err-not_ok c.parse.result _ n c.in-Err.is (parse-decimal 64 n c.args.word.now c.parse.result small small e c.parse.ensures.value.0)

pub returns-then-is_plain : goal.returns-then-is_plain
returns-then-is_plain c =
    let read = c.in-Ok.ensures.value.0 in (
      omega (arith, read),
      sym (ap decimal read.1 ∙ plain_numeral c.args.word.now c.if-is_plain.ensures read.0.0 read.0.1),
    )

pub returns-else-is_plain : goal.returns-else-is_plain
returns-else-is_plain c = λ n small e. c.if-is_plain.ensures (subst IsPlain (sym e) (decimal_is_plain n small))
