use Rattle.std.proofs.Common.{rules, arith, true, subst, ◌≡◌}
use Rattle.std.specs.Prelude.{All}
use Rattle.std.proofs.lemmas.List.{take_all}
use Rattle.std.proofs.lemmas.List.Elements.{All-more}
use Rattle.history_text.specs.rule.Judgements.{IsExplained}
use Rattle.history_text.proofs.orders.first_unexplained.Goals as goal

pub loop-file-preserved : goal.loop-file-preserved
loop-file-preserved c = λ clock.
    let given : c.in_ok-is_explained.field-0 ≡ true = search rules in
    let here = c.in_ok-is_explained.ensures given clock in
    All-more IsExplained c.args.history.now.files.items c.loop-file.file c.index.result.now (omega (arith, c.loop-file-test.true, c.len-file-end.ensures)) (c.loop-file.invariant clock) (subst IsExplained c.index.ensures here)

pub returns : goal.returns
returns c = λ none clock.
    let files = c.args.history.now.files.items in
    subst (All IsExplained) (take_all c.loop-file.file files (omega (arith, c.loop-file-test.false, c.len-file-end.ensures))) (c.loop-file.invariant clock)
