use Rattle.std.proofs.Common.{subst}
use Rattle.command_line.specs.rule.Words.{IsRuleOf}
use Rattle.command_line.proofs.Rules.{all_read, none_of, one_more}
use Rattle.command_line.proofs.judge_line.rules_of.Goals as goal

pub returns-in_default : goal.returns-in_default
returns-in_default c = none_of c.args.words.now c.loop-word.word-index _ c.loop-word-test.true (subst (IsRuleOf _) c.in_default.is c.rule_of.ensures)

pub loop-word-preserved : goal.loop-word-preserved
loop-word-preserved c =
    one_more c.args.words.now c.loop-word.word-index _ c.loop-word.rules.items c.push.new.self.items c.in-Some.rule c.loop-word-test.true c.loop-word.invariant (subst (IsRuleOf _) c.in-Some.is c.rule_of.ensures) c.in_ok-push.ensures.items

pub returns : goal.returns
returns c = all_read c.args.words.now c.loop-word.word-index c.loop-word.rules.items c.loop-word-test.false c.loop-word.invariant
