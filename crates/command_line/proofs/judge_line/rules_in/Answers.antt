use Rattle.std.proofs.Common.{ap, codes, map, subst, sym, ◌∙◌, List, Option, []}
use Rattle.std.specs.Prelude.{unwrap_or, IfOk}
use Rattle.clap.specs.Words.{Text, found_of}
use Rattle.command_line.specs.rule.Tasks.{rule_text}
use Rattle.command_line.specs.rule.Words.{AreRulesOf}
use Rattle.command_line.proofs.Tables.{no_texts, texts_are}
use Rattle.command_line.proofs.judge_line.rules_in.Goals as goal

pub returns-in-Some : goal.returns-in-Some
returns-in-Some c =
    let texts = texts_are (found_of c.args.values.now) (codes "RULE") c.get_strs.result c.in-Some.words c.get_strs.ensures c.in-Some.is in
    let P : List Text → Type 0 = λ words. IfOk c.rules_of.result (AreRulesOf words) in
    subst P (sym (ap (λ (found : Option (List Text)). unwrap_or found []) texts)) c.rules_of.ensures

pub returns-in-None : goal.returns-in-None
returns-in-None c =
    let none = no_texts (found_of c.args.values.now) (codes "RULE") c.get_strs.result c.get_strs.ensures c.in-None.is in
    ap (λ (found : Option (List Text)). unwrap_or found []) none ∙ ap (map rule_text) (sym c.new.ensures.items)
