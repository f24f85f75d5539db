use Rattle.std.proofs.Common.{ℕ, List, refl, subst}
use Rattle.std.specs.Prelude.{◌&&◌, ◌||◌, is_some, string_bytes}
use Rattle.std.proofs.lemmas.Str.{IsUtf8-string_bytes}
use Rattle.player.specs.rule.Expectations.{breaks_behind}
use Rattle.lockscript.specs.rule.Scripts.{IsScript}
use Rattle.player.specs.code.Rounds.{state_of}
use Rattle.replay.proofs.run.run_of.Goals as goal

pub returns-clause-run : goal.returns-clause-run
returns-clause-run g c =
    let text = string_bytes c.in_ok-text.text in
    let script = c.in_ok-script.script in
    let is = subst (λ (t : List ℕ). IsScript t script) c.as_str.ensures.value c.in_ok-script.ensures.script in
    let breaking = c.args.asked.expect && breaks_behind text script.lines 0 (state_of c.in_ok-played.played) in
    let cut = is_some c.in_ok-played.cut in
    (cut || breaking, (script, c.in_ok-played.cut, (text, c.in_ok-text.ensures.text, IsUtf8-string_bytes c.in_ok-text.text, (is, refl)), c.in_ok-played.ensures.played), c.in_ok-told.ensures breaking (c.in_ok-compared.ensures c.args.asked.expect text script.lines c.in_ok-expecting.ensures))
