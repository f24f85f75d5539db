use Rattle.std.proofs.Common.{ℕ, List, ap, inr, length, subst}
use Rattle.std.specs.Prelude.{◌&&◌, ◌||◌, is_some, string_bytes}
use Rattle.std.proofs.lemmas.Result.{err_from_is_err_and}
use Rattle.std.proofs.lemmas.Str.{IsUtf8-string_bytes}
use Rattle.player.specs.rule.Expectations.{breaks_behind}
use Rattle.lockscript.specs.rule.ShapedScripts.{IsForShape}
use Rattle.messages.specs.rule.Entries.{EntryFields}
use Rattle.messages.specs.rule.Shapes.{ShapeFields}
use Rattle.player.specs.code.Rounds.{state_of}
use Rattle.replay.proofs.run.run_behind_of.Goals as goal

pub returns-clause-run : goal.returns-clause-run
returns-clause-run g c =
    let text = string_bytes c.in_ok-text.text in
    let script = c.in_ok-script.script in
    let state = state_of c.in_ok-played.played in
    let read = subst (λ (t : List ℕ). IsForShape c.shape.result t script) c.as_str.ensures.value c.in_ok-script.ensures.script in
    let is = subst (λ (s : ShapeFields). IsForShape s text script) c.shape.ensures.value read in
    let many = ap (λ (es : List EntryFields). length es) c.entries-earlier.ensures.value in
    let breaking = c.args.asked.expect && breaks_behind text script.lines (length c.entries-earlier.result.now) state in
    let cut = is_some c.in_ok-played.cut in
    let same = ap (λ (n : ℕ). cut || (c.args.asked.expect && breaks_behind text script.lines n state)) many in
    (cut || breaking, (script, c.in_ok-played.cut, (text, c.in_ok-text.ensures.text, IsUtf8-string_bytes c.in_ok-text.text, (is, same)), c.in_ok-played.ensures.played), c.in_ok-told.ensures breaking (c.in_ok-compared.ensures c.args.asked.expect text script.lines c.in_ok-expecting.ensures))

pub returns-in_err-told-clause-fault : goal.returns-in_err-told-clause-fault
returns-in_err-told-clause-fault g c =
    let p = err_from_is_err_and c.from_residual-in_err-told.result c.from_residual-in_err-told.ensures.1 in
    let text = string_bytes c.in_ok-text.text in
    let script = c.in_ok-script.script in
    let read = subst (λ (t : List ℕ). IsForShape c.shape.result t script) c.as_str.ensures.value c.in_ok-script.ensures.script in
    let is = subst (λ (s : ShapeFields). IsForShape s text script) c.shape.ensures.value read in
    rw (p.1, p.2) (inr (script, (text, c.in_ok-text.ensures.text, IsUtf8-string_bytes c.in_ok-text.text, is)))

pub returns-in_err-compared-clause-fault : goal.returns-in_err-compared-clause-fault
returns-in_err-compared-clause-fault g c =
    let p = err_from_is_err_and c.from_residual-in_err-compared.result c.from_residual-in_err-compared.ensures.1 in
    let text = string_bytes c.in_ok-text.text in
    let script = c.in_ok-script.script in
    let read = subst (λ (t : List ℕ). IsForShape c.shape.result t script) c.as_str.ensures.value c.in_ok-script.ensures.script in
    let is = subst (λ (s : ShapeFields). IsForShape s text script) c.shape.ensures.value read in
    rw (p.1, p.2) (inr (script, (text, c.in_ok-text.ensures.text, IsUtf8-string_bytes c.in_ok-text.text, is)))
