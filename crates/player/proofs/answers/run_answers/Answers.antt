use Rattle.std.proofs.Common.{◌≡◌, ◌∙◌, ◌+◌, ◌++◌, ◌∷◌, [], List, drop, take, ap, arith, sym}
use Rattle.std.proofs.lemmas.Grind.{common_steps}
use Rattle.std.proofs.lemmas.List.{append-nil, take_more}
use Rattle.messages.specs.rule.Entries.{EntryFields}
use Rattle.lockscript.specs.rule.Scripts.{LineFields}
use Rattle.player.specs.rule.Expectations.{answers_behind, refusal_of}
use Rattle.player.specs.code.Answers.{answer_by}
use Rattle.player.proofs.Expectations.{answer-here, answers-next, drop_here, taken-next}
use Rattle.player.proofs.answers.run_answers.Goals as goal

pub loop-line-preserved : goal.loop-line-preserved
loop-line-preserved c =
    let lines = c.args.lines.now in
    let refused = c.args.refused.now in
    let entries = c.args.entries.now in
    let i = c.loop-line.line-index in
    let l = c.line-item.result in
    let refusal = c.copied-refusal.result in
    let noted = c.in_ok-answer.ensures in
    let earlier = take i lines in
    let inv = c.loop-line.invariant in
    let code = c.copied-refusal.ensures ∙ c.get.ensures.value ∙ c.in_ok-refusals.ensures _ ∙ ap (refusal_of refused) (c.from.ensures ∙ c.number.ensures.value) in
    let more : take (i + 1) lines ≡ earlier ++ l ∷ [] = take_more lines i l c.loop-line-test.true ∙ ap (λ (x : LineFields). earlier ++ x ∷ []) (sym c.line-item.is) in
    let here =
    noted.answer
    ∙ ap (λ (es : List EntryFields). answer_by refusal c.loop-line.taken es l.command) c.in_ok-told.ensures
    ∙ answer-here refused refusal c.loop-line.taken earlier l.number l.command entries code inv.known in
    let before =
    ap (λ (ls : List LineFields). c.loop-line.answers.items ++ answers_behind earlier ls refused entries) (sym (drop_here lines i l c.loop-line-test.true c.line-item.is))
    ∙ inv.answered in
    record {
      known = λ node pid. taken-next refused node pid earlier _ l refusal _ _ more code (inv.known node pid) (noted.taken node pid);
      answered = answers-next earlier _ l (drop (i + 1) lines) refused entries c.loop-line.answers.items c.push.new.self.items c.in_ok-answer.answer _ c.in_ok-push.ensures.items here more before;
    }

pub returns : goal.returns
returns c =
    let lines = c.args.lines.now in
    let i = c.loop-line.line-index in
    let answers = c.loop-line.answers.items in
    let none : drop i lines ≡ [] = grind (arith, common_steps, c.loop-line-test.false, c.loop-line.auto.line-index-end) in
    sym (append-nil answers)
    ∙ ap (λ (ls : List LineFields). answers ++ answers_behind (take i lines) ls c.args.refused.now c.args.entries.now) (sym none)
    ∙ c.loop-line.invariant.answered
