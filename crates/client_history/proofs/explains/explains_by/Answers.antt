use Rattle.std.proofs.Common.{◌↔◌, IsTrue, sym, subst, ◌∙◌, length}
use Rattle.std.proofs.lemmas.Bool.{false≢true}
use Rattle.std.proofs.lemmas.Result.{IfOk-weaker}
use Rattle.client_history.specs.rule.Explained.{IsLegal, IsExplainedBy}
use Rattle.client_history.specs.code.Moves.{AreMarks}
use Rattle.client_history.proofs.Parts.{within_explained, answered, are_marked}
use Rattle.client_history.proofs.explains.explains_by.Goals as goal

pub returns-in_default : goal.returns-in_default
returns-in_default c =
    (λ no. absurd (false≢true no), λ all. absurd ((c.in_ok-marks.ensures {u = tt}).none c.in_default.is (within_explained c.args.time c.args.calls.now c.args.order.now all) all.once))

pub returns-then-not-are_answered : goal.returns-then-not-are_answered
returns-then-not-are_answered c =
    let some : AreMarks c.args.order.now (length c.args.calls.now) c.in-Some.marks.items = rw c.in-Some.is at (c.in_ok-marks.ensures {u = tt}).some in
    let are = subst (AreMarks c.args.order.now (length c.args.calls.now)) (sym c.deref.ensures.value) some in
    (λ no. absurd (false≢true no), λ all. absurd (false≢true (sym c.if-not-are_answered.true ∙ c.are_answered.ensures.1 (are_marked c.args.calls.now c.args.order.now c.deref.result.now are c.args.time all.answered))))

pub returns-then-not-have_begun : goal.returns-then-not-have_begun
returns-then-not-have_begun c = (λ no. absurd (false≢true no), λ all. absurd (false≢true (sym c.if-not-have_begun.true ∙ c.have_begun.ensures.1 all.begun)))

pub returns-then-not-are_in_time : goal.returns-then-not-are_in_time
returns-then-not-are_in_time c = (λ no. absurd (false≢true no), λ all. absurd (false≢true (sym c.if-not-are_in_time.true ∙ c.are_in_time.ensures.1 all.in_time)))

pub returns-then-not-branch : goal.returns-then-not-branch
returns-then-not-branch c = (λ no. absurd (false≢true no), λ all. absurd (false≢true (sym c.if-not-branch.true ∙ (c.in_ok-exits_are_last.ensures {u = tt}).1 all.last)))

pub returns-then-not-branch-2 : goal.returns-then-not-branch-2
returns-then-not-branch-2 c = (λ no. absurd (false≢true no), λ all. absurd (false≢true (sym c.if-not-branch-2.true ∙ (c.in_ok-exits_are_whole.ensures {u = tt}).1 all.whole)))

pub returns-then-not-branch-3 : goal.returns-then-not-branch-3
returns-then-not-branch-3 c = (λ no. absurd (false≢true no), λ all. absurd (false≢true (sym c.if-not-branch-3.true ∙ (c.in_ok-are_behind_their_first.ensures {u = tt}).1 all.behind)))

pub returns : goal.returns
returns c =
    let calls = c.args.calls.now in
    let order = c.args.order.now in
    let time = c.args.time in
    let some : AreMarks order (length calls) c.in-Some.marks.items = rw c.in-Some.is at (c.in_ok-marks.ensures {u = tt}).some in
    let are = subst (AreMarks order (length calls)) (sym c.deref.ensures.value) some in
    IfOk-weaker c.is_legal.result (λ yes. IsTrue yes ↔ IsLegal calls order) (λ yes. IsTrue yes ↔ IsExplainedBy time calls order)
    (λ yes legal. (
      λ is. record {
        legal = legal.0 is;
        once = are.once;
        begun = c.have_begun.ensures.0 c.if-not-have_begun.false;
        answered = answered calls order c.deref.result.now are time (c.are_answered.ensures.0 c.if-not-are_answered.false);
        in_time = c.are_in_time.ensures.0 c.if-not-are_in_time.false;
        last = (c.in_ok-exits_are_last.ensures {u = tt}).0 c.if-not-branch.false;
        whole = (c.in_ok-exits_are_whole.ensures {u = tt}).0 c.if-not-branch-2.false;
        behind = (c.in_ok-are_behind_their_first.ensures {u = tt}).0 c.if-not-branch-3.false;
      },
      λ all. legal.1 all.legal,
    ))
    c.is_legal.ensures
