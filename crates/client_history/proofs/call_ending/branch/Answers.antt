use Rattle.std.proofs.Common.{◌≡◌, ℕ, ⊎_elim, List, [], ◌∷◌, ◌++◌, length, slice_get, Some, refl, sym, subst, ◌∙◌, arith}
use Rattle.std.proofs.lemmas.Option.{slice_get_read, slice_get_within}
use Rattle.std.proofs.lemmas.Result.{IfOk-weaker}
use Rattle.client_history.specs.declared.search_front.SearchFront.{SearchFront}
use Rattle.client_history.specs.declared.open_client_call.OpenClientCall.{OpenClientCall}
use Rattle.client_history.specs.code.Search.{HasNext, GoesOnFrom}
use Rattle.client_history.proofs.Goings.{next_of_copy, next_of_more, goes_on_from}
use Rattle.client_history.proofs.Orders.{last_place, get_one}
use Rattle.client_history.proofs.Standing.{has_push}
use Rattle.client_history.proofs.call_ending.branch.Goals as goal

pub returns-in_default-clause-goes : goal.returns-in_default-clause-goes
returns-in_default-clause-goes c =
    let first = c.in_ok-first.first.items in
    let none : length first ≡ 0 = rw c.deref-2.ensures.value at (c.in_default.ensures {u = tt}).cases in
    goes_on_from c.args.ending.now.«open».now c.args.front c.args.ending.now.end first c.args.queue.now.items
    (rw c.deref.ensures.value at (c.in_ok-first.ensures {u = tt}))
    (λ k one there. let within = slice_get_within first k one there in absurd (omega arith))

pub loop-call-init : goal.loop-call-init
loop-call-init c = record { kept = λ k f there. (k, there); next = λ k one lt. absurd (omega arith) }

pub loop-call-preserved : goal.loop-call-preserved
loop-call-preserved c =
    let running = c.args.ending.now.«open».now in
    let others = c.in-Some.others.now in
    let i = c.loop-call.call-index in
    let at = slice_get_read others (length others) i c.call-item.result refl c.loop-call-test.true c.call-item.is in
    let same = c.in_ok-next.ensures {u = tt} in
    let here = next_of_copy running c.args.front c.in_ok-next.next c.call-item.result c.go.new.queue.items same.locks same.taken (c.in_ok-go.ensures {u = tt}).goes in
    let kept = c.go.ensures.kept in
    record {
      kept = λ k f there. let was = c.loop-call.invariant.kept k f there in kept was.0 f was.1;
      next = λ k one lt there. ⊎_elim
          (λ below. next_of_more running c.args.front one c.loop-call.queue.items c.go.new.queue.items kept (c.loop-call.invariant.next k one below there))
          (λ e. subst (λ (o : OpenClientCall). HasNext running c.args.front o c.go.new.queue.items) (sym (get_one others k i one c.call-item.result e there at)) here)
          (last_place k i lt);
    }

pub returns-clause-kept : goal.returns-clause-kept
returns-clause-kept c = λ k f there. let was = c.loop-call.invariant.kept k f there in c.go-2.ensures.kept was.0 f was.1

pub returns-clause-goes : goal.returns-clause-goes
returns-clause-goes c = IfOk-weaker c.go-2.result (λ done. HasNext running c.args.front c.in-Some.last.now queue) (λ done. GoesOnFrom running c.args.front c.args.ending.now.end queue) (λ done next. goes_on_from running c.args.front c.args.ending.now.end first queue
    (rw c.deref.ensures.value at (c.in_ok-first.ensures {u = tt}))
    (all next)) c.go-2.ensures.goes
  where
    running : List OpenClientCall
    running = c.args.ending.now.«open».now

    first : List OpenClientCall
    first = c.in_ok-first.first.items

    queue : List SearchFront
    queue = c.go-2.new.queue.items

    parts : first ≡ c.in-Some.others.now ++ c.in-Some.last.now ∷ []
    parts = sym c.deref-2.ensures.value ∙ (c.in-Some.ensures {u = tt}).cases.0

    all : HasNext running c.args.front c.in-Some.last.now queue → (k : ℕ) (one : OpenClientCall) → slice_get first k ≡ Some one → HasNext running c.args.front one queue
    all next k one there = ⊎_elim
        (λ old. let within = slice_get_within c.in-Some.others.now old.0 one old.1 in let past = c.loop-call-test.false in next_of_more running c.args.front one c.loop-call.queue.items queue c.go-2.ensures.kept (c.loop-call.invariant.next old.0 one (omega arith) old.1))
        (λ e. subst (λ (o : OpenClientCall). HasNext running c.args.front o queue) (sym e) next)
        (has_push c.in-Some.others.now c.in-Some.last.now one (k, subst (λ (xs : List OpenClientCall). slice_get xs k ≡ Some one) parts there))

pub returns-in_err-go-clause-kept : goal.returns-in_err-go-clause-kept
returns-in_err-go-clause-kept c = λ k f there. let was = c.loop-call.invariant.kept k f there in c.go.ensures.kept was.0 f was.1
