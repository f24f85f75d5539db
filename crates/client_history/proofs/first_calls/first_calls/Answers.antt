use Rattle.std.proofs.Common.{◌≡◌, List, [], ◌∷◌, ◌++◌, length, slice_get, Some, refl, sym, subst, ◌∙◌}
use Rattle.std.proofs.lemmas.Bool.{false≢true}
use Rattle.std.proofs.lemmas.Option.{slice_get_read}
use Rattle.lock_table.specs.rule.Tables.{held}
use Rattle.client_history.specs.declared.open_client_call.OpenClientCall.{OpenClientCall}
use Rattle.client_history.proofs.SetLaws.{below_more, below_all, MayBeFirst}
use Rattle.client_history.proofs.Standing.{has_left, has_last}
use Rattle.client_history.proofs.first_calls.first_calls.Goals as goal
use Rattle.client_history.proofs.first_calls.first_calls.Goals.{then-may_come+in_ok-push, else-may_come}

pub loop-call-preserved : goal.loop-call-preserved
loop-call-preserved c =
    let set = c.deref-call-items.result.now in
    let n = c.loop-call.call-index in
    let it = c.call-item.result in
    let old = c.loop-call.first.items in
    let at = slice_get_read set (length set) n it refl c.loop-call-test.true c.call-item.is in
    elim c.if-may_come.branch [
      | then-may_come+in_ok-push w ↦ rw w.first-is (rw (w.in_ok-push.ensures {u = tt}).items
          (below_more (MayBeFirst (held c.args.table.now) c.args.«open».now c.args.taken.now (old ++ it ∷ [])) set n it
          (λ k x lt there left changes next step others first. has_left old (it ∷ []) x (c.loop-call.invariant k x lt there left changes next step others first))
          at
          (λ left changes next step others first. has_last old it)))
      | else-may_come w ↦ rw w.first-is
          (below_more (MayBeFirst (held c.args.table.now) c.args.«open».now c.args.taken.now old) set n it c.loop-call.invariant at
          (λ left changes next step others first. absurd (false≢true (sym w.if-may_come.false ∙ c.may_come.ensures left changes next step others first))))
    ]

pub returns : goal.returns
returns c =
    let set = c.deref-call-items.result.now in
    let closed = c.in_ok-set.ensures {u = tt} in
    let same = c.deref-call-items.ensures.value in
    record {
      set = c.in_ok-set.set.items;
      has_end = closed.has_end;
      closed = closed.closed;
      given = λ k one next there left changes step others first.
          below_all (MayBeFirst (held c.args.table.now) c.args.«open».now c.args.taken.now c.loop-call.first.items) set c.loop-call.call-index c.loop-call.invariant c.loop-call-test.false k one
          (subst (λ (xs : List OpenClientCall). slice_get xs k ≡ Some one) (sym same) there) left changes next step others first;
      members = closed.members;
    }
