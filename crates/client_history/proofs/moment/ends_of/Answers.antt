use Rattle.std.proofs.Common.{◌≡◌, ℕ, ◌+◌, length, Some, rules, refl, sym, subst, ◌∙◌}
use Rattle.std.proofs.lemmas.List.Sorted.{IsNonDecreasingBy-from_sort_by_key}
use Rattle.std.proofs.lemmas.Option.{none-some, slice_get_read}
use Rattle.client_history.specs.declared.client_call.ClientCall.{ClientCall}
use Rattle.client_history.proofs.MomentLaws.{MomentsTo, moments_none, moments_more, moments_same, moments_sorted, each_moment, once_moment, all_moments, by_time}
use Rattle.client_history.proofs.moment.ends_of.Goals as goal
use Rattle.client_history.proofs.moment.ends_of.Goals.{in-Some+in_ok-push, in_default}

abbrev EndsAt : ClientCall → ℕ → Type 0
EndsAt call time = call.end ≡ Some time

pub loop-index-init : goal.loop-index-init
loop-index-init c = subst (MomentsTo c.args.calls.now EndsAt 0) (sym c.new-ends.ensures.items) (moments_none c.args.calls.now EndsAt)

pub loop-index-preserved : goal.loop-index-preserved
loop-index-preserved c =
    let calls = c.args.calls.now in
    let i = c.loop-index.index in
    let call = c.index-calls-index.result in
    let there = slice_get_read calls (length calls) i call refl c.loop-index-test.true c.index-calls-index.is in
    elim c.match-call.branch [
      | in-Some+in_ok-push w ↦ subst (λ v. MomentsTo calls EndsAt (i + 1) v.items) (sym w.ends-is)
          (subst (MomentsTo calls EndsAt (i + 1)) (sym (w.in_ok-push.ensures {u = tt}).items) (moments_more calls EndsAt i c.loop-index.ends.items c.loop-index.invariant call there w.in-Some.end w.in-Some.is))
      | in_default w ↦ subst (λ v. MomentsTo calls EndsAt (i + 1) v.items) (sym w.ends-is)
          (moments_same calls EndsAt i c.loop-index.ends.items c.loop-index.invariant call there (λ time e. none-some time (sym w.in_default.is ∙ e)))
    ]

pub returns : goal.returns
returns c =
    let calls = c.args.calls.now in
    let i = c.loop-index.index in
    let ends = c.sort_by_key.new.self.items in
    let done = moments_sorted calls EndsAt i c.loop-index.ends.items ends c.sort_by_key.ensures.permutation c.loop-index.invariant in
    record {
      each = each_moment calls EndsAt i ends done;
      once = once_moment calls EndsAt i ends done;
      all = λ j end call at e. all_moments calls EndsAt i ends done c.loop-index-test.false j end call at e;
      by_time = by_time ends (IsNonDecreasingBy-from_sort_by_key (λ m. m.time) _ (c.in_ok-sort_by_key.ensures {u = tt}).sorted (λ a r q k. search rules));
    }
