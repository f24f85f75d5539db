use Rattle.std.proofs.Common.{◌+◌, length, rules, refl, sym, subst}
use Rattle.std.proofs.lemmas.List.Sorted.{IsNonDecreasingBy-from_sort_by_key}
use Rattle.std.proofs.lemmas.Option.{slice_get_read}
use Rattle.client_history.specs.code.Moves.{IsBeginOf}
use Rattle.client_history.proofs.KnownCalls.{begins_itself}
use Rattle.client_history.proofs.MomentLaws.{MomentsTo, moments_none, moments_more, moments_sorted, each_moment, all_moments, by_time}
use Rattle.client_history.proofs.moment.begins_of.Goals as goal

pub loop-index-init : goal.loop-index-init
loop-index-init c = λ ordered. subst (MomentsTo c.args.calls.now (IsBeginOf c.args.calls.now) 0) (sym c.new-begins.ensures.items) (moments_none c.args.calls.now (IsBeginOf c.args.calls.now))

pub loop-index-preserved : goal.loop-index-preserved
loop-index-preserved c = λ ordered.
    let calls = c.args.calls.now in
    let i = c.loop-index.index in
    let call = c.index-calls-index.result in
    let there = slice_get_read calls (length calls) i call refl c.loop-index-test.true c.index-calls-index.is in
    subst (MomentsTo calls (IsBeginOf calls) (i + 1)) (sym (c.in_ok-push.ensures {u = tt}).items)
    (moments_more calls (IsBeginOf calls) i c.loop-index.begins.items (c.loop-index.invariant ordered) call there c.begin_of.result
    (c.begin_of.ensures calls c.requires (λ end e. ordered i end call there e)))

pub returns : goal.returns
returns c = λ ordered.
    let calls = c.args.calls.now in
    let i = c.loop-index.index in
    let begins = c.sort_by_key.new.self.items in
    let done = moments_sorted calls (IsBeginOf calls) i c.loop-index.begins.items begins c.sort_by_key.ensures.permutation (c.loop-index.invariant ordered) in
    record {
      each = each_moment calls (IsBeginOf calls) i begins done;
      all = λ j call at. all_moments calls (IsBeginOf calls) i begins done c.loop-index-test.false j call.begin call at (begins_itself calls call (λ end e. ordered j end call at e));
      by_time = by_time begins (IsNonDecreasingBy-from_sort_by_key (λ m. m.time) _ (c.in_ok-sort_by_key.ensures {u = tt}).sorted (λ a r q k. search rules));
    }
