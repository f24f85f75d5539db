use Rattle.std.proofs.Common.{length, get_or, take, drop, ◌++◌, sym, ap, ◌∙◌, eqb-true, arith}
use Rattle.std.proofs.lemmas.Option.{slice_get-get_or}
use Rattle.client_history.specs.code.Search.{AreTimed}
use Rattle.client_history.proofs.Ended.{reached_first, reached_next, unexplained, written_back}
use Rattle.client_history.proofs.search.look_for_order.Goals as goal

pub loop-end_of-init : goal.loop-end_of-init
loop-end_of-init c = λ timed.
    let first = c.in_ok-fronts.ensures {u = tt} in
    rw c.new-open.ensures.items (reached_first c.args.calls.now c.deref.result.now c.deref-end_of-items.result.now c.in_ok-fronts.fronts.items first.0 first.1 first.2 first.3)

pub loop-end_of-preserved : goal.loop-end_of-preserved
loop-end_of-preserved c = λ timed.
    let ends = c.deref-end_of-items.result.now in
    let k = c.loop-end_of.end_of-index in
    let fronts = c.loop-end_of.fronts.items in
    let asked = c.begin_by.new.fronts in
    let opened = c.in_ok-open.ensures {u = tt} in
    let some = c.if-left-eq0.false in
    let end = get_or ends k (record { time = 0; call = 0 }) in
    reached_next c.args.calls.now c.deref.result.now ends timed c.loop-end_of.begun c.in_ok-open.field-0-1 k end
    (slice_get-get_or ends k (record { time = 0; call = 0 }) c.loop-end_of-test.true)
    c.loop-end_of.«open».items c.in_ok-open.field-0-0.items c.in_ok-open-2.«open».items
    fronts asked (take c.loop-end_of.fronts.len (asked ++ drop (length asked) fronts)) c.end.new.fronts.items
    (c.loop-end_of.invariant timed)
    (rw c.deref_mut.ensures.value at opened.to)
    opened.later
    (written_back asked fronts c.loop-end_of.fronts.len (c.begin_by.ensures.len ∙ ap length c.deref_mut.ensures.value) (omega arith))
    (rw c.deref-in-loop-end_of-2.ensures.value at (c.in_ok-open-2.ensures {u = tt} (omega arith)))

pub returns-then-is_empty : goal.returns-then-is_empty
returns-then-is_empty c =
    let calls = c.args.calls.now in
    let begins = c.deref.result.now in
    let ends = c.deref-end_of-items.result.now in
    let k = c.loop-end_of.end_of-index in
    let fronts = c.loop-end_of.fronts.items in
    let asked = c.begin_by.new.fronts in
    let opened = c.in_ok-open.ensures {u = tt} in
    let some = c.if-left-eq0.false in
    let none = eqb-true _ _ (sym c.is_empty.ensures ∙ c.if-is_empty.true) in
    let end = get_or ends k (record { time = 0; call = 0 }) in
    let at = slice_get-get_or ends k (record { time = 0; call = 0 }) c.loop-end_of-test.true in
    let timed : AreTimed calls begins ends = record {
      sound = c.requires;
      are_begins = rw c.deref.ensures.value ((c.in_ok-moments.ensures {u = tt}) (λ i e call there. (c.requires i call there).ordered e));
      are_ends = rw c.deref-end_of-items.ensures.value (c.in_ok-ends.ensures {u = tt});
    } in
    unexplained calls begins ends timed c.in_ok-open.field-0-1 k end at c.in_ok-open-2.«open».items c.end.new.fronts.items (omega arith)
    (reached_next calls begins ends timed c.loop-end_of.begun c.in_ok-open.field-0-1 k end at
    c.loop-end_of.«open».items c.in_ok-open.field-0-0.items c.in_ok-open-2.«open».items
    fronts asked (take c.loop-end_of.fronts.len (asked ++ drop (length asked) fronts)) c.end.new.fronts.items
    (c.loop-end_of.invariant timed)
    (rw c.deref_mut.ensures.value at opened.to)
    opened.later
    (written_back asked fronts c.loop-end_of.fronts.len (c.begin_by.ensures.len ∙ ap length c.deref_mut.ensures.value) (omega arith))
    (rw c.deref-in-loop-end_of-2.ensures.value at (c.in_ok-open-2.ensures {u = tt} (omega arith))))
