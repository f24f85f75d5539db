use Rattle.std.proofs.Common.{arith}
use Rattle.placement.proofs.Placing.{as_many, all_before, known_here, placing_empty, placing_more, placing_whole}
use Rattle.placement.proofs.placed.slots_of.Goals as goal

pub loop-index-init : goal.loop-index-init
loop-index-init c = placing_empty _ _ _ _ c.new-calls.ensures c.in_ok-conflicts.ensures.untold c.in_ok-conflicts.ensures.known c.in_ok-slots.ensures.items

pub answer-requires-clause-room : goal.answer-requires-clause-room
answer-requires-clause-room c =
    let many = as_many c.args.entries.now c.loop-index.index c.index-entries-index.result c.loop-index.calls c.loop-index.conflicts c.loop-index.slots.items c.loop-index-test.true c.loop-index.invariant in
    omega arith

pub answer-requires-clause-before : goal.answer-requires-clause-before
answer-requires-clause-before c =
    all_before c.args.entries.now c.loop-index.index c.index-entries-index.result c.loop-index.calls c.loop-index.conflicts c.loop-index.slots.items c.loop-index-test.true c.loop-index.invariant

pub answer-requires-clause-known : goal.answer-requires-clause-known
answer-requires-clause-known c =
    known_here c.args.entries.now c.loop-index.index c.index-entries-index.result c.loop-index.calls c.loop-index.conflicts c.loop-index.slots.items c.loop-index-test.true c.loop-index.invariant c.index-entries-index.is

pub loop-index-preserved : goal.loop-index-preserved
loop-index-preserved c =
    placing_more c.args.entries.now c.loop-index.index c.index-entries-index.result c.loop-index.calls c.loop-index.conflicts c.loop-index.slots.items c.loop-index-test.true c.loop-index.invariant c.note_call.new.calls c.note_conflicts.new.conflicts c.answer.new.slots.items c.index-entries-index.is c.in_ok-note_call.ensures c.in_ok-answer.ensures c.in_ok-note_conflicts.ensures.located c.in_ok-note_conflicts.ensures.known

pub returns : goal.returns
returns c =
    placing_whole c.args.entries.now c.loop-index.index c.loop-index.calls c.loop-index.conflicts c.loop-index.slots.items c.loop-index-test.false c.loop-index.invariant
