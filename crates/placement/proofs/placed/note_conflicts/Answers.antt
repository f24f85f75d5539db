use Rattle.std.proofs.Common.{ap, sym, get_or, take, ◌∙◌}
use Rattle.messages.specs.declared.message.Message.{Message}
use Rattle.placement.proofs.Index.{noted_none, noted_known, noted_more, noted_all}
use Rattle.placement.proofs.placed.note_conflicts.Goals as goal

pub loop-message-init : goal.loop-message-init
loop-message-init c = noted_none c.args.conflicts.now c.args.index

pub loop-message-preserved : goal.loop-message-preserved
loop-message-preserved c =
    let ms = c.sends-message-items.result.now in
    let i = c.loop-message.message-index in
    let read = c.get.ensures ∙ (c.message-item.is ∙ sym (ap (λ (m : Message). get_or ms i m) c.get.ensures)) in
    noted_more c.args.conflicts.now c.loop-message.conflicts c.note_conflict.new.conflicts c.args.index i ms c.get.result.now c.loop-message-test.true read c.loop-message.invariant c.in_ok-note_conflict.ensures

pub returns-clause-located : goal.returns-clause-located
returns-clause-located c =
    noted_all c.args.conflicts.now c.loop-message.conflicts c.args.index c.loop-message.message-index c.sends-message-items.result.now c.args.entry.now (sym c.sends-message-items.ensures) c.loop-message-test.false c.loop-message.invariant

pub returns-clause-known : goal.returns-clause-known
returns-clause-known c =
    noted_known c.args.conflicts.now c.loop-message.conflicts c.args.index (take c.loop-message.message-index c.sends-message-items.result.now) c.loop-message.invariant
