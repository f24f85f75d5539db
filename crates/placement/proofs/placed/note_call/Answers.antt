use Rattle.std.proofs.Common.{ap, sym, ◌∙◌}
use Rattle.std.proofs.lemmas.Result.{on_ok_weaker}
use Rattle.messages.specs.declared.event.Event.TheVariants.{AtNode}
use Rattle.placement.proofs.Index.{indexes_none, indexes_taken}
use Rattle.placement.proofs.placed.note_call.Goals as goal

pub returns-in_default : goal.returns-in_default
returns-in_default c = λ all es there before.
    indexes_none all es c.args.entry.now c.args.calls.now (sym c.call.ensures.value ∙ c.in_default.is) before

pub returns : goal.returns
returns c = on_ok_weaker c.note.result (λ takes all es there before.
    indexes_taken all es c.args.entry.now c.args.calls.now c.note.new.self c.in-Some.id c.args.index c.in-AtNode.field-0 c.in-Call.pid c.in-Call.op there (sym c.call.ensures.value ∙ c.in-Some.is) (sym c.event.ensures ∙ c.in-AtNode.is ∙ ap (AtNode c.in-AtNode.field-0) c.in-Call.is) takes before) c.note.ensures
