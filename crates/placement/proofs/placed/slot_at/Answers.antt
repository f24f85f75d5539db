use Rattle.std.proofs.Common.{◌+◌, sym, ap, ◌∙◌, Some}
use Rattle.placement.specs.code.Indexes.{entry_of}
use Rattle.placement.proofs.Placing.{slot_answers}
use Rattle.placement.proofs.placed.slot_at.Goals as goal

pub returns-in-Some : goal.returns-in-Some
returns-in-Some c = λ at all es indexed e r there replies same.
    slot_answers all es c.args.calls.now (at + 1) c.args.reply e r (Some c.in-Some.call) indexed (sym c.in-Some.is ∙ c.get.ensures ∙ ap (entry_of c.args.calls.now) (sym same)) there replies
