use Rattle.std.proofs.Common.{sym, ap, ◌∙◌, ◌++◌, ◌∷◌, [], refl, slice_get}
use Rattle.placement.proofs.Placing.{answers_none, answers_some, answers_nowhere}
use Rattle.placement.proofs.placed.answer.Goals as goal

pub returns-in-Some-slot_of : goal.returns-in-Some-slot_of
returns-in-Some-slot_of c = λ all es there long indexed located.
    let own = c.len-own.ensures ∙ c.args.slots.now.ok.0 in
    let index = c.in-Some-slot_of.index in
    let replies = sym c.reply.ensures ∙ c.in-Some.is in
    let made = c.slot_at.ensures index all (es ++ c.args.entry.now ∷ []) indexed c.args.entry.now c.in-Some.answered (ap (slice_get all) own ∙ there) replies refl in
    answers_some all es c.args.slots.now.items c.push-2.new.self.items c.args.entry.now c.in-Some.answered c.len-own.result c.event.result.now c.slot_of.result long replies own c.event.ensures c.in_ok-push-2.ensures.items (c.slot_of.ensures.slot es located) index c.slot_at.result c.in-Some-slot_of.is made

pub returns-in_default-slot_of : goal.returns-in_default-slot_of
returns-in_default-slot_of c = λ all es there long indexed located.
    let own = c.len-own.ensures ∙ c.args.slots.now.ok.0 in
    let replies = sym c.reply.ensures ∙ c.in-Some.is in
    answers_nowhere all es c.args.slots.now.items c.push-2.new.self.items c.args.entry.now c.in-Some.answered c.len-own.result c.event.result.now c.slot_of.result long replies own c.event.ensures c.in_ok-push-2.ensures.items (c.slot_of.ensures.slot es located) c.in_default-slot_of.is

pub returns-in_default : goal.returns-in_default
returns-in_default c = λ all es there long indexed located.
    let own = c.len-own.ensures ∙ c.args.slots.now.ok.0 in
    let stood = c.slot_of_failure.ensures all (ap (slice_get all) own ∙ there) in
    answers_none all es c.args.slots.now.items c.push.new.self.items c.slot_of_failure.result c.args.entry.now c.len-own.result long (sym c.reply.ensures ∙ c.in_default.is) own stood c.in_ok-push.ensures.items
