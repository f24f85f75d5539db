use Rattle.std.proofs.Common.{ap, is_some, nat_eq, sym, ◌∙◌}
use Rattle.std.specs.HashMap.{get}
use Rattle.cluster_core.proofs.steps.KnownMessages.{knows_stands, knows_placed, get_there}
use Rattle.cluster_core.proofs.sent_index.SentIndex.note.Goals as goal

pub returns-in-Some-clause-knows : goal.returns-in-Some-clause-knows
returns-in-Some-clause-knows c = λ known.
    let m = c.get-message.result.now in
    let there = get_there c.args.sent.now c.args.place m c.index-sent-place.result c.requires.within c.get-message.ensures c.index-sent-place.is in
    knows_stands c.args.self.now.places c.args.self.now.others.items c.args.sent.now c.args.place m there known c.in-Some.first (ap (get nat_eq c.args.self.now.places) (sym c.fingerprint-print.ensures) ∙ (sym (c.copied.ensures ∙ c.get.ensures.value) ∙ c.in-Some.is)) (sym c.stands_at.ensures ∙ c.if-stands_at.true)

pub returns-in-Ok-clause-knows : goal.returns-in-Ok-clause-knows
returns-in-Ok-clause-knows c = λ known.
    let m = c.get-message.result.now in
    let there = get_there c.args.sent.now c.args.place m c.index-sent-place.result c.requires.within c.get-message.ensures c.index-sent-place.is in
    knows_placed c.args.self.now.places c.args.self.now.others.items c.args.sent.now c.args.place m there known c.insert.new.self c.fingerprint-print.result c.fingerprint-print.ensures (ap is_some (sym (c.copied.ensures ∙ c.get.ensures.value) ∙ c.in-None.is)) c.in-Ok.ensures.updates
