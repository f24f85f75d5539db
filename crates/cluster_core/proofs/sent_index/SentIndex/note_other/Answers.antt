use Rattle.std.proofs.Common.{◌≡◌, true, List, ℕ, sym, ap, ◌∙◌}
use Rattle.cluster_core.specs.code.Changes.{stands_among}
use Rattle.cluster_core.proofs.steps.KnownMessages.{knows_other, knows_among, get_there}
use Rattle.cluster_core.proofs.sent_index.SentIndex.note_other.Goals as goal

pub returns-then-not-stands_among-clause-knows : goal.returns-then-not-stands_among-clause-knows
returns-then-not-stands_among-clause-knows c = λ known.
    let m = c.get.result.now in
    let there = get_there c.args.sent.now c.args.place m c.index-sent-place.result c.requires.within c.get.ensures c.index-sent-place.is in
    knows_other c.args.self.now.places c.args.self.now.others.items c.args.sent.now c.args.place m there known c.push_reserved.new.self.items c.push_reserved.ensures.items

pub returns-else-not-stands_among-clause-knows : goal.returns-else-not-stands_among-clause-knows
returns-else-not-stands_among-clause-knows c = λ known.
    let m = c.get.result.now in
    let there = get_there c.args.sent.now c.args.place m c.index-sent-place.result c.requires.within c.get.ensures c.index-sent-place.is in
    let stands : stands_among c.args.sent.now m c.args.self.now.others.items ≡ true = sym (c.stands_among.ensures ∙ ap (λ (xs : List ℕ). stands_among c.args.sent.now m xs) c.as_slice.ensures.value) ∙ c.if-not-stands_among.false in
    knows_among c.args.self.now.places c.args.self.now.others.items c.args.sent.now c.args.place m there known stands
