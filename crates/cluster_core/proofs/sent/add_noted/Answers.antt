use Rattle.std.proofs.Common.{◌∙◌}
use Rattle.cluster_core.proofs.steps.KnownMessages.{knows_more}
use Rattle.cluster_core.proofs.sent.add_noted.Goals as goal

pub returns-clause-knows : goal.returns-clause-knows
returns-clause-knows c = λ known.
    let old = c.args.index.now in
    let middle = c.reserve.new.self in
    let new = c.note_from.new.self in
    knows_more old.places middle.places new.places old.others.items middle.others.items new.others.items c.args.sent.now.items c.args.messages.now c.add_shares.new.sent.items c.as_slice.result.now c.len-start.result c.reserve.ensures.same known c.as_slice.ensures.value c.in_ok-add_shares.ensures.ok (c.len-start.ensures ∙ c.args.sent.now.ok.0) c.note_from.ensures
