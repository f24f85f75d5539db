use Rattle.std.proofs.Common.{[], refl}
use Rattle.cluster_core.proofs.steps.KnownMessages.{knows_more}
use Rattle.cluster_core.proofs.sent.index_of.Goals as goal

pub returns : goal.returns
returns c =
    let old = c.new-index.result in
    let middle = c.reserve.new.self in
    let new = c.note_from.new.self in
    knows_more old.places middle.places new.places old.others.items middle.others.items new.others.items [] c.args.sent.now c.args.sent.now c.args.sent.now 0 c.reserve.ensures.same c.new-index.ensures refl refl refl c.note_from.ensures
