use Rattle.std.proofs.Common.{length, refl}
use Rattle.std.proofs.lemmas.Option.{slice_get_read}
use Rattle.client_history.proofs.front_list.has_same.Goals as goal

pub returns-then-same : goal.returns-then-same
returns-then-same c = λ yes.
    let fronts = c.args.fronts.now in
    (c.loop-other.other-index, c.other-item.result, slice_get_read fronts (length fronts) c.loop-other.other-index c.other-item.result refl c.loop-other-test.true c.other-item.is, c.same.ensures.taken c.if-same.true, c.same.ensures.locks c.if-same.true)
