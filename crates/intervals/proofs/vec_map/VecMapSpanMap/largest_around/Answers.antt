use Rattle.std.proofs.Common.{sym, ◌∙◌}
use Rattle.intervals.proofs.Around.{largest_all}
use Rattle.intervals.proofs.vec_map.VecMapSpanMap.largest_around.Goals as goal

pub returns : goal.returns
returns g c =
    let below = c.split_before.ensures in
    let above = c.split_before-2.ensures in
    let runs = sym c.self.view_is ∙ sym c.deref.ensures.value ∙ below.whole in
    let same_runs = sym c.self.view_is ∙ sym c.deref-2.ensures.value ∙ above.whole in
    largest_all _ _ _ _ _ _ _ _ _ _ _ _ runs same_runs c.required.view_is c.within.view_is c.required.invariant.0 below.last below.ended below.reached above.ended c.requires.free c.lowest_free.ensures c.highest_free.ensures
