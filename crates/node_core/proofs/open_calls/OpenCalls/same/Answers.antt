use Rattle.std.specs.Prelude.{slice_get, slice_index_or, refl}
use Rattle.std.proofs.Common.{◌≡◌, arith, ap, sym, subst, ◌∙◌}
use Rattle.std.proofs.lemmas.Option.{slice_get_read}
use Rattle.node_core.specs.declared.open_call.OpenCall.{OpenCall}
use Rattle.node_core.proofs.NodeLaws.{same-next}
use Rattle.node_core.proofs.open_calls.OpenCalls.same.Goals as goal

pub loop-i-preserved : goal.loop-i-preserved
loop-i-preserved c =
    let i = c.loop-i.i in
    let xs = c.self.inside.calls.items in
    let ys = c.other.inside.calls.items in
    let equal = c.same.ensures.0 c.if-not-same.false in
    let theirs = subst (λ (x : OpenCall). x ≡ slice_index_or ys i x) (sym equal) c.index-in-loop-i.ensures in
    same-next c.args.self.now c.args.other.now i c.index.result.now
    (ap (λ cs. slice_get cs i) (sym c.self.view_is) ∙ slice_get_read xs _ i c.index.result.now refl (omega arith) c.index.ensures)
    (ap (λ cs. slice_get cs i) (sym c.other.view_is) ∙ slice_get_read ys _ i c.index.result.now refl (omega arith) theirs)
    c.loop-i.invariant
