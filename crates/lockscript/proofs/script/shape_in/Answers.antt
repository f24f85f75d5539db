use Rattle.std.proofs.Common.{ℕ, [], sym, subst}
use Rattle.lockscript.specs.rule.Scripts.{Begun, script_of}
use Rattle.lockscript.proofs.ShapedTexts.{begun-cluster}
use Rattle.lockscript.proofs.script.shape_in.Goals as goal

pub returns-clause-begun : goal.returns-clause-begun
returns-clause-begun c =
    let after = c.cluster_in.new.source in
    let text = c.args.source.now.rest.now in
    let shape = c.in_ok-shape.shape in
    subst (λ (n : ℕ). Begun text (script_of shape []) after.rest.now n) (sym c.in_ok-shape.ensures.taken) (begun-cluster text c.in_ok-shape.field-0-0 shape after.rest.now c.in_ok-shape.ensures.cluster)
