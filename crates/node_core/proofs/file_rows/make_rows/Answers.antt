use Rattle.std.proofs.Common.{◌∷◌, [], ◌++◌, ap, ◌∙◌, arith}
use Rattle.node_core.specs.code.Plans.{rows_of}
use Rattle.node_core.proofs.FileLaws.{rows-push}
use Rattle.node_core.proofs.file_rows.make_rows.Goals as goal

pub loop-alloc-preserved : goal.loop-alloc-preserved
loop-alloc-preserved c =
    let rows = c.loop-alloc.rows.items in
    let pushed = c.push_reserved.ensures.items ∙ ap (λ r. rows ++ r ∷ []) c.new.ensures.row in
    record {
      same = λ n. ap (rows_of n) pushed ∙ rows-push n rows ∙ c.loop-alloc.invariant.same n;
      capacity = let before = c.loop-alloc.invariant.capacity in let after = c.push_reserved.ensures.capacity in omega arith;
    }
