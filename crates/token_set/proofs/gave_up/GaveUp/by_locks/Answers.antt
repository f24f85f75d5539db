use Rattle.std.proofs.Common.{Option, arith}
use Rattle.std.specs.Prelude.{None}
use Rattle.model.specs.declared.owner.Owner.{Owner}
use Rattle.lock_table.specs.rule.Tables.{held}
use Rattle.lock_table.proofs.BlockerLemmas.{clear_way}
use Rattle.token_set.proofs.gave_up.GaveUp.by_locks.Goals as goal

pub returns-in-None : goal.returns-in-None
returns-in-None c =
    let nobody : Option Owner = None in (
      λ lock region way. clear_way (held c.args.locks.now c.args.file) nobody c.args.required c.args.mode lock (omega (arith, c.required.invariant)) (λ o b asked lo hi. c.in-None.ensures o b lo hi) tt region way,
      c.free_around.ensures,
    )
