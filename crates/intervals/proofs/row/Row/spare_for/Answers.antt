use Rattle.std.proofs.Common.{◌+◌, arith}
use Rattle.intervals.specs.code.Parts.{runs_below}
use Rattle.intervals.proofs.Runs.{ends_below_le}
use Rattle.intervals.proofs.row.Row.spare_for.Goals as goal

pub place_from-to-requires-clause-ended : goal.place_from-to-requires-clause-ended
place_from-to-requires-clause-ended g c = ends_below_le (runs_below c.args.self.now c.place-at.result) c.saturating_sub.result (c.span.inside.hi + 1) (omega (arith, c.saturating_sub.ensures, c.span.invariant.0)) c.place-at.ensures.ended
