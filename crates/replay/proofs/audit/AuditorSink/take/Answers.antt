use Rattle.std.proofs.Common.{sym}
use Rattle.cluster_core.specs.rule.Parts.{world_state}
use Rattle.replay.proofs.Audits.{counts-more, tells-more, tells-next, tells-wrong}
use Rattle.replay.proofs.audit.AuditorSink.take.Goals as goal
use Rattle.replay.proofs.audit.AuditorSink.take.Goals.{then-not-branch, else-not-branch}

pub returns-then-is_some : goal.returns-then-is_some
returns-then-is_some g c = λ s es knows.
    let old = c.args.self.now in
    (counts-more old.taken _ es c.args.entry c.counted-taken.ensures.more c.counted-taken.ensures.full knows.0, tells-more s (world_state old.world) old.wrong es c.args.entry (sym c.if-is_some.ensures) knows.1)

pub returns : goal.returns
returns g c = λ s es knows.
    let old = c.args.self.now in
    let counts = counts-more old.taken _ es c.args.entry c.counted-taken.ensures.more c.counted-taken.ensures.full knows.0 in
    elim c.if-not-branch.branch [
      | then-not-branch w ↦ rw w.self-is (counts, tells-wrong s (world_state old.world) (world_state c.comes_next.new.world) old.taken c.counted-taken.result old.wrong es c.args.entry (sym c.if-is_some.ensures) c.counted-taken.ensures.more (c.in_ok-comes_next.ensures.other w.if-not-branch.true) knows.0 knows.1)
      | else-not-branch w ↦ rw w.self-is (counts, tells-next s (world_state old.world) (world_state c.comes_next.new.world) old.wrong es c.args.entry (sym c.if-is_some.ensures) (c.in_ok-comes_next.ensures.made w.if-not-branch.false) knows.1)
    ]
