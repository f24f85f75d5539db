use Rattle.std.proofs.Common.{◌≡◌, ap, ◌∙◌, w64}
use Rattle.std.proofs.lemmas.Int.{to_z-of_z}
use mir.Val.{to_z, of_z}
use Rattle.intervals.specs.rule.Segment.{seg}
use Rattle.model.specs.declared.process.Process.{Process}
use Rattle.fcntl_table.proofs.TableLaws.{segment-is, target-of, target-refused}
use Rattle.fcntl_table.proofs.table.FcntlTable.target.Goals as goal

pub returns-in-Ok-clause-value : goal.returns-in-Ok-clause-value
returns-in-Ok-clause-value c =
    let start : to_z w64 (of_z w64 c.args.start) ≡ c.args.start = to_z-of_z w64 c.args.start c.ranges.start in
    let len : to_z w64 (of_z w64 c.args.len) ≡ c.args.len = to_z-of_z w64 c.args.len c.ranges.len in
    let cut = segment-is c.from_flock.result _ c.from_flock.ensures.ok c.from_flock.ensures.err ∙ (λ i. seg (start i) (len i)) in
    target-of c.args.self.now c.args.process c.args.need c.host_of.result c.process.inside.pid c.args.fd c.args.kind c.args.start c.args.len c.in-Ok.opened c.from_flock.result c.target_at.result c.host_of.ensures (ap (λ (p : Process). p.pid) c.process.view_is) c.in-Ok.ensures.value cut c.target_at.ensures.value

pub returns-in-Err-clause-value : goal.returns-in-Err-clause-value
returns-in-Err-clause-value c =
    target-refused c.args.self.now c.args.process c.args.need c.host_of.result c.process.inside.pid c.args.fd c.args.kind c.args.start c.args.len c.in-Err.error c.reply.result c.host_of.ensures (ap (λ (p : Process). p.pid) c.process.view_is) c.in-Err.ensures.value c.reply.ensures
