use Rattle.std.specs.Prelude.{Some, Err}
use Rattle.std.proofs.Common.{◌≡◌, sym, ◌∙◌, ap, w64}
use Rattle.std.proofs.lemmas.Int.{to_z-of_z}
use mir.Val.{to_z, of_z}
use Rattle.intervals.specs.rule.Segment.{seg}
use Rattle.model.specs.rule.Table.{target_at}
use Rattle.descriptors.specs.code.Rows.{resolved}
use Rattle.descriptors.specs.rule.Rows.{processes}
use Rattle.node_core.specs.rule.Parts.{NodeParts}
use Rattle.node_core.proofs.NodeLaws.{target-refused, target-found, target-file}
use Rattle.fcntl_table.proofs.TableLaws.{segment-is}
use Rattle.node_core.proofs.node.Node.target.Goals as goal

pub returns-in-Err-clause-value : goal.returns-in-Err-clause-value
returns-in-Err-clause-value c =
    let found = c.in-Err.ensures.value ∙ ap (λ (p : NodeParts). resolved (processes p.processes) c.args.pid c.args.fd) c.self.view_is in
    ap Err c.reply.ensures ∙ sym (target-refused c.args.self.now c.args.pid c.args.need c.args.fd c.args.kind _ c.in-Err.error (sym found))

pub returns-clause-value : goal.returns-clause-value
returns-clause-value c =
    let found = c.in-Ok.ensures.value ∙ ap (λ (p : NodeParts). resolved (processes p.processes) c.args.pid c.args.fd) c.self.view_is in
    let start : to_z w64 (of_z w64 c.args.start) ≡ c.args.start = to_z-of_z w64 c.args.start c.ranges.start in
    let len : to_z w64 (of_z w64 c.args.len) ≡ c.args.len = to_z-of_z w64 c.args.len c.ranges.len in
    let segment = segment-is c.from_flock-segment.result _ c.from_flock-segment.ensures.ok c.from_flock-segment.ensures.err ∙ (λ i. seg (start i) (len i)) in
    c.target_at.ensures.value ∙ ap (λ p. target_at p c.args.need c.args.kind (Some c.in-Ok.opened) c.from_flock-segment.result) c.process.ensures
    ∙ target-found c.args.self.now c.args.pid c.args.need c.args.fd c.args.kind _ _ c.in-Ok.opened (sym found) segment

pub returns-clause-file : goal.returns-clause-file
returns-clause-file c =
    rw (← c.self.view_is) (target-file _ c.args.pid c.args.fd c.in-Ok.opened c.target_at.result c.self.invariant (sym c.in-Ok.ensures.value) c.target_at.ensures.file)
