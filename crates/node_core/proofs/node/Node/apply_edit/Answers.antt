use Rattle.std.proofs.Common.{ap, sym, subst, ◌∙◌}
use Rattle.model.specs.declared.host.Host.{Host}
use Rattle.node_core.specs.rule.State.{host}
use Rattle.node_core.specs.rule.Parts.{NodeParts, node_state}
use Rattle.node_core.specs.declared.node_edit.NodeEdit.{NodeEdit}
use Rattle.node_core.specs.rule.Anchors.{IsAnchored}
use Rattle.node_core.specs.code.Plans.{files_told, made, RowsFit, EditFits, Fits}
use Rattle.node_core.proofs.PlanLaws.{Leaves, node-planned, node-edited}
use Rattle.node_core.proofs.node.Node.apply_edit.Goals as goal

pub apply_table-requires : goal.apply_table-requires
apply_table-requires c =
    let before = subst (λ (p : NodeParts). RowsFit p.processes p.locks c.args.edit.value.table) (sym c.self.view_is) c.requires.0.1.0 in
    subst (λ (e : NodeEdit). RowsFit c.self.inside.processes c.self.inside.locks e.table) (sym c.into_inner-draft.ensures) before

pub invariant_of-self : goal.invariant_of-self
invariant_of-self c =
    let n = c.self.inside in
    let p : NodeParts = record { shape = n.shape; node = n.node; incarnation = n.incarnation; calls = n.calls; processes = n.processes; locks = n.locks; pending = n.pending; files = n.files } in
    let e = c.into_inner-draft.result in
    let before = subst (λ (q : NodeParts). Fits q c.args.edit) (sym c.self.view_is) c.requires in
    let fits = subst (λ (x : NodeEdit). EditFits p x × IsAnchored (made p x)) (sym c.into_inner-draft.ensures) before in
    let me = c.host-host.ensures ∙ ap (λ (q : NodeParts). host (node_state q)) (sym c.self.view_is) in
    let leaves = subst (λ (h : Host). Leaves h n.processes n.locks e.table c.apply_table.new.processes c.apply_table.new.locks) me c.apply_table.ensures in
    let known = c.clear_owed.ensures.state ∙ (λ i. files_told (c.apply_command.ensures.state i) (c.as_slice.ensures i)) in
    let is = node-planned p e c.calls_after-self-inside.result c.apply_table.new.processes c.apply_table.new.locks c.apply.new.self c.clear_owed.new.self c.calls_after-self-inside.ensures leaves c.apply.ensures known in
    node-edited p e c.calls_after-self-inside.result c.apply_table.new.processes c.apply_table.new.locks c.apply.new.self c.clear_owed.new.self c.apply.ensures (c.clear_owed.ensures.count ∙ c.apply_command.ensures.count) is fits c.self.invariant

pub returns : goal.returns
returns c =
    let n = c.self.inside in
    let p : NodeParts = record { shape = n.shape; node = n.node; incarnation = n.incarnation; calls = n.calls; processes = n.processes; locks = n.locks; pending = n.pending; files = n.files } in
    let e = c.into_inner-draft.result in
    let me = c.host-host.ensures ∙ ap (λ (q : NodeParts). host (node_state q)) (sym c.self.view_is) in
    let leaves = subst (λ (h : Host). Leaves h n.processes n.locks e.table c.apply_table.new.processes c.apply_table.new.locks) me c.apply_table.ensures in
    let known = c.clear_owed.ensures.state ∙ (λ i. files_told (c.apply_command.ensures.state i) (c.as_slice.ensures i)) in
    node-planned p e c.calls_after-self-inside.result c.apply_table.new.processes c.apply_table.new.locks c.apply.new.self c.clear_owed.new.self c.calls_after-self-inside.ensures leaves c.apply.ensures known
    ∙ ap (made p) c.into_inner-draft.ensures
    ∙ ap (λ (q : NodeParts). made q c.args.edit.value) c.self.view_is
