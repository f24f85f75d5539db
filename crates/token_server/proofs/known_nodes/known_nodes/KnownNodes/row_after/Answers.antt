use Rattle.std.proofs.Common.{sym, ap, ◌∙◌, arith}
use Rattle.std.specs.Prelude.{Option}
use Rattle.token_server.specs.declared.known_nodes.row_edit.RowEdit.{RowEdit}
use Rattle.token_server.specs.code.Rows.{rows_overlaid}
use Rattle.token_server.proofs.KnownNodeLaws.{overlaid-here, overlaid-elsewhere, overlaid-none, seen-matches, rows_of-there}
use Rattle.token_server.proofs.known_nodes.known_nodes.KnownNodes.row_after.Goals.{in_default-via-in-Some+else-edit-from, in_default-via-in_default}
use Rattle.token_server.proofs.known_nodes.known_nodes.KnownNodes.row_after.Goals as goal

pub returns-in_err-known_node-clause-row : goal.returns-in_err-known_node-clause-row
returns-in_err-known_node-clause-row c = rw c.from_residual.ensures (overlaid-none c.args.self.now c.args.edit.now c.args.node (sym c.in_err-known_node.ensures.value))

pub returns-in-Some-clause-row : goal.returns-in-Some-clause-row
returns-in-Some-clause-row c =
    seen-matches c.row_over.result _
    (ap (λ (o : Option RowEdit). rows_overlaid c.args.self.now o c.args.node) c.in-Some.is
    ∙ overlaid-here c.args.self.now c.in-Some.edit c.args.node _ (omega (arith, c.if-edit-from.true, c.from.ensures, c.in_ok-known_node.ensures.within)) (sym c.in_ok-known_node.ensures.value)
    ∙ sym c.row_over.ensures)

pub returns-in_default-clause-row : goal.returns-in_default-clause-row
returns-in_default-clause-row c =
    let over = λ (o : Option RowEdit). rows_overlaid c.args.self.now o c.args.node in
    let read = rows_of-there c.args.self.now c.args.node _ (sym c.in_ok-known_node.ensures.value) ∙ sym c.row_view.ensures in
    seen-matches c.row_view.result _
    (elim c.in_default.branch [
      | in_default-via-in-Some+else-edit-from w ↦ ap over w.in-Some.is ∙ overlaid-elsewhere c.args.self.now w.in-Some.edit c.args.node (λ h. omega (arith, h, w.if-edit-from.false, w.from.ensures)) ∙ read
      | in_default-via-in_default w ↦ ap over w.in_default.is ∙ read
    ])
