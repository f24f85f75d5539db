use Rattle.std.specs.Prelude.{◌≡◌, ◌-◌, Option, Some, None}
use Rattle.std.proofs.Common.{sym, ap, ◌∙◌, arith}
use Rattle.token_server.specs.declared.known_nodes.known_node.KnownNode.{KnownNode}
use Rattle.token_server.specs.declared.known_nodes.row_edit.RowAfter.{RowAfter}
use Rattle.token_server.specs.declared.known_nodes.row_edit.RowEdit.{RowEdit}
use Rattle.token_server.specs.rule.Rows.{Row}
use Rattle.token_server.specs.rule.RowParts.{known_node_at}
use Rattle.token_server.specs.code.Rows.{row_kept, row_promised, given_to_known_node, rows_overlaid}
use Rattle.token_server.proofs.KnownNodeLaws.{overlaid-here, overlaid-elsewhere, overlaid-none, rows_of-there}
use Rattle.token_server.proofs.known_nodes.known_nodes.KnownNodes.given.Goals.{in-Some-edit+in_ok-row-in-Some-edit, in_default-edit+in_ok-row-in_default-edit, in_default-edit-via-in-Some-edit+else-edit-place, in_default-edit-via-in_default-edit}
use Rattle.token_server.proofs.known_nodes.known_nodes.KnownNodes.given.Goals as goal

pub returns-in_default-clause-row : goal.returns-in_default-clause-row
returns-in_default-clause-row c =
    let none : known_node_at c.args.self.now c.args.node ≡ None = sym c.in_default.ensures.value in
    ap (given_to_known_node (record { place = c.from-place.result - 1; row = None })) none
    ∙ sym (ap (row_promised c.args.commands c.args.command.now) (overlaid-none c.args.self.now c.args.edit.now c.args.node none))

pub returns-clause-row : goal.returns-clause-row
returns-clause-row c =
    let known_node : KnownNode = c.in-Some.known_node.now in
    let there : known_node_at c.args.self.now c.args.node ≡ Some known_node = sym c.in-Some.ensures.value in
    let over = λ (o : Option RowEdit). rows_overlaid c.args.self.now o c.args.node in
    let tell = λ (row : Option Row). row_promised c.args.commands c.args.command.now row in
    ap (given_to_known_node (record { place = c.from-place.result - 1; row = c.match-edit.row })) there
    ∙ elim c.match-edit.branch [
      | in-Some-edit+in_ok-row-in-Some-edit w ↦
          ap (λ (r : Option RowAfter). row_kept r known_node.row) w.row-is
          ∙ w.in_ok-row-in-Some-edit.ensures
          ∙ ap tell (sym (ap over w.in-Some-edit.is ∙ overlaid-here c.args.self.now w.in-Some-edit.edit c.args.node (Some known_node) (omega (arith, w.if-edit-place.true, c.from-place.ensures, c.requires)) there))
      | in_default-edit+in_ok-row-in_default-edit w ↦
          ap (λ (r : Option RowAfter). row_kept r known_node.row) w.row-is
          ∙ w.in_ok-row-in_default-edit.ensures
          ∙ ap tell (sym (elim w.in_default-edit.branch [
            | in_default-edit-via-in-Some-edit+else-edit-place v ↦ ap over v.in-Some-edit.is ∙ overlaid-elsewhere c.args.self.now v.in-Some-edit.edit c.args.node (λ h. omega (arith, h, v.if-edit-place.false, c.from-place.ensures, c.requires)) ∙ rows_of-there c.args.self.now c.args.node known_node there
            | in_default-edit-via-in_default-edit v ↦ ap over v.in_default-edit.is ∙ rows_of-there c.args.self.now c.args.node known_node there
          ]))
    ]
