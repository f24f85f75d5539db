use Rattle.std.specs.Prelude.{List, Option}
use Rattle.std.proofs.Common.{sym, subst}
use Rattle.std.proofs.lemmas.Bool.{not-true}
use Rattle.token_server.specs.declared.known_nodes.known_node.KnownNode.{KnownNode}
use Rattle.token_server.specs.declared.known_nodes.row_edit.RowEdit.{RowEdit}
use Rattle.token_server.specs.rule.RowParts.{rows_of}
use Rattle.token_server.specs.code.Rows.{rows_overlaid, NoneExclusive}
use Rattle.token_server.proofs.KnownNodeLaws.{exclusive-edited}
use Rattle.token_server.proofs.known_nodes.known_nodes.KnownNodes.excludes_none.Goals as goal

pub returns-in-Some : goal.returns-in-Some
returns-in-Some c = λ given.
    let none : NoneExclusive (rows_of c.args.self.now) = subst (λ (cs : List KnownNode). NoneExclusive (rows_of cs)) c.self.view_is (c.self.invariant c.if-self.false) in
    subst (λ (o : Option RowEdit). NoneExclusive (rows_overlaid c.args.self.now o)) (sym c.in-Some.is) (exclusive-edited c.args.self.now c.in-Some.edit (c.may_exclude.ensures (not-true c.may_exclude.result given)) none)
