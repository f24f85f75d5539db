use Rattle.std.specs.Prelude.{ℕ, ◌-◌, length, IfSome, Option}
use Rattle.std.proofs.Common.{sym, ap, subst, ◌∙◌}
use Rattle.model.specs.rule.Limits.{IsNumber}
use Rattle.token_server.specs.declared.known_nodes.row_edit.RowEdit.{RowEdit}
use Rattle.token_server.specs.declared.known_nodes.known_change.Changed.{Changed}
use Rattle.token_server.specs.rule.RowParts.{rows_of, deaths_of}
use Rattle.token_server.specs.code.Rows.{row_after, dead_after, rows_after, deaths_after}
use Rattle.token_server.proofs.KnownNodeLaws.{Changes, rows_of-edit, deaths_of-edit, rows_of-there, deaths_of-there, stays-at}
use Rattle.token_server.proofs.known_nodes.known_nodes.KnownNodes.edit.Goals as goal

pub returns-then-stays-clause-rows : goal.returns-then-stays-clause-rows
returns-then-stays-clause-rows c =
    let rows = rows_of c.args.self.now in
    let own = c.in-Some.changed in
    let there = rows_of-there c.args.self.now own.node c.at-known_node.result.now c.at-known_node.ensures in
    stays-at own.node (row_after own.change) rows (ap (row_after own.change) there ∙ c.stays.ensures.row c.if-stays.true ∙ sym there)
    ∙ ap (λ (o : Option Changed). rows_after o rows) (sym c.in-Some.is)

pub returns-then-stays-clause-deaths : goal.returns-then-stays-clause-deaths
returns-then-stays-clause-deaths c =
    let deaths = deaths_of c.args.self.now in
    let own = c.in-Some.changed in
    let there = deaths_of-there c.args.self.now own.node c.at-known_node.result.now c.at-known_node.ensures in
    stays-at own.node (dead_after own.change) deaths (ap (dead_after own.change) there ∙ c.stays.ensures.dead c.if-stays.true ∙ sym there)
    ∙ ap (λ (o : Option Changed). deaths_after o deaths) (sym c.in-Some.is)

pub returns-clause-rows : goal.returns-clause-rows
returns-clause-rows c =
    let within = subst (λ (o : Option Changed). IfSome o (λ k. IsNumber (length c.args.self.now) k.node)) c.in-Some.is c.requires in
    let e : RowEdit = record { given = record { place = c.from.result - 1; row = c.in_ok-row_after.field-0 }; dead = c.dead_after.result } in
    let x : Changes c.at-known_node.result.now c.in-Some.changed e = record { place_is = ap (λ (n : ℕ). n - 1) c.from.ensures; row_is = c.in_ok-row_after.ensures; dead_is = c.dead_after.ensures } in
    rows_of-edit c.args.self.now c.in-Some.changed c.at-known_node.result.now e within c.at-known_node.ensures x
    ∙ ap (λ (o : Option Changed). rows_after o (rows_of c.args.self.now)) (sym c.in-Some.is)

pub returns-clause-deaths : goal.returns-clause-deaths
returns-clause-deaths c =
    let within = subst (λ (o : Option Changed). IfSome o (λ k. IsNumber (length c.args.self.now) k.node)) c.in-Some.is c.requires in
    let e : RowEdit = record { given = record { place = c.from.result - 1; row = c.in_ok-row_after.field-0 }; dead = c.dead_after.result } in
    let x : Changes c.at-known_node.result.now c.in-Some.changed e = record { place_is = ap (λ (n : ℕ). n - 1) c.from.ensures; row_is = c.in_ok-row_after.ensures; dead_is = c.dead_after.ensures } in
    deaths_of-edit c.args.self.now c.in-Some.changed c.at-known_node.result.now e within c.at-known_node.ensures x
    ∙ ap (λ (o : Option Changed). deaths_after o (deaths_of c.args.self.now)) (sym c.in-Some.is)
