use Rattle.std.specs.Prelude.{◌≡◌, ◌-◌, ◌<◌, Some, length}
use Rattle.std.specs.List.{slice_get}
use Rattle.std.proofs.Common.{arith, ap, sym, subst, ◌∙◌}
use Rattle.node_core.specs.rule.Files.{file_state}
use Rattle.node_core.specs.code.Plans.{edit_in, files_after, row_after, CommandFits}
use Rattle.node_core.proofs.FileLaws.{rows-count, known-count, own-row, row-written}
use Rattle.node_core.proofs.file_rows.FileRows.apply_command.Goals as goal

pub make_rows-requires : goal.make_rows-requires
make_rows-requires c =
    let is : edit_in c.args.command ≡ Some c.into_inner-edit.result = ap edit_in c.in-Some.is ∙ ap Some (sym c.into_inner-edit.ensures) in
    let within = subst (CommandFits (length c.args.self.now)) is c.requires in
    let many = known-count c.self.inside.count c.self.inside.rows.items c.args.self.now c.self.view_is in
    let most = within.1 in
    let room = c.self.invariant.1 in
    omega arith

pub returns-in-Some-clause-state : goal.returns-in-Some-clause-state
returns-in-Some-clause-state c =
    let n = c.self.inside.count in
    let now = c.args.self.now in
    let rows = c.make_rows.new.rows.items in
    let edit = c.into_inner-edit.result in
    let is : edit_in c.args.command ≡ Some edit = ap edit_in c.in-Some.is ∙ ap Some (sym c.into_inner-edit.ensures) in
    let within = subst (CommandFits (length now)) is c.requires in
    let own : edit.file - 1 < length rows = let least = within.0 in let made = c.make_rows.ensures.made in omega arith in
    let same = c.make_rows.ensures.same n ∙ c.self.view_is in
    let there = own-row n rows now edit.file c.index_mut-row.result.now same within own c.index_mut-row.ensures.value in
    row-written n rows now edit.file c.apply.new.self (row_after (slice_get now (edit.file - 1)) edit) same within own (c.apply.ensures ∙ sym (ap (λ r. row_after r edit) there))
    ∙ sym (ap (files_after (file_state now) now) is)

pub returns-in-Some-clause-count : goal.returns-in-Some-clause-count
returns-in-Some-clause-count c = rows-count c.self.inside.count _ ∙ sym (known-count c.self.inside.count c.self.inside.rows.items c.args.self.now c.self.view_is)
