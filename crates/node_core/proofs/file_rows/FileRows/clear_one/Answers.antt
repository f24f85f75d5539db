use Rattle.std.specs.Prelude.{◌-◌, ◌<◌, false, length}
use Rattle.std.proofs.Common.{arith, ap, sym, refl, ◌∙◌}
use Rattle.node_core.specs.rule.State.{FileState}
use Rattle.node_core.specs.rule.Files.{file_state}
use Rattle.node_core.specs.code.Plans.{first_row}
use Rattle.node_core.proofs.FileLaws.{rows-count, known-count, own-row, shared-row, row-says, row-written, told-nothing}
use Rattle.node_core.proofs.file_rows.FileRows.clear_one.Goals as goal

pub returns-then-file-len-clause-state : goal.returns-then-file-len-clause-state
returns-then-file-len-clause-state c =
    let n = c.self.inside.count in
    let rows = c.self.inside.rows.items in
    let now = c.args.self.now in
    let file = c.args.file in
    let r = c.index_mut-row.result.now in
    let clear : FileState → FileState = λ f. record f { owes_freed = false } in
    let own : file - 1 < length rows = let least = c.requires.0 in omega arith in
    let there = own-row n rows now file r c.self.view_is c.requires own c.index_mut-row.ensures.value in
    row-written n rows now file c.clear_owed.new.self (clear (file_state now file)) c.self.view_is c.requires own (c.clear_owed.ensures ∙ ap clear (row-says now file r c.requires there))

pub returns-then-file-len-clause-count : goal.returns-then-file-len-clause-count
returns-then-file-len-clause-count c = rows-count c.self.inside.count _ ∙ sym (known-count c.self.inside.count c.self.inside.rows.items c.args.self.now c.self.view_is)

pub returns-else-file-len-clause-state : goal.returns-else-file-len-clause-state
returns-else-file-len-clause-state c =
    let now = c.args.self.now in
    let file = c.args.file in
    let there = shared-row c.self.inside.count c.self.inside.rows.items now file first_row c.self.view_is c.requires (let least = c.requires.0 in omega arith) refl in
    told-nothing (file_state now) file (ap (λ (f : FileState). f.owes_freed) (sym (row-says now file first_row c.requires there)))
