use Rattle.std.proofs.Common.{◌≡◌, ◌+◌, ◌<◌, [], get_or, length, set, List, ap, ◌∙◌, arith}
use Rattle.std.specs.List.{insert}
use Rattle.std.proofs.lemmas.List.{get_or_default}
use Rattle.std.proofs.lemmas.List.Edits.{length-insert}
use Rattle.lock_table.specs.declared.owner_locks.OwnerLocks.{OwnerLocks}
use Rattle.lock_table.specs.rule.Tables.{all_rows}
use Rattle.lock_table.proofs.BlockRows.{all_insert_row, some-set}
use Rattle.lock_table.proofs.blocks.insert_in.Goals as goal

pub returns-clause-rows : goal.returns-clause-rows
returns-clause-rows c =
    let blocks = c.args.blocks.now.items in
    let at = c.args.place.block in
    let own : c.index_mut.result.now ≡ get_or blocks at [] = c.index_mut.ensures.value ∙ get_or_default blocks at c.index_mut.result.now [] (omega (arith, c.requires.block)) in
    let made : c.insert.new.self ≡ insert (get_or blocks at []) c.args.place.row c.args.row = c.insert.ensures ∙ ap (λ (l : List OwnerLocks). insert l c.args.place.row c.args.row) own in
    ap (λ (l : List OwnerLocks). all_rows (set blocks at l)) made ∙ all_insert_row blocks c.args.place (omega (arith, c.requires.block)) c.args.row c.requires.within

pub returns-clause-some : goal.returns-clause-some
returns-clause-some c =
    let blocks = c.args.blocks.now.items in
    let at = c.args.place.block in
    let own : c.index_mut.result.now ≡ get_or blocks at [] = c.index_mut.ensures.value ∙ get_or_default blocks at c.index_mut.result.now [] (omega (arith, c.requires.block)) in
    let made : c.insert.new.self ≡ insert (get_or blocks at []) c.args.place.row c.args.row = c.insert.ensures ∙ ap (λ (l : List OwnerLocks). insert l c.args.place.row c.args.row) own in
    let long = ap length made ∙ length-insert (get_or blocks at []) c.args.place.row c.args.row c.requires.within in
    some-set blocks at c.insert.new.self c.requires.some (omega (arith, long))
