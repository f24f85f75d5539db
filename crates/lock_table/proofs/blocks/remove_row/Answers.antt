use Rattle.std.proofs.Common.{◌≡◌, ◌<◌, [], get_or, length, set, List, ap, sym, ◌∙◌, leb-true, leb-false, arith}
use Rattle.std.specs.List.{remove}
use Rattle.std.proofs.lemmas.List.{get_or_default, get_or-set_same, length-set}
use Rattle.lock_table.specs.declared.owner_locks.OwnerLocks.{OwnerLocks}
use Rattle.lock_table.specs.rule.Tables.{all_rows}
use Rattle.lock_table.proofs.BlockRows.{remove-set, all_remove_row, block_there, drop_empty, some-set, some-remove}
use Rattle.lock_table.proofs.blocks.remove_row.Goals as goal

pub returns-then-is_empty-clause-rows : goal.returns-then-is_empty-clause-rows
returns-then-is_empty-clause-rows c =
    let blocks = c.args.blocks.now.items in
    let at = c.args.place.block in
    let there = block_there blocks at c.args.place.row c.requires.within in
    let own : c.index_mut.result.now ≡ get_or blocks at [] = c.index_mut.ensures.value ∙ get_or_default blocks at c.index_mut.result.now [] there in
    let made : c.remove.new.self ≡ remove (get_or blocks at []) c.args.place.row = c.remove.ensures ∙ ap (λ (l : List OwnerLocks). remove l c.args.place.row) own in
    let read : c.index.result.now ≡ c.remove.new.self = c.index.ensures ∙ get_or-set_same blocks at c.remove.new.self c.index.result.now there in
    let none : length c.index.result.now ≡ 0 = let le = leb-true _ _ (sym c.is_empty.ensures ∙ c.if-is_empty.true) in omega arith in
    let empty : length (get_or (set blocks at c.remove.new.self) at []) ≡ 0 = ap length (get_or-set_same blocks at c.remove.new.self [] there) ∙ (ap length (sym read) ∙ none) in
    let long = length-set blocks at c.remove.new.self in
    rw c.remove-then-is_empty.ensures.items (drop_empty (set blocks at c.remove.new.self) at (omega arith) empty ∙ (ap (λ (l : List OwnerLocks). all_rows (set blocks at l)) made ∙ all_remove_row blocks c.args.place there c.requires.within))

pub returns-then-is_empty-clause-some : goal.returns-then-is_empty-clause-some
returns-then-is_empty-clause-some c =
    let blocks = c.args.blocks.now.items in
    rw (c.remove-then-is_empty.ensures.items, remove-set blocks c.args.place.block c.remove.new.self) (some-remove blocks c.args.place.block c.requires.some)

pub returns-else-is_empty-clause-rows : goal.returns-else-is_empty-clause-rows
returns-else-is_empty-clause-rows c =
    let blocks = c.args.blocks.now.items in
    let at = c.args.place.block in
    let there = block_there blocks at c.args.place.row c.requires.within in
    let own : c.index_mut.result.now ≡ get_or blocks at [] = c.index_mut.ensures.value ∙ get_or_default blocks at c.index_mut.result.now [] there in
    let made : c.remove.new.self ≡ remove (get_or blocks at []) c.args.place.row = c.remove.ensures ∙ ap (λ (l : List OwnerLocks). remove l c.args.place.row) own in
    ap (λ (l : List OwnerLocks). all_rows (set blocks at l)) made ∙ all_remove_row blocks c.args.place there c.requires.within

pub returns-else-is_empty-clause-some : goal.returns-else-is_empty-clause-some
returns-else-is_empty-clause-some c =
    let blocks = c.args.blocks.now.items in
    let at = c.args.place.block in
    let there = block_there blocks at c.args.place.row c.requires.within in
    let read : c.index.result.now ≡ c.remove.new.self = c.index.ensures ∙ get_or-set_same blocks at c.remove.new.self c.index.result.now there in
    let some : 0 < length c.index.result.now = leb-false _ _ (sym c.is_empty.ensures ∙ c.if-is_empty.false) in
    some-set blocks at c.remove.new.self c.requires.some (omega (arith, some, ap length read))
