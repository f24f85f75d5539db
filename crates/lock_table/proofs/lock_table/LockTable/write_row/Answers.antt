use Rattle.std.proofs.Common.{◌≡◌, [], get_or, length, List, ap, subst, arith}
use Rattle.lock_table.specs.declared.owner_locks.OwnerLocks.{OwnerLocks}
use Rattle.lock_table.specs.code.Rows.{IsRowIn, RunsFit, IsRowWritten}
use Rattle.lock_table.proofs.RowLemmas.{place_below, blocks_are}
use Rattle.lock_table.proofs.BlockRows.{own_block, written_some, written_within, written_kept, written_gone}
use Rattle.lock_table.proofs.lock_table.LockTable.write_row.Goals as goal

pub write-requires : goal.write-requires
write-requires c =
    let blocks = c.self.inside.blocks.items in
    let place = c.args.place in
    let at : IsRowIn blocks place c.args.file c.args.owner = rw (blocks_are c.self.inside.blocks.items c.self.inside.limit c.args.self.now c.self.view_is) c.requires.row in
    let own : c.index_mut.result.now ≡ get_or blocks place.block [] = own_block blocks place c.args.file c.args.owner c.index_mut.result.now at c.index_mut.ensures.value in
    let lt = place_below _ _ _ _ at in
    omega (arith, lt, ap length own)

pub remove_row-requires-clause-within : goal.remove_row-requires-clause-within
remove_row-requires-clause-within c =
    let blocks = c.self.inside.blocks.items in
    let place = c.args.place in
    let at : IsRowIn blocks place c.args.file c.args.owner = rw (blocks_are c.self.inside.blocks.items c.self.inside.limit c.args.self.now c.self.view_is) c.requires.row in
    let own : c.index_mut.result.now ≡ get_or blocks place.block [] = own_block blocks place c.args.file c.args.owner c.index_mut.result.now at c.index_mut.ensures.value in
    let few : RunsFit blocks place c.args.write.runs = rw (blocks_are c.self.inside.blocks.items c.self.inside.limit c.args.self.now c.self.view_is) c.requires.runs in
    let w : IsRowWritten (get_or blocks place.block []) c.write.new.self place.row c.args.write c.write.result = subst (λ (l : List OwnerLocks). IsRowWritten l c.write.new.self place.row c.args.write c.write.result) own c.write.ensures in
    written_within blocks place c.args.file c.args.owner c.args.write c.write.new.self c.write.result c.self.invariant.0 at few w

pub remove_row-requires-clause-some : goal.remove_row-requires-clause-some
remove_row-requires-clause-some c =
    let blocks = c.self.inside.blocks.items in
    let place = c.args.place in
    let at : IsRowIn blocks place c.args.file c.args.owner = rw (blocks_are c.self.inside.blocks.items c.self.inside.limit c.args.self.now c.self.view_is) c.requires.row in
    let own : c.index_mut.result.now ≡ get_or blocks place.block [] = own_block blocks place c.args.file c.args.owner c.index_mut.result.now at c.index_mut.ensures.value in
    let few : RunsFit blocks place c.args.write.runs = rw (blocks_are c.self.inside.blocks.items c.self.inside.limit c.args.self.now c.self.view_is) c.requires.runs in
    let w : IsRowWritten (get_or blocks place.block []) c.write.new.self place.row c.args.write c.write.result = subst (λ (l : List OwnerLocks). IsRowWritten l c.write.new.self place.row c.args.write c.write.result) own c.write.ensures in
    written_some blocks place c.args.file c.args.owner c.args.write c.write.new.self c.write.result c.self.invariant.0 at few w c.self.invariant.1

pub invariant_of-self : goal.invariant_of-self
invariant_of-self c =
    let blocks = c.self.inside.blocks.items in
    let place = c.args.place in
    let at : IsRowIn blocks place c.args.file c.args.owner = rw (blocks_are c.self.inside.blocks.items c.self.inside.limit c.args.self.now c.self.view_is) c.requires.row in
    let own : c.index_mut.result.now ≡ get_or blocks place.block [] = own_block blocks place c.args.file c.args.owner c.index_mut.result.now at c.index_mut.ensures.value in
    let few : RunsFit blocks place c.args.write.runs = rw (blocks_are c.self.inside.blocks.items c.self.inside.limit c.args.self.now c.self.view_is) c.requires.runs in
    let w : IsRowWritten (get_or blocks place.block []) c.write.new.self place.row c.args.write c.write.result = subst (λ (l : List OwnerLocks). IsRowWritten l c.write.new.self place.row c.args.write c.write.result) own c.write.ensures in
    let left = written_gone blocks place c.args.file c.args.owner c.args.write c.write.new.self c.write.result c.self.invariant.0 at few w c.self.inside.index c.note_write.new.self c.self.invariant.2 c.note_write.ensures.keeps c.note_write.ensures.noted c.if-write.true in
    rw c.remove_row.ensures.rows (left.0, c.remove_row.ensures.some, left.1)

pub invariant_of-self-else-write : goal.invariant_of-self-else-write
invariant_of-self-else-write c =
    let blocks = c.self.inside.blocks.items in
    let place = c.args.place in
    let at : IsRowIn blocks place c.args.file c.args.owner = rw (blocks_are c.self.inside.blocks.items c.self.inside.limit c.args.self.now c.self.view_is) c.requires.row in
    let own : c.index_mut.result.now ≡ get_or blocks place.block [] = own_block blocks place c.args.file c.args.owner c.index_mut.result.now at c.index_mut.ensures.value in
    let few : RunsFit blocks place c.args.write.runs = rw (blocks_are c.self.inside.blocks.items c.self.inside.limit c.args.self.now c.self.view_is) c.requires.runs in
    let w : IsRowWritten (get_or blocks place.block []) c.write.new.self place.row c.args.write c.write.result = subst (λ (l : List OwnerLocks). IsRowWritten l c.write.new.self place.row c.args.write c.write.result) own c.write.ensures in
    let left = written_kept blocks place c.args.file c.args.owner c.args.write c.write.new.self c.write.result c.self.invariant.0 at few w c.self.inside.index c.note_write.new.self c.self.invariant.2 c.note_write.ensures.keeps c.note_write.ensures.noted c.if-write.false in
    (left.0, written_some blocks place c.args.file c.args.owner c.args.write c.write.new.self c.write.result c.self.invariant.0 at few w c.self.invariant.1, left.1)

pub returns-then-write-clause-locks : goal.returns-then-write-clause-locks
returns-then-write-clause-locks c =
    let blocks = c.self.inside.blocks.items in
    let place = c.args.place in
    let at : IsRowIn blocks place c.args.file c.args.owner = rw (blocks_are c.self.inside.blocks.items c.self.inside.limit c.args.self.now c.self.view_is) c.requires.row in
    let own : c.index_mut.result.now ≡ get_or blocks place.block [] = own_block blocks place c.args.file c.args.owner c.index_mut.result.now at c.index_mut.ensures.value in
    let few : RunsFit blocks place c.args.write.runs = rw (blocks_are c.self.inside.blocks.items c.self.inside.limit c.args.self.now c.self.view_is) c.requires.runs in
    let w : IsRowWritten (get_or blocks place.block []) c.write.new.self place.row c.args.write c.write.result = subst (λ (l : List OwnerLocks). IsRowWritten l c.write.new.self place.row c.args.write c.write.result) own c.write.ensures in
    let left = written_gone blocks place c.args.file c.args.owner c.args.write c.write.new.self c.write.result c.self.invariant.0 at few w c.self.inside.index c.note_write.new.self c.self.invariant.2 c.note_write.ensures.keeps c.note_write.ensures.noted c.if-write.true in
    rw (c.remove_row.ensures.rows, ← (blocks_are c.self.inside.blocks.items c.self.inside.limit c.args.self.now c.self.view_is)) (λ j f o. left.2 f o j)

pub returns-else-write-clause-locks : goal.returns-else-write-clause-locks
returns-else-write-clause-locks c =
    let blocks = c.self.inside.blocks.items in
    let place = c.args.place in
    let at : IsRowIn blocks place c.args.file c.args.owner = rw (blocks_are c.self.inside.blocks.items c.self.inside.limit c.args.self.now c.self.view_is) c.requires.row in
    let own : c.index_mut.result.now ≡ get_or blocks place.block [] = own_block blocks place c.args.file c.args.owner c.index_mut.result.now at c.index_mut.ensures.value in
    let few : RunsFit blocks place c.args.write.runs = rw (blocks_are c.self.inside.blocks.items c.self.inside.limit c.args.self.now c.self.view_is) c.requires.runs in
    let w : IsRowWritten (get_or blocks place.block []) c.write.new.self place.row c.args.write c.write.result = subst (λ (l : List OwnerLocks). IsRowWritten l c.write.new.self place.row c.args.write c.write.result) own c.write.ensures in
    let left = written_kept blocks place c.args.file c.args.owner c.args.write c.write.new.self c.write.result c.self.invariant.0 at few w c.self.inside.index c.note_write.new.self c.self.invariant.2 c.note_write.ensures.keeps c.note_write.ensures.noted c.if-write.false in
    rw (← (blocks_are c.self.inside.blocks.items c.self.inside.limit c.args.self.now c.self.view_is)) (λ j f o. left.2 f o j)
