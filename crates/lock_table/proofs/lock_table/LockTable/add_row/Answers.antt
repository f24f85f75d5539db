use Rattle.std.proofs.Common.{inl, inr, arith}
use Rattle.std.proofs.lemmas.Bool.{both_ways}
use Rattle.intervals.specs.rule.Runs.{value_at}
use Rattle.lock_table.specs.code.Rows.{HoldsSome, rows_before, IsGapIn, HasRoom}
use Rattle.lock_table.specs.rule.Tables.{all_rows}
use Rattle.lock_table.proofs.BlockRows.{row_unwanted, row_added}
use Rattle.lock_table.proofs.RowLemmas.{blocks_are}
use Rattle.lock_table.proofs.lock_table.LockTable.add_row.Goals as goal

pub insert_row-requires-clause-within : goal.insert_row-requires-clause-within
insert_row-requires-clause-within c =
    let gap : IsGapIn c.self.inside.blocks.items c.args.place c.args.file c.args.owner = rw (blocks_are c.self.inside.blocks.items c.self.inside.limit c.args.self.now c.self.view_is) c.requires.gap in
    gap.within

pub insert_row-requires-clause-block : goal.insert_row-requires-clause-block
insert_row-requires-clause-block c =
    let gap : IsGapIn c.self.inside.blocks.items c.args.place c.args.file c.args.owner = rw (blocks_are c.self.inside.blocks.items c.self.inside.limit c.args.self.now c.self.view_is) c.requires.gap in
    let ok = c.self.inside.blocks.ok in
    elim gap.block [ inl lt ↦ inl (omega (arith, lt, ok)) | inr none ↦ inr (omega (arith, none, ok)) ]

pub insert_row-requires-clause-room : goal.insert_row-requires-clause-room
insert_row-requires-clause-room c = rw (blocks_are c.self.inside.blocks.items c.self.inside.limit c.args.self.now c.self.view_is) c.requires.room

pub invariant_of-self : goal.invariant_of-self
invariant_of-self c =
    let blocks = c.self.inside.blocks.items in
    let rows = all_rows blocks in
    let gap : IsGapIn blocks c.args.place c.args.file c.args.owner = rw (blocks_are c.self.inside.blocks.items c.self.inside.limit c.args.self.now c.self.view_is) c.requires.gap in
    let left = row_unwanted c.self.inside.index c.note_write.new.self rows (rows_before blocks c.args.place) c.args.file c.args.owner c.args.write (c.self.invariant.0, c.self.invariant.2) c.note_write.ensures.keeps c.note_write.ensures.noted c.new-spans.result c.apply.new.self gap.gap c.new-spans.ensures.at c.new-spans.ensures.runs c.apply.ensures (c.is_empty.ensures.empty.0 c.if-is_empty.true) in
    (left.0, c.self.invariant.1, left.1)

pub returns-then-is_empty-clause-locks : goal.returns-then-is_empty-clause-locks
returns-then-is_empty-clause-locks c =
    let blocks = c.self.inside.blocks.items in
    let rows = all_rows blocks in
    let gap : IsGapIn blocks c.args.place c.args.file c.args.owner = rw (blocks_are c.self.inside.blocks.items c.self.inside.limit c.args.self.now c.self.view_is) c.requires.gap in
    let left = row_unwanted c.self.inside.index c.note_write.new.self rows (rows_before blocks c.args.place) c.args.file c.args.owner c.args.write (c.self.invariant.0, c.self.invariant.2) c.note_write.ensures.keeps c.note_write.ensures.noted c.new-spans.result c.apply.new.self gap.gap c.new-spans.ensures.at c.new-spans.ensures.runs c.apply.ensures (c.is_empty.ensures.empty.0 c.if-is_empty.true) in
    rw (← (blocks_are c.self.inside.blocks.items c.self.inside.limit c.args.self.now c.self.view_is)) (λ j f o. left.2 f o j)

pub invariant_of-self-2 : goal.invariant_of-self-2
invariant_of-self-2 c =
    let blocks = c.self.inside.blocks.items in
    let rows = all_rows blocks in
    let gap : IsGapIn blocks c.args.place c.args.file c.args.owner = rw (blocks_are c.self.inside.blocks.items c.self.inside.limit c.args.self.now c.self.view_is) c.requires.gap in
    let some : HoldsSome (value_at c.apply.new.self) = record { some = λ none. both_ways _ c.if-is_empty.false (c.is_empty.ensures.empty.1 none); bounded = c.is_empty.ensures.bounded } in
    let left = row_added c.self.inside.index c.note_write.new.self rows (rows_before blocks c.args.place) c.args.file c.args.owner c.args.write (c.self.invariant.0, c.self.invariant.2) c.note_write.ensures.keeps c.note_write.ensures.noted c.new-spans.result c.apply.new.self gap.gap c.new-spans.ensures.at c.new-spans.ensures.runs c.apply.ensures some in
    rw c.insert_row.ensures.rows (left.0, c.insert_row.ensures.some, left.1)

pub returns-clause-locks : goal.returns-clause-locks
returns-clause-locks c =
    let blocks = c.self.inside.blocks.items in
    let rows = all_rows blocks in
    let gap : IsGapIn blocks c.args.place c.args.file c.args.owner = rw (blocks_are c.self.inside.blocks.items c.self.inside.limit c.args.self.now c.self.view_is) c.requires.gap in
    let some : HoldsSome (value_at c.apply.new.self) = record { some = λ none. both_ways _ c.if-is_empty.false (c.is_empty.ensures.empty.1 none); bounded = c.is_empty.ensures.bounded } in
    let left = row_added c.self.inside.index c.note_write.new.self rows (rows_before blocks c.args.place) c.args.file c.args.owner c.args.write (c.self.invariant.0, c.self.invariant.2) c.note_write.ensures.keeps c.note_write.ensures.noted c.new-spans.result c.apply.new.self gap.gap c.new-spans.ensures.at c.new-spans.ensures.runs c.apply.ensures some in
    rw (c.insert_row.ensures.rows, ← (blocks_are c.self.inside.blocks.items c.self.inside.limit c.args.self.now c.self.view_is)) (λ j f o. left.2 f o j)
