use Rattle.std.proofs.Common.{◌≡◌, refl, ◌+◌, ◌<◌, [], get_or, length, List, ap, sym, ◌∙◌, inl, inr, arith}
use Rattle.std.specs.List.{insert}
use Rattle.std.proofs.lemmas.Bool.{cases_lt}
use Rattle.std.proofs.lemmas.Bool.Decides.{nat_tests}
use Rattle.lock_table.specs.declared.owner_locks.OwnerLocks.{OwnerLocks}
use Rattle.lock_table.specs.rule.Tables.{all_rows}
use Rattle.lock_table.specs.code.Rows.{rows_before}
use Rattle.lock_table.proofs.BlockRows.{place_moved}
use Rattle.lock_table.proofs.blocks.insert_row.Goals as goal

pub insert_in-requires-2-clause-room : goal.insert_in-requires-2-clause-room
insert_in-requires-2-clause-room c = elim (cases_lt c.kept_of-kept.result c.args.place.row) [
  | inl high ↦ rw (c.place_behind.ensures.block high) (omega (arith, c.cut.ensures.upper, c.cut.ensures.few, c.kept_of-kept.ensures.some))
  | inr low ↦ rw (c.place_behind.ensures.low low) (omega (arith, c.cut.ensures.lower, c.kept_of-kept.ensures.within))
]

pub returns-clause-rows : goal.returns-clause-rows
returns-clause-rows c =
    let was = c.make_room.new.blocks.items in
    let is = c.cut.new.blocks.items in
    let ok = c.cut.new.blocks.ok in
    let okay = c.make_room.new.blocks.ok in
    let long = ap length c.make_room.ensures.blocks in
    let had = c.args.blocks.now.ok in
    let there : c.args.place.block < length is = elim c.requires.block [
      | inl lt ↦ omega (arith, lt, long, had, ok, okay, c.cut.ensures.blocks)
      | inr none ↦ absurd (grind (arith, nat_tests, c.is_empty.ensures, c.if-is_empty.false, none, long, had, okay))
    ] in
    let same : rows_before is c.place_behind.result ≡ rows_before was c.args.place = place_moved was is c.args.place c.place_behind.result c.kept_of-kept.result c.cut.ensures.below there c.cut.ensures.lower c.place_behind.ensures.low c.place_behind.ensures.block c.place_behind.ensures.row in
    rw (c.insert_in-2.ensures.rows, same, c.cut.ensures.rows, c.make_room.ensures.blocks) refl
