use Rattle.std.proofs.Common.{◌≡◌, ◌+◌, ◌*◌, ◌≤◌, true, ltb, drop, length, arith}
use Rattle.std.specs.List.{AllWithin}
use Rattle.std.proofs.lemmas.List.{length-drop}
use Rattle.lock_table.specs.declared.owner_locks.OwnerLocks.{OwnerLocks}
use Rattle.lock_table.specs.code.Rows.{flag_of, mark_of}
use Rattle.lock_table.proofs.RowLemmas.{rows-drop}
use Rattle.lock_table.proofs.BlockerLemmas.{flags_passed}
use Rattle.lock_table.proofs.place.next_near.Goals as goal

pub marks_below-requires : goal.marks_below-requires
marks_below-requires c = rw c.split_at.ensures.back (rows-drop c.args.rows.now c.args.from c.requires.rows)

pub returns-clause-within : goal.returns-clause-within
returns-clause-within c =
    let few : c.marks_below.result ≤ length (drop c.args.from c.args.rows.now) = rw c.split_at.ensures.back at c.marks_below.ensures.within in
    omega (arith, few, length-drop c.args.from c.args.rows.now, c.requires.from)

pub returns-clause-passed : goal.returns-clause-passed
returns-clause-passed c =
    let rows = c.args.rows.now in
    let first = c.index-rows-from.result in
    let next = c.next-next.result in
    let flag : c.flag_of.result ≡ flag_of first.owner = c.flag_of.ensures.result in
    let below : AllWithin (λ (r : OwnerLocks). ltb (mark_of r.file r.owner) (first.file * 256 + next) ≡ true) (drop c.args.from rows) 0 c.marks_below.result = rw c.split_at.ensures.back at c.marks_below.ensures.below in
    let few : c.marks_below.result ≤ length (drop c.args.from rows) = rw c.split_at.ensures.back at c.marks_below.ensures.within in
    flags_passed rows c.args.near.now c.args.from next c.marks_below.result first c.requires.rows (omega arith) c.index-rows-from.is (rw flag at c.next-next.ensures.none_below) c.next-next.ensures.within below (omega (arith, few, length-drop c.args.from rows, c.requires.from))
