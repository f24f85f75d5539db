use Rattle.std.proofs.Common.{◌≡◌, ◌+◌, ◌<◌, [], ◌++◌, length, map, take, drop, List, not, leb, ap, ◌∙◌, rules, arith}
use Rattle.std.specs.List.{filter}
use Rattle.std.proofs.lemmas.Fn.{filter_same}
use Rattle.std.proofs.lemmas.List.{take_all, drop_all, append-nil}
use Rattle.std.proofs.lemmas.List.Edits.{map_over_more}
use Rattle.lock_table.specs.declared.owner_locks.OwnerLocks.{OwnerLocks}
use Rattle.lock_table.specs.rule.Tables.{all_rows}
use Rattle.lock_table.specs.code.Rows.{AreSome}
use Rattle.lock_table.proofs.RowLemmas.{is_of_other}
use Rattle.lock_table.proofs.BlockRows.{has_rows, has_rows_is, kept_rows, some_left}
use Rattle.lock_table.proofs.blocks.drop_rows.Goals as goal

pub loop-at-preserved : goal.loop-at-preserved
loop-at-preserved c =
    let old = c.args.blocks.now in
    let ok = old.ok in
    rw c.drop_owner.ensures (map_over_more (filter (is_of_other c.args.owner)) old.items c.loop-at.blocks.items c.loop-at.at c.index_mut.result.now (omega (arith, ok, c.len-at-end.ensures, c.loop-at-test.true)) c.loop-at.invariant c.index_mut.ensures.value)

pub returns-clause-rows : goal.returns-clause-rows
returns-clause-rows c =
    let old = c.args.blocks.now in
    let ok = old.ok in
    let all : take c.loop-at.at old.items ≡ old.items = take_all c.loop-at.at old.items (omega (arith, ok, c.len-at-end.ensures, c.loop-at-test.false)) in
    let none : drop c.loop-at.at old.items ≡ [] = drop_all c.loop-at.at old.items (omega (arith, ok, c.len-at-end.ensures, c.loop-at-test.false)) in
    let left : c.loop-at.blocks.items ≡ map (filter (is_of_other c.args.owner)) old.items ++ [] = rw (← all, ← none) c.loop-at.invariant in
    let kept = filter_same _ has_rows _ (λ r b f k. let e : b ≡ not (leb (length r) 0) = search rules in (e ∙ has_rows_is r, search rules)) _ _ c.retain.ensures.filtered in
    rw (kept, left, append-nil (map (filter (is_of_other c.args.owner)) old.items)) (kept_rows (is_of_other c.args.owner) old.items)

pub returns-clause-some : goal.returns-clause-some
returns-clause-some c =
    let kept = filter_same _ has_rows _ (λ r b f k. let e : b ≡ not (leb (length r) 0) = search rules in (e ∙ has_rows_is r, search rules)) _ _ c.retain.ensures.filtered in
    rw kept (some_left c.loop-at.blocks.items)
