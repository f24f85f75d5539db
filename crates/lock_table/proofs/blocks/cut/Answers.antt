use Rattle.std.proofs.Common.{◌≡◌, suc, ◌+◌, ◌<◌, [], get_or, length, set, take, drop, List, ap, ◌∙◌, arith}
use Rattle.std.specs.List.{insert}
use Rattle.std.proofs.lemmas.List.{get_or_default, length-take, length-drop}
use Rattle.lock_table.specs.declared.owner_locks.OwnerLocks.{OwnerLocks}
use Rattle.lock_table.specs.rule.Tables.{all_rows}
use Rattle.lock_table.proofs.BlockRows.{cut_rows, some-set, some-insert}
use Rattle.lock_table.proofs.blocks.cut.Goals as goal

pub returns-clause-rows : goal.returns-clause-rows
returns-clause-rows c =
    let blocks = c.args.blocks.now.items in
    let own : c.index_mut.result.now ≡ get_or blocks c.args.at [] = c.index_mut.ensures.value ∙ get_or_default blocks c.args.at c.index_mut.result.now [] (omega (arith, c.requires.block)) in
    let lower : c.move_upper.new.self ≡ take c.args.kept (get_or blocks c.args.at []) = c.move_upper.ensures.kept ∙ ap (take c.args.kept) own in
    let upper : c.move_upper.new.upper ≡ drop c.args.kept (get_or blocks c.args.at []) = c.move_upper.ensures.upper ∙ ap (drop c.args.kept) own in
    let next : c.args.at + 1 ≡ suc c.args.at = omega arith in
    rw (c.insert_block.ensures, lower, upper, next) (cut_rows blocks c.args.at c.args.kept (omega (arith, c.requires.block)))

pub returns-clause-some : goal.returns-clause-some
returns-clause-some c =
    let blocks = c.args.blocks.now.items in
    let own : c.index_mut.result.now ≡ get_or blocks c.args.at [] = c.index_mut.ensures.value ∙ get_or_default blocks c.args.at c.index_mut.result.now [] (omega (arith, c.requires.block)) in
    let lower : c.move_upper.new.self ≡ take c.args.kept (get_or blocks c.args.at []) = c.move_upper.ensures.kept ∙ ap (take c.args.kept) own in
    let upper : c.move_upper.new.upper ≡ drop c.args.kept (get_or blocks c.args.at []) = c.move_upper.ensures.upper ∙ ap (drop c.args.kept) own in
    let low = ap length lower ∙ length-take c.args.kept (get_or blocks c.args.at []) in
    let high = ap length upper ∙ length-drop c.args.kept (get_or blocks c.args.at []) in
    rw c.insert_block.ensures (some-insert (set blocks c.args.at c.move_upper.new.self) (c.args.at + 1) c.move_upper.new.upper (some-set blocks c.args.at c.move_upper.new.self c.requires.some (omega (arith, low, c.requires.some_kept, c.requires.kept))) (omega (arith, high, c.requires.kept)))
