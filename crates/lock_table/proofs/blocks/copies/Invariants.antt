use Rattle.std.proofs.Common.{◌≡◌, take}
use Rattle.lock_table.proofs.blocks.copies.Given as goal

abbrev pub invariant-loop-block : goal.invariant-loop-block
invariant-loop-block l = l.copies.items ≡ take l.block-index l.blocks
