use Rattle.std.proofs.Common.{subst}
use Rattle.seat_commands.specs.rule.Changes.{list_state}
use Rattle.seat_commands.specs.rule.ListFiles.{IsNext}
use Rattle.seat_commands.proofs.Readings.{blocks_on}
use Rattle.seat_commands.proofs.read_back.read_blocks.Goals as goal

pub loop-preserved : goal.loop-preserved
loop-preserved c =
    let before = c.loop.invariant in
    let next = subst (IsNext (list_state c.loop.read.list) c.loop.read.last c.loop.rest.now (list_state c.next_of.new.read.list) c.next_of.new.read.last) c.in-Block.is c.in_ok-left.ensures in
    blocks_on _ _ _ _ _ _ _ _ _ c.in-Block.left before.0 before.2 before.3 next
