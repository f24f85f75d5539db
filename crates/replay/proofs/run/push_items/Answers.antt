use Rattle.std.proofs.Common.{string_bytes}
use Rattle.replay.proofs.Sections.{item_told, items_told}
use Rattle.replay.proofs.run.push_items.Goals as goal

pub loop-index-preserved : goal.loop-index-preserved
loop-index-preserved c =
    item_told c.args.entries.now c.args.slots.now c.loop-index.index _ (string_bytes c.args.out.now) _ _ _ c.loop-index-test.true c.item.ensures c.loop-index.invariant c.in_ok-push_standing.ensures

pub returns : goal.returns
returns c = items_told c.args.entries.now c.args.slots.now c.loop-index.index (string_bytes c.args.out.now) _ c.loop-index-test.false c.loop-index.invariant
