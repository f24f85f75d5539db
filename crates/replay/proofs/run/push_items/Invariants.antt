use Rattle.std.proofs.Common.{◌≡◌, ◌++◌, flat_map, string_bytes, take}
use Rattle.cluster_core.specs.code.Calls.{items_in}
use Rattle.lockscript.specs.rule.Listing.{history_line}
use Rattle.placement.specs.code.Indexes.{standing}
use Rattle.replay.proofs.run.push_items.Given as goal

abbrev pub invariant-loop-index : goal.invariant-loop-index
invariant-loop-index l = string_bytes l.out ≡ string_bytes l.fn.out ++ flat_map history_line (items_in (standing l.entries 0 (take l.index l.slots)))
