use Rattle.std.proofs.Common.{◌≡◌, codes, ◌++◌, flat_map, string_bytes, take}
use Rattle.lockscript.specs.rule.Listing.{history_line}
use Rattle.lockscript.proofs.listing.push_history.Given as goal

abbrev pub invariant-loop-item : goal.invariant-loop-item
invariant-loop-item l = string_bytes l.out ≡ string_bytes l.fn.out ++ codes "history\n" ++ flat_map history_line (take l.item-index l.history)
