use Rattle.std.proofs.Common.{◌≡◌, codes, ◌++◌, flat_map, string_bytes, take}
use Rattle.lockscript.specs.rule.Listing.{lock_line}
use Rattle.lockscript.proofs.listing.push_locks.Given as goal

abbrev pub invariant-loop-held : goal.invariant-loop-held
invariant-loop-held l = string_bytes l.out ≡ string_bytes l.fn.out ++ codes "locks\n" ++ flat_map lock_line (take l.held-index l.locks)
