use Rattle.std.proofs.Common.{◌≡◌, codes, ◌++◌, flat_map, string_bytes, take}
use Rattle.lockscript.specs.rule.Listing.{refused_line}
use Rattle.lockscript.proofs.listing.push_refused.Given as goal

abbrev pub invariant-loop-line : goal.invariant-loop-line
invariant-loop-line l = string_bytes l.out ≡ string_bytes l.fn.out ++ codes "refused\n" ++ flat_map refused_line (take l.line-index l.refused)
