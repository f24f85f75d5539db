use Rattle.std.proofs.Common.{◌≡◌, codes, ◌+◌, ◌++◌, string_bytes, drop}
use Rattle.lockscript.specs.rule.Listing.{reply_lines}
use Rattle.lockscript.proofs.listing.push_replies.Given as goal

abbrev pub invariant-loop-entry : goal.invariant-loop-entry
invariant-loop-entry l = record {
  counted : l.position ≡ l.entry-index;
  written : string_bytes l.out ++ reply_lines (l.position + 1) (drop l.entry-index l.entries) ≡ string_bytes l.fn.out ++ codes "replies\n" ++ reply_lines 1 l.entries;
}
