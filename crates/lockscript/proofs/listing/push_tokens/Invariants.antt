use Rattle.std.proofs.Common.{◌≡◌, codes, ◌++◌, flat_map, string_bytes, take}
use Rattle.lockscript.specs.rule.Listing.{token_line}
use Rattle.lockscript.proofs.listing.push_tokens.Given as goal

abbrev pub invariant-loop-token : goal.invariant-loop-token
invariant-loop-token l = string_bytes l.out ≡ string_bytes l.fn.out ++ codes "tokens\n" ++ flat_map token_line (take l.token-index l.tokens)
