use Rattle.std.proofs.Common.{◌≡◌, ◌++◌, take}
use Rattle.std.specs.Prelude.{map}
use Rattle.run_clients.specs.rule.Seen.{call_of}
use Rattle.run_clients.proofs.clients.push_calls.Given as goal

-- the calls of the first deeds were added
abbrev pub invariant-loop-deed : goal.invariant-loop-deed
invariant-loop-deed l = l.seen.items ≡ l.fn.seen.items ++ map (call_of l.op l.begin l.end) (take l.deed-index l.deeds)
