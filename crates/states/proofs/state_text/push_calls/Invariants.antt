use Rattle.std.proofs.Common.{◌≡◌, ◌++◌, flat_map, string_bytes, take}
use Rattle.states.specs.rule.Texts.{open_line}
use Rattle.states.proofs.state_text.push_calls.Given as goal

abbrev pub invariant-loop-call : goal.invariant-loop-call
invariant-loop-call l = string_bytes l.out ≡ string_bytes l.fn.out ++ flat_map (open_line l.told.node l.incarnation) (take l.call-index l.told.calls.items)
