use Rattle.std.proofs.Common.{◌≡◌, ◌++◌, flat_map, string_bytes, take}
use Rattle.states.specs.rule.Texts.{awaited_line}
use Rattle.states.proofs.state_text.push_awaited.Given as goal

abbrev pub invariant-loop-node : goal.invariant-loop-node
invariant-loop-node l = string_bytes l.out ≡ string_bytes l.fn.out ++ flat_map (awaited_line l.file) (take l.node-index l.nodes)
