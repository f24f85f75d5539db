use Rattle.std.proofs.Common.{◌≡◌, ◌++◌, flat_map, string_bytes, take}
use Rattle.states.specs.rule.Texts.{served_line}
use Rattle.states.proofs.state_text.push_served.Given as goal

abbrev pub invariant-loop-held : goal.invariant-loop-held
invariant-loop-held l = string_bytes l.out ≡ string_bytes l.fn.out ++ flat_map (served_line l.version l.file) (take l.held-index l.served)
