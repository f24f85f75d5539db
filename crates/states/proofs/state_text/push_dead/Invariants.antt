use Rattle.std.proofs.Common.{◌≡◌, ◌++◌, flat_map, string_bytes, take}
use Rattle.states.specs.rule.Texts.{dead_line}
use Rattle.states.proofs.state_text.push_dead.Given as goal

abbrev pub invariant-loop-known : goal.invariant-loop-known
invariant-loop-known l = string_bytes l.out ≡ string_bytes l.fn.out ++ flat_map (dead_line l.file) (take l.known-index l.dead)
