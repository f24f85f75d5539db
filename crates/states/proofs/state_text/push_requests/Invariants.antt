use Rattle.std.proofs.Common.{◌≡◌, ◌++◌, flat_map, string_bytes, take}
use Rattle.states.specs.rule.Texts.{put_line}
use Rattle.states.proofs.state_text.push_requests.Given as goal

abbrev pub invariant-loop-request : goal.invariant-loop-request
invariant-loop-request l = string_bytes l.out ≡ string_bytes l.fn.out ++ flat_map (put_line l.version l.file l.word) (take l.request-index l.requests)
