use Rattle.std.proofs.Common.{◌≡◌, ◌++◌, codes, flat_map, string_bytes, take}
use Rattle.states.specs.rule.Texts.{put_lines, row_lines, served_lines}
use Rattle.states.proofs.state_text.push_server.Given as goal

abbrev pub invariant-loop-row : goal.invariant-loop-row
invariant-loop-row l =
    string_bytes l.out ≡ string_bytes l.fn.out ++ served_lines l.fn.version l.server.file l.server.served.items ++ put_lines l.fn.version l.server.file (codes "queued") l.server.queued.items ++ put_lines l.fn.version l.server.file (codes "waiting") l.server.waiting.items
    ++ flat_map (row_lines l.fn.version l.server.file) (take l.row-index l.server.rows.items)
