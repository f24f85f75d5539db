use Rattle.std.proofs.Common.{◌≡◌, ◌++◌, ℕ, List, codes, decimal, flat_map, string_bytes, take}
use Rattle.states.specs.rule.Texts.{epoch_lines, held_line, node_lines, open_lines, server_lines, token_line}
use Rattle.states.proofs.state_text.state_text.Given as goal

abbrev head_line : ℕ → List ℕ
head_line position = codes "state after entry " ++ decimal position ++ codes "\n"

abbrev pub invariant-loop-node : goal.invariant-loop-node
invariant-loop-node l = string_bytes l.out ≡ head_line l.fn.position ++ flat_map node_lines (take l.node-index l.state.nodes.items)

abbrev pub invariant-loop-epoch : goal.invariant-loop-epoch
invariant-loop-epoch l = string_bytes l.out ≡ head_line l.fn.position ++ flat_map node_lines l.state.nodes.items ++ flat_map epoch_lines (take l.epoch-index l.state.epochs.items)

abbrev pub invariant-loop-token : goal.invariant-loop-token
invariant-loop-token l = string_bytes l.out ≡ head_line l.fn.position ++ flat_map node_lines l.state.nodes.items ++ flat_map epoch_lines l.state.epochs.items ++ flat_map token_line (take l.token-index l.state.tokens.items)

abbrev pub invariant-loop-told : goal.invariant-loop-told
invariant-loop-told l =
    string_bytes l.out ≡ head_line l.fn.position ++ flat_map node_lines l.state.nodes.items ++ flat_map epoch_lines l.state.epochs.items ++ flat_map token_line l.state.tokens.items ++ flat_map held_line l.state.locks.items
    ++ flat_map open_lines (take l.told-index l.state.nodes.items)

abbrev pub invariant-loop-server : goal.invariant-loop-server
invariant-loop-server l =
    string_bytes l.out ≡ head_line l.fn.position ++ flat_map node_lines l.state.nodes.items ++ flat_map epoch_lines l.state.epochs.items ++ flat_map token_line l.state.tokens.items ++ flat_map held_line l.state.locks.items
    ++ flat_map open_lines l.state.nodes.items ++ flat_map (server_lines l.fn.version) (take l.server-index l.state.servers.items)
