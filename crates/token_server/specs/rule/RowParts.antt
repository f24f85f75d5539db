-- What the code keeps of the nodes, and the rows of the rules that it stands for.
use Rattle.std.specs.Prelude.{◌≡◌, ℕ, zero, suc, ◌<◌, List, length, slice_get, Option, Some, None}
use Rattle.token_set.specs.rule.Tokens.{Token}
use Rattle.token_set.specs.rule.Tokens.{token_of}
use Rattle.token_server.specs.declared.known_nodes.token_holder.TokenHolder.{TokenHolder}
use Rattle.token_server.specs.declared.known_nodes.known_node.KnownNode.{KnownNode}
use Rattle.token_server.specs.rule.Rows.{Commands, Row}

-- the row in the rules that has these commands and that token
abbrev pub row_in : Commands → Token → Row
row_in commands token = record { incarnation = commands.incarnation; token = token; number = commands.number; outstanding = commands.outstanding }

-- the row in the rules that a row of the code stands for
abbrev pub row_state : TokenHolder → Row
row_state row = row_in row.commands (token_of row.token)

abbrev pub row_seen : Option TokenHolder → Option Row
row_seen None = None
row_seen (Some row) = Some (row_state row)

-- two rows stand for one row in the rules
abbrev pub SameRow : TokenHolder → TokenHolder → Type 0
SameRow a b = (a.commands ≡ b.commands) × (token_of a.token ≡ token_of b.token)

abbrev pub row_of : Option KnownNode → Option Row
row_of None = None
row_of (Some known_node) = row_seen known_node.row

abbrev pub dead_of : Option KnownNode → ℕ
dead_of None = 0
dead_of (Some known_node) = known_node.dead

-- the server knows the same of two nodes
abbrev pub SameKnown : Option KnownNode → Option KnownNode → Type 0
SameKnown a b = (row_of a ≡ row_of b) × (dead_of a ≡ dead_of b)

-- the server knows the same of each two nodes at equal indexes
abbrev pub SameKnownNodes : List KnownNode → List KnownNode → Type 0
SameKnownNodes known_nodes others = (k : ℕ) → k < length known_nodes → SameKnown (slice_get known_nodes k) (slice_get others k)

-- the node with that number: nodes are numbered from 1
abbrev pub known_node_at : List KnownNode → ℕ → Option KnownNode
known_node_at known_nodes zero = None
known_node_at known_nodes (suc k) = slice_get known_nodes k

-- the row of each node
unfoldable pub rows_of : List KnownNode → ℕ → Option Row
rows_of known_nodes node = row_of (known_node_at known_nodes node)

-- the greatest incarnation of each node that is known to be dead, 0 where none is
unfoldable pub deaths_of : List KnownNode → ℕ → ℕ
deaths_of known_nodes node = dead_of (known_node_at known_nodes node)
