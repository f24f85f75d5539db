-- The node whose row an active request waits for, and which requests stay queued.
use Rattle.std.specs.Prelude.{ℕ, Bool, true, false, not, ◌&&◌, nat_le, if◌then◌else◌, List, [], ◌∷◌, is_some, Option, Some, None, ◌||◌, ◌++◌}
use Rattle.token_server.specs.declared.token_queue.token_request.TokenRequest.{TokenRequest}
use Rattle.token_server.specs.rule.Rows.{Row}
use Rattle.token_server.specs.rule.State.{ServerState}
use Rattle.token_server.specs.rule.Serve.{conflicting_node, meets_some}

-- the node that blocks a request: the least other node whose row conflicts with the bytes that it needs; else its own node, to which it is granted
abbrev pub obstacle : ServerState → TokenRequest → ℕ
obstacle s r = let node = conflicting_node s r in if nat_le node s.shape.nodes then node else r.call.node

-- no two of the requests need a byte in common
abbrev pub are_apart : List TokenRequest → Bool
are_apart [] = true
are_apart (r ∷ rest) = not (meets_some r rest) && are_apart rest

-- the node of the row has no outstanding command: one may be sent
abbrev pub is_idle : Option Row → Bool
is_idle None = false
is_idle (Some row) = not (is_some row.outstanding)

-- each request of the list needs a byte of an active one, or of one before it: none is admitted from the queue
abbrev pub all_stay : List TokenRequest → List TokenRequest → List TokenRequest → Bool
all_stay active before [] = true
all_stay active before (r ∷ rest) = (meets_some r active || meets_some r before) && all_stay active (before ++ r ∷ []) rest
