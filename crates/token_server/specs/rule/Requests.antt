-- Requests for tokens, in order.
use Rattle.std.specs.Prelude.{◌≡◌, ℕ, Bool, ◌&&◌, ◌==◌, nat_le, List, [], ◌∷◌, Option, Some, None, find}
use Rattle.intervals.specs.rule.Bytes.{Range}
use Rattle.model.specs.declared.call.CallId.{CallId}
use Rattle.messages.specs.rule.Messages.{same_call}
use Rattle.token_server.specs.declared.token_queue.token_request.TokenRequest.{TokenRequest}

-- a line: its requests in order, and how many more may come without asking for memory
pub record LineParts : Type 0 where
  pub requests : List TokenRequest
  pub room : ℕ

-- a request is of the call
abbrev pub is_of_call : CallId → TokenRequest → Bool
is_of_call call r = same_call r.call call

-- a request is of the node, in that incarnation or an older one
abbrev pub is_up_to : ℕ → ℕ → TokenRequest → Bool
is_up_to node incarnation r = (r.call.node == node) && nat_le r.call.incarnation incarnation

-- two ranges have a byte in common
abbrev pub meets : Range → Range → Bool
meets s t = nat_le s.lo t.hi && nat_le t.lo s.hi

-- no two of the requests are of one call
abbrev pub AreOfDistinctCalls : List TokenRequest → Type 0
AreOfDistinctCalls [] = Unit {0}
AreOfDistinctCalls (r ∷ rs) = (find (is_of_call r.call) rs ≡ None) × AreOfDistinctCalls rs

-- the requests that slots hold, in order: a slot holds one or none
abbrev pub requests_in : List (Option TokenRequest) → List TokenRequest
requests_in [] = []
requests_in (None ∷ slots) = requests_in slots
requests_in (Some r ∷ slots) = r ∷ requests_in slots
