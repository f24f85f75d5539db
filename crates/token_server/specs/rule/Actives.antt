-- The active requests of a token server.
use Rattle.std.specs.Prelude.{ℕ, List, [], ◌∷◌, map}
use Rattle.token_server.specs.declared.token_queue.active_request.ActiveRequest.{ActiveRequest}
use Rattle.token_server.specs.declared.token_queue.token_request.TokenRequest.{TokenRequest}

-- active requests in order, each with the node whose row it waits for, and how many more may come without asking for memory
pub record ActiveParts : Type 0 where
  pub held : List ActiveRequest
  pub room : ℕ

-- the requests without their nodes
abbrev pub requests_of : List ActiveRequest → List TokenRequest
requests_of held = map (λ h. h.request) held

-- request i waits for the row of node i of these; the requests beyond them stay as they are
abbrev pub waiting_for : List ℕ → List ActiveRequest → List ActiveRequest
waiting_for [] held = held
waiting_for (at ∷ ats) [] = []
waiting_for (at ∷ ats) (h ∷ held) = record { request = h.request; at = at } ∷ waiting_for ats held
