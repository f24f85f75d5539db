-- A token server moves its requests about: the rest of it stays.
use Rattle.std.specs.Prelude.{◌||◌, List, [], Option, Some, None}
use Rattle.std.specs.List.{list_any}
use Rattle.token_server.specs.declared.token_queue.token_request.TokenRequest.{TokenRequest}
use Rattle.token_server.specs.rule.Requests.{is_of_call}
use Rattle.token_server.specs.rule.Rows.{Row}
use Rattle.token_server.specs.rule.State.{ServerState}
use Rattle.token_server.specs.rule.Serve.{ready}
use Rattle.token_server.specs.rule.Server.{request_of, enqueued_with, enqueued, freed}
use Rattle.cluster_core.proofs.common.Choices.{if_either}

-- P holds of the server whatever requests it has
abbrev pub WhateverRequests : (ServerState → Type 0) → ServerState → Type 0
WhateverRequests P s = (active queue waiting : List TokenRequest) → P (record s { active = active; queue = queue; waiting = waiting })

module _ (P : ServerState → Type 0) (s : ServerState) (each : WhateverRequests P s) where
  -- the server with its own requests
  unmoved : P s
  unmoved = each s.active s.queue s.waiting

  enqueued_with-stays : (r : TokenRequest) (own : Option TokenRequest) → P (enqueued_with s r own)
  enqueued_with-stays r None = each s.active _ s.waiting
  enqueued_with-stays r (Some own) = each s.active _ _

  -- a request is added, or one that waits is asked for again
  pub enqueued-stays : (r : TokenRequest) → P (enqueued s r)
  enqueued-stays r = if_either P (list_any (is_of_call r.call) s.active || list_any (is_of_call r.call) s.queue) _ _ unmoved (enqueued_with-stays r (request_of r.call s.waiting))

  -- all waiting requests are queued again
  pub freed-stays : (row : Option Row) → P (freed s row)
  freed-stays None = unmoved
  freed-stays (Some row) = each s.active _ []

  -- requests come from the queue
  pub ready-stays : P (ready s)
  ready-stays = each (ready s).active (ready s).queue s.waiting
