-- What a server sends is a command, a denial or a question for a token.
use Rattle.std.specs.Prelude.{◌&&◌, if◌then◌else◌}
use Rattle.std.specs.List.{range_with_len}
use Rattle.std.proofs.Common.{◌≡◌, ℕ, Bool, true, false, subst, All, Some, None, Ok}
use Rattle.std.proofs.lemmas.Option.{none-some, same_Some}
use Rattle.std.proofs.lemmas.List.Elements.{All-weaker}
use Rattle.messages.specs.declared.message.Message.{Message}
use Rattle.messages.specs.declared.message.Message.TheVariants.{Request, Grant, Revoke, Conflict, Deny, Hello}
use Rattle.messages.specs.declared.outcome.Outcome.{Outcome}
use Rattle.token_server.specs.declared.token_queue.token_request.TokenRequest.{TokenRequest}
use Rattle.token_server.specs.declared.event.ServerEvent.{ServerEvent}
use Rattle.token_server.specs.declared.event.ServerEvent.TheVariants.{Input, Deliver}
use Rattle.token_server.specs.rule.Rows.{awaited_row, outstanding_of}
use Rattle.token_server.specs.rule.State.{ServerState, requests, begin}
use Rattle.token_server.specs.rule.Resends.{outstanding}
use Rattle.token_server.specs.rule.Server.{server_rule}
use Rattle.cluster_core.specs.rule.World.{WorldState, has_node}
use Rattle.cluster_core.specs.rule.Next.{next_server}
use Rattle.cluster_core.proofs.steps.NodeTokens.{Only, only_mapped}
use Rattle.cluster_core.proofs.steps.Requested.{AnyNumber, Comes, Makes, Tells, delivered-steps, input-steps}
use Rattle.cluster_core.proofs.steps.ServerRows.{IsCurrent}
use Rattle.cluster_core.proofs.tokens.Talks.{IsCommandTo}
use Rattle.cluster_core.proofs.tokens.Present.{Present}

-- the message is one that a server sends
abbrev pub IsOfServer : Message → Type 0
IsOfServer (Grant file number call mode span) = Unit {0}
IsOfServer (Revoke file number holder call mode wanted) = Unit {0}
IsOfServer (Deny file call holder number lock) = Unit {0}
IsOfServer (Hello file number holder) = Unit {0}
IsOfServer _ = ⊥

command_of_server : (file n i k : ℕ) (m : Message) → IsCommandTo file n i k m → IsOfServer m
command_of_server file n i k (Grant f number call mode span) to = tt
command_of_server file n i k (Revoke f number holder call mode wanted) to = tt
command_of_server file n i k (Hello f number holder) to = tt
command_of_server file n i k m to = absurd to

abbrev AnyRequest : TokenRequest → Type 0
AnyRequest r = Unit {0}

makes : (file : ℕ) → Makes file AnyNumber AnyRequest IsOfServer
makes file = record { grants = λ number r span any held bound holds. tt; revokes = λ number holder r desired any held other. tt }

tells : (file : ℕ) (m : Message) → Tells file AnyRequest IsOfServer m
tells file (Request f call blocking mode wanted) = tt
tells file (Conflict f number holder call lock) = λ r held own now. tt
tells file m = tt

module _ (w : WorldState) (p : Present w) (file : ℕ) where
  comes : Comes file AnyNumber AnyRequest IsOfServer (w.servers file)
  comes =
      let s = p.serves file in
      let t = w.servers file in
      record {
        file_is = s.file_is;
        held = All-weaker (IsCurrent t) AnyRequest (λ r current. tt) (requests t) s.held;
        outstanding = λ n row m there is. command_of_server file n row.incarnation row.number m ((s.talks n).waits row m there is).1;
        numbers = λ number few. tt;
      }

  pub server_sends : (step : ServerEvent) (done : ServerState × Outcome) → server_rule (w.servers file) step ≡ Ok done → All IsOfServer done.1.sends
  server_sends (Deliver m) done is = (delivered-steps file AnyNumber AnyRequest IsOfServer (makes file) (w.servers file) m (tells file m) comes done is).1
  server_sends (Input input) done is = (input-steps file AnyNumber AnyRequest IsOfServer (makes file) (w.servers file) input comes done is).1

  -- so is what it sends when it begins again
  pub starts_send : Only IsOfServer (outstanding (next_server w file))
  starts_send = only_mapped IsOfServer (λ n. outstanding_of (made.rows n)) (range_with_len 1 w.shape.nodes) (λ n m is. asked n (has_node w n && w.alive n) m is)
    where
      made : ServerState
      made = next_server w file

      asked : (n : ℕ) (b : Bool) (m : Message) → outstanding_of (if b then Some (awaited_row file (begin made) n (w.nodes n).incarnation) else None) ≡ Some m → IsOfServer m
      asked n true m is = subst IsOfServer (same_Some (Hello file (begin made) (record { node = n; incarnation = (w.nodes n).incarnation })) m is) tt
      asked n false m is = absurd (none-some m is)
