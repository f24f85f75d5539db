-- An event of a round is a step of the cluster, unless the server of the file has spent the numbers of an epoch.
use Rattle.std.specs.Prelude.{◌==◌, ◌&&◌, if◌then◌else◌, is_some}
use Rattle.std.proofs.Common.{◌≡◌, ℕ, Bool, true, false, not, ◌⊎◌, inl, inr, refl, sym, ◌∙◌, ap, subst, Some, None, Result, Ok, Err}
use Rattle.std.proofs.lemmas.Bool.{and_from, and_parts, eq-eqb}
use Rattle.messages.specs.rule.Shapes.{ShapeFields}
use Rattle.messages.specs.rule.Messages.{addressee, file_of, host_of, is_among, is_within}
use Rattle.messages.specs.declared.actor.Actor.{Actor}
use Rattle.messages.specs.declared.actor.Actor.TheVariants.{Node as ANode, Server as AServer}
use Rattle.messages.specs.declared.message.Message.{Message}
use Rattle.messages.specs.declared.message.Message.TheVariants.{Request, Grant, Revoke, Taken, Released, Conflict, Deny, Freed, Hello, Report}
use Rattle.messages.specs.declared.event.Event.{Event}
use Rattle.messages.specs.declared.event.Event.TheVariants.{AtNode, AtServer, Deliver, Member}
use Rattle.messages.specs.declared.event.NodeInput.TheVariants.{Call, Interrupt, Retry}
use Rattle.messages.specs.declared.event.ServerInput.{ServerInput}
use Rattle.messages.specs.declared.event.ServerInput.TheVariants.{Resend, Learn}
use Rattle.messages.specs.declared.entry.Entry.{Entry}
use Rattle.messages.specs.declared.outcome.Outcome.{Outcome}
use Rattle.messages.specs.declared.refusal.Refused.TheVariants.{Stranger, Fenced, Spent}
use Rattle.messages.specs.declared.refusal.StepError.{StepError}
use Rattle.messages.specs.declared.refusal.StepError.TheVariants as step_error
use Rattle.node_core.specs.declared.event.NodeEvent.TheVariants as node
use Rattle.node_core.specs.rule.State.{NodeState, open_call_of, outcome, quiet}
use Rattle.node_core.specs.rule.Calls.{is_pid}
use Rattle.node_core.specs.rule.Commands.{delivered, deliver_rule, is_node}
use Rattle.node_core.specs.rule.Retries.{retry_rule}
use Rattle.node_core.specs.rule.Try.{tried_if}
use Rattle.node_core.specs.rule.Node.{node_rule}
use Rattle.token_server.proofs.SketchLaws.{resend-spent, learn-spent, deliver-spent}
use Rattle.token_server.specs.declared.event.ServerEvent.TheVariants as server
use Rattle.token_server.specs.rule.State.{ServerState}
use Rattle.token_server.specs.rule.Server.{is_server, server_rule}
use Rattle.cluster_core.specs.rule.Actors.{server_event}
use Rattle.cluster_core.specs.rule.World.{WorldState, has_node, has_file, is_alive, was_declared}
use Rattle.cluster_core.specs.rule.Next.{has_actor, is_true, is_known, is_fenced, is_stopped, after_node, after_server, delivered as routed, taken, next}
use Rattle.cluster_core.specs.rule.Rounds.{IsQuiet}
use Rattle.cluster_core.proofs.tokens.Present.{Was, Present}
use Rattle.progress.proofs.Hosted.{AllHosted}

-- the event may happen in a round about the file
abbrev pub IsPossible : ℕ → WorldState → Event → Type 0
IsPossible file w (Deliver m) = Was w m × (file_of m ≡ file) × (is_stopped w (addressee m) ≡ false)
IsPossible file w (AtServer f input) = (f ≡ file) × (is_true w input ≡ true)
IsPossible file w (AtNode n (Retry pid)) = (is_alive w n ≡ true) × (is_pid pid ≡ true)
IsPossible file w _ = ⊥

-- nobody calls by it, no wait is interrupted, and no member fails or begins again
pub possible_quiet : (file : ℕ) (w : WorldState) (event : Event) → IsPossible file w event → IsQuiet event
possible_quiet file w (Deliver m) h = tt
possible_quiet file w (AtServer f input) h = tt
possible_quiet file w (AtNode n (Retry pid)) h = tt
possible_quiet file w (AtNode n (Call pid op)) h = absurd h
possible_quiet file w (AtNode n (Interrupt pid)) h = absurd h
possible_quiet file w (Member event) h = absurd h

-- the event is a step, or it is refused, since the server of the file has spent the numbers of an epoch
abbrev pub Goes : ℕ → WorldState → Event → Type 0
Goes file w event = ((q : WorldState × Entry) × (next w event ≡ Ok q)) ⊎ ((next w event ≡ Err Spent) × (is_some (server_event file event) ≡ true))

addressee_node : (m : Message) (n : ℕ) → addressee m ≡ ANode n → (host_of m).node ≡ n
addressee_node (Grant file number call mode span) n to = cc
addressee_node (Revoke file number holder call mode wanted) n to = cc
addressee_node (Deny file call holder number lock) n to = cc
addressee_node (Hello file number holder) n to = cc
addressee_node m n to = absurd (cc)

pub addressee_file : (m : Message) (f : ℕ) → addressee m ≡ AServer f → f ≡ file_of m
addressee_file (Request file call blocking mode wanted) f to = cc
addressee_file (Taken file number call) f to = cc
addressee_file (Released file number holder call span) f to = cc
addressee_file (Conflict file number holder call lock) f to = cc
addressee_file (Freed file holder) f to = cc
addressee_file (Report file number holder runs) f to = cc
addressee_file m f to = absurd (cc)

-- a message of its file goes to a node in any case
deliver_goes : (s : NodeState) (m : Message) → (is_node s.node (addressee m) && is_within s.shape.files (file_of m)) ≡ true → (done : NodeState × Outcome) × (deliver_rule s m ≡ Ok done)
deliver_goes s m ours = by (is_node s.node (addressee m) && is_within s.shape.files (file_of m)) ((host_of m).incarnation == s.incarnation) ours
  where
    by : (a b : Bool) → a ≡ true → (done : NodeState × Outcome) × ◌≡◌ {A = Result (NodeState × Outcome) StepError} (if not a then Err step_error.Stranger else (if b then Ok (outcome None (delivered s m)) else Ok (outcome None (quiet s)))) (Ok done)
    by true true h = (outcome None (delivered s m), refl)
    by true false h = (outcome None (quiet s), refl)
    by false b h = absurd (cc)

retry_goes : (s : NodeState) (pid : ℕ) → is_pid pid ≡ true → (done : NodeState × Outcome) × (retry_rule s pid ≡ Ok done)
retry_goes s pid within = (outcome None (tried_if s (open_call_of s pid)), λ i. if within i then Ok (outcome None (tried_if s (open_call_of s pid))) else Err step_error.Stranger)

module _ (w : WorldState) (event : Event) where
  -- a known event of an actor that works is a step of its actor
  next_as : is_known w event ≡ true → is_fenced w event ≡ false → next w event ≡ taken w event
  next_as known free = λ i. if not (known i) then Err Stranger else (if free i then Err Fenced else taken w event)

  node_goes : (file n : ℕ) (r : Result (NodeState × Outcome) StepError) → is_known w event ≡ true → is_fenced w event ≡ false → taken w event ≡ after_node w event n r → (done : NodeState × Outcome) × (r ≡ Ok done) → Goes file w event
  node_goes file n r known free gives made = inl (_, next_as known free ∙ (gives ∙ ap (after_node w event n) made.1))

  server_goes : (file : ℕ) (r : Result (ServerState × Outcome) StepError) → is_known w event ≡ true → is_fenced w event ≡ false → taken w event ≡ after_server w event file r → ((e : StepError) → r ≡ Err e → e ≡ step_error.Spent) → is_some (server_event file event) ≡ true → Goes file w event
  server_goes file r known free gives spent of = by r refl
    where
      by : (x : Result (ServerState × Outcome) StepError) → r ≡ x → Goes file w event
      by (Ok done) is = inl (_, next_as known free ∙ (gives ∙ ap (after_server w event file) is))
      by (Err e) is = inr (next_as known free ∙ (gives ∙ (ap (after_server w event file) is ∙ ap (λ (x : StepError). after_server w event file (Err x)) (spent e is))), of)

-- after a run, if the server of the file works
module _ (w : WorldState) (p : Present w) (hosted : AllHosted w) (shaped : (n : ℕ) → (w.nodes n).shape ≡ w.shape) (file : ℕ) (there : has_file w file ≡ true) (works : w.working file ≡ true) where
  file_of_it : (event : Event) (input : ServerInput) → event ≡ AtServer file input → is_some (server_event file event) ≡ true
  file_of_it event input is = ap (λ (x : Event). is_some (server_event file x)) is ∙ (λ i. is_some (if eq-eqb file file refl i then Some (server.Input input) else None))

  input_goes : (input : ServerInput) → is_true w input ≡ true → Goes file w (AtServer file input)
  input_goes Resend truly =
      server_goes w (AtServer file Resend) file (server_rule (w.servers file) (server.Input Resend)) (and_from (has_file w file) true there refl) (ap not works) refl (λ e is. resend-spent (w.servers file) e is) (file_of_it (AtServer file Resend) Resend refl)
  input_goes (Learn n i) truly =
      let parts = and_parts (has_node w n) (was_declared w n i) truly in
      let within : is_within (w.servers file).shape.nodes n ≡ true = ap (λ (s : ShapeFields). is_within s.nodes n) (p.serves file).shape_is ∙ parts.0 in
      server_goes w (AtServer file (Learn n i)) file (server_rule (w.servers file) (server.Input (Learn n i))) (and_from (has_file w file) (is_true w (Learn n i)) there truly) (ap not works) refl (λ e is. learn-spent (w.servers file) n i e within is) (file_of_it (AtServer file (Learn n i)) (Learn n i) refl)

  retry_event_goes : (n pid : ℕ) → is_alive w n ≡ true → is_pid pid ≡ true → Goes file w (AtNode n (Retry pid))
  retry_event_goes n pid alive within =
      let parts = and_parts (has_node w n) (w.alive n) alive in
      node_goes w (AtNode n (Retry pid)) file n (node_rule (w.nodes n) (node.Input (Retry pid))) (and_from (has_node w n) (is_pid pid) parts.0 within) (ap not parts.1) refl (retry_goes (w.nodes n) pid within)

  message_goes : (m : Message) (to : Actor) → addressee m ≡ to → Was w m → file_of m ≡ file → is_stopped w to ≡ false → Goes file w (Deliver m)
  message_goes m (ANode n) to sent of free =
      let within : has_node w n ≡ true = ap (has_node w) (sym (addressee_node m n to)) ∙ hosted m sent in
      let s = w.nodes n in
      let own : is_node s.node (addressee m) ≡ true = ap (is_node s.node) to ∙ eq-eqb n s.node (sym (p.named n)) in
      let inside : is_within s.shape.files (file_of m) ≡ true = (λ i. is_within (shaped n i).files (of i)) ∙ there in
      node_goes w (Deliver m) file n (node_rule s (node.Deliver m))
      (and_from (has_actor w (addressee m)) (is_among w.sent m) (ap (has_actor w) to ∙ within) sent)
      (ap (is_stopped w) to ∙ free)
      (λ i. routed w m (to i))
      (deliver_goes s m (and_from (is_node s.node (addressee m)) (is_within s.shape.files (file_of m)) own inside))
  message_goes m (AServer f) to sent of free =
      let is : f ≡ file = addressee_file m f to ∙ of in
      let there_too : addressee m ≡ AServer file = to ∙ ap AServer is in
      let s = w.servers file in
      let ours : (is_server s.file (addressee m) && is_within s.shape.nodes (host_of m).node) ≡ true =
      and_from (is_server s.file (addressee m)) (is_within s.shape.nodes (host_of m).node)
      (ap (is_server s.file) there_too ∙ eq-eqb file s.file (sym (p.serves file).file_is))
      (ap (λ (x : ShapeFields). is_within x.nodes (host_of m).node) (p.serves file).shape_is ∙ hosted m sent) in
      server_goes w (Deliver m) file (server_rule s (server.Deliver m))
      (and_from (has_actor w (addressee m)) (is_among w.sent m) (ap (has_actor w) there_too ∙ there) sent)
      (ap (is_stopped w) to ∙ free)
      (λ i. routed w m (there_too i))
      (λ e is. deliver-spent s m e ours is)
      ((λ i. is_some (if is_server file (there_too i) then Some (server.Deliver m) else None)) ∙ (λ i. is_some (if eq-eqb file file refl i then Some (server.Deliver m) else None)))

  pub possible_goes : (event : Event) → IsPossible file w event → Goes file w event
  possible_goes (Deliver m) h = message_goes m (addressee m) refl h.0 h.1 h.2
  possible_goes (AtServer f input) h = subst (λ (k : ℕ). Goes file w (AtServer k input)) (sym h.0) (input_goes input h.1)
  possible_goes (AtNode n (Retry pid)) h = retry_event_goes n pid h.0 h.1
  possible_goes (AtNode n (Call pid op)) h = absurd h
  possible_goes (AtNode n (Interrupt pid)) h = absurd h
  possible_goes (Member event) h = absurd h
