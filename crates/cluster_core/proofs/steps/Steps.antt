-- A step of the cluster is a step of one of its nodes or servers.
use Rattle.std.proofs.Common.{◌≡◌, ℕ, ◌+◌, ◌<◌, ◌≤◌, if◌then◌else◌, arith, true, false, not, nat_le, nat_lt, refl, subst, Result, Ok, Err}
use Rattle.std.proofs.lemmas.Bool.{not-false, leb-true, ltb-true}
use Rattle.std.proofs.lemmas.Bool.Decides.{nat_tests}
use Rattle.messages.specs.rule.Messages.{addressee, sending}
use Rattle.messages.specs.declared.actor.Actor.{Actor}
use Rattle.messages.specs.declared.actor.Actor.TheVariants.{Node as ANode, Server as AServer}
use Rattle.messages.specs.declared.message.Message.{Message}
use Rattle.messages.specs.declared.event.Event.{Event}
use Rattle.messages.specs.declared.event.Event.TheVariants.{AtNode, AtServer, Deliver, Member}
use Rattle.messages.specs.declared.event.MemberEvent.{MemberEvent}
use Rattle.messages.specs.declared.event.MemberEvent.TheVariants.{Declare, Restart, FailServer, StartServer}
use Rattle.messages.specs.declared.entry.Entry.{Entry}
use Rattle.messages.specs.declared.outcome.Outcome.{Outcome}
use Rattle.messages.specs.declared.refusal.Refused.{Refused}
use Rattle.messages.specs.declared.refusal.Refused.TheVariants.{Stranger, JournalFull, NotAlive, NotDead, TooManyRestarts, Fenced}
use Rattle.messages.specs.declared.refusal.StepError.{StepError}
use Rattle.node_core.specs.declared.event.NodeEvent.{NodeEvent}
use Rattle.node_core.specs.declared.event.NodeEvent.TheVariants as node
use Rattle.node_core.specs.rule.State.{NodeState}
use Rattle.node_core.specs.rule.Node.{node_rule}
use Rattle.token_server.specs.declared.event.ServerEvent.{ServerEvent}
use Rattle.token_server.specs.declared.event.ServerEvent.TheVariants as server
use Rattle.token_server.specs.rule.State.{ServerState}
use Rattle.token_server.specs.rule.Resends.{outstanding}
use Rattle.token_server.specs.rule.Server.{server_rule}
use Rattle.cluster_core.specs.rule.World.{WorldState, journal_limit, most_incarnations}
use Rattle.cluster_core.specs.rule.Next.{is_known, is_fenced, recorded, named_incarnation, with_node, with_server, after_node, after_server, declared, restarted, silent, failed, started, next_server, delivered, taken, next, kept_next}
use Rattle.cluster_core.proofs.common.Refusals.{ok_is, if_ok, unless_refused}

-- a step that is not refused is of actors, processes and messages that the world knows
pub next_taken : (w : WorldState) (event : Event) (q : WorldState × Entry) → next w event ≡ Ok q → (is_known w event ≡ true) × (taken w event ≡ Ok q)
next_taken w event q h =
    let known = unless_refused (not (is_known w event)) _ q Stranger h in
    let free = unless_refused (is_fenced w event) (taken w event) q Fenced known.1 in
    (not-false (is_known w event) known.0, free.1)

-- a step that is not refused is of no actor that was declared failed
pub next_unfenced : (w : WorldState) (event : Event) (q : WorldState × Entry) → next w event ≡ Ok q → is_fenced w event ≡ false
next_unfenced w event q h =
    let known = unless_refused (not (is_known w event)) _ q Stranger h in
    (unless_refused (is_fenced w event) (taken w event) q Fenced known.1).0

full_not : (n : ℕ) → nat_le journal_limit n ≡ false → n < journal_limit
full_not n h = grind (arith, nat_tests, h)

not_full : (n : ℕ) → n < journal_limit → nat_le journal_limit n ≡ false
not_full n h = grind (arith, nat_tests, h)

-- what is kept in a journal is a step, for which there is room
pub kept_taken : (w : WorldState) (event : Event) (q : WorldState × Entry) → kept_next w event ≡ Ok q → (w.length < journal_limit) × (next w event ≡ Ok q)
kept_taken w event q h =
    let room = unless_refused (nat_le journal_limit w.length) (next w event) q JournalFull h in
    (full_not w.length room.0, room.1)

pub kept_of : (w : WorldState) (event : Event) (r : Result (WorldState × Entry) Refused) → w.length < journal_limit → next w event ≡ r → kept_next w event ≡ r
kept_of w event r room is =
    let roomy = not_full w.length room in
    λ i. if roomy i then Err JournalFull else is i

-- P holds after a step of the world, if it holds after the step of its actor
module _ (w : WorldState) (P : WorldState × Entry → Type 0) where
  pub node_step : (event : Event) (n : ℕ) (r : Result (NodeState × Outcome) StepError) (q : WorldState × Entry) → ((done : NodeState × Outcome) → r ≡ Ok done → P (recorded (with_node w n done.0) event (named_incarnation (w.nodes n) event) done.1)) → after_node w event n r ≡ Ok q → P q
  node_step event n (Ok done) q good h = subst P (ok_is _ q h) (good done refl)
  node_step event n (Err e) q good h = absurd (cc)

  pub server_step : (event : Event) (file : ℕ) (r : Result (ServerState × Outcome) StepError) (q : WorldState × Entry) → ((done : ServerState × Outcome) → r ≡ Ok done → P (recorded (with_server w file done.0) event 0 done.1)) → after_server w event file r ≡ Ok q → P q
  server_step event file (Ok done) q good h = subst P (ok_is _ q h) (good done refl)
  server_step event file (Err e) q good h = absurd (cc)

  -- P holds after the step of a node or a server at the event
  abbrev pub OnNode : Event → Type 0
  OnNode event = (n : ℕ) (step : NodeEvent) (done : NodeState × Outcome) → node_rule (w.nodes n) step ≡ Ok done → P (recorded (with_node w n done.0) event (named_incarnation (w.nodes n) event) done.1)

  abbrev pub OnServer : Event → Type 0
  OnServer event = (file : ℕ) (step : ServerEvent) (done : ServerState × Outcome) → server_rule (w.servers file) step ≡ Ok done → P (recorded (with_server w file done.0) event 0 done.1)

  -- P holds after a declaration or a restart of a node
  abbrev pub OnDeclare : Event → Type 0
  OnDeclare event = (n : ℕ) → event ≡ Member (Declare n) → w.alive n ≡ true → P (silent (declared w n) event (w.nodes n).incarnation)

  abbrev pub OnRestart : Event → Type 0
  OnRestart event = (n : ℕ) → event ≡ Member (Restart n) → w.alive n ≡ false → (w.nodes n).incarnation ≤ most_incarnations → P (silent (restarted w n) event (w.nodes n).incarnation)

  -- P holds after a failure or a start of a token server
  abbrev pub OnFail : Event → Type 0
  OnFail event = (file : ℕ) → event ≡ Member (FailServer file) → w.working file ≡ true → P (silent (failed w file) event (w.servers file).epoch)

  abbrev pub OnStart : Event → Type 0
  OnStart event = (file : ℕ) → event ≡ Member (StartServer file) → w.working file ≡ false → (w.servers file).epoch < most_incarnations → P (recorded (started w file) event ((w.servers file).epoch + 1) (sending (outstanding (next_server w file))))

  pub fail_step : (file : ℕ) (q : WorldState × Entry) → OnFail (Member (FailServer file)) → taken w (Member (FailServer file)) ≡ Ok q → P q
  fail_step file q on_fail h =
      let done = if_ok (w.working file) _ q NotAlive h in
      subst P done.1 (on_fail file refl done.0)

  pub start_step : (file : ℕ) (q : WorldState × Entry) → OnStart (Member (StartServer file)) → taken w (Member (StartServer file)) ≡ Ok q → P q
  start_step file q on_start h =
      let stopped = unless_refused (w.working file) _ q NotDead h in
      let done = if_ok (nat_lt (w.servers file).epoch most_incarnations) _ q TooManyRestarts stopped.1 in
      subst P done.1 (on_start file refl stopped.0 (ltb-true (w.servers file).epoch most_incarnations done.0))

  pub declare_step : (n : ℕ) (q : WorldState × Entry) → OnDeclare (Member (Declare n)) → taken w (Member (Declare n)) ≡ Ok q → P q
  declare_step n q on_declare h =
      let done = if_ok (w.alive n) _ q NotAlive h in
      subst P done.1 (on_declare n refl done.0)

  pub restart_step : (n : ℕ) (q : WorldState × Entry) → OnRestart (Member (Restart n)) → taken w (Member (Restart n)) ≡ Ok q → P q
  restart_step n q on_restart h =
      let dead = unless_refused (w.alive n) _ q NotDead h in
      let done = if_ok (nat_le (w.nodes n).incarnation most_incarnations) _ q TooManyRestarts dead.1 in
      subst P done.1 (on_restart n refl dead.0 (leb-true (w.nodes n).incarnation most_incarnations done.0))

  message_step : (m : Message) (to : Actor) (q : WorldState × Entry) → OnNode (Deliver m) → OnServer (Deliver m) → delivered w m to ≡ Ok q → P q
  message_step m (ANode n) q on_node on_server h = node_step (Deliver m) n (node_rule (w.nodes n) (node.Deliver m)) q (on_node n (node.Deliver m)) h
  message_step m (AServer file) q on_node on_server h = server_step (Deliver m) file (server_rule (w.servers file) (server.Deliver m)) q (on_server file (server.Deliver m)) h

  -- P holds after the change of a member
  pub member_step : (event : MemberEvent) (q : WorldState × Entry) → OnDeclare (Member event) → OnRestart (Member event) → OnFail (Member event) → OnStart (Member event) → taken w (Member event) ≡ Ok q → P q
  member_step (Declare n) q on_declare on_restart on_fail on_start h = declare_step n q on_declare h
  member_step (Restart n) q on_declare on_restart on_fail on_start h = restart_step n q on_restart h
  member_step (FailServer file) q on_declare on_restart on_fail on_start h = fail_step file q on_fail h
  member_step (StartServer file) q on_declare on_restart on_fail on_start h = start_step file q on_start h

  taken_step : (event : Event) (q : WorldState × Entry) → OnNode event → OnServer event → OnDeclare event → OnRestart event → OnFail event → OnStart event → taken w event ≡ Ok q → P q
  taken_step (AtNode n input) q on_node on_server on_declare on_restart on_fail on_start h = node_step (AtNode n input) n (node_rule (w.nodes n) (node.Input input)) q (on_node n (node.Input input)) h
  taken_step (AtServer file input) q on_node on_server on_declare on_restart on_fail on_start h = server_step (AtServer file input) file (server_rule (w.servers file) (server.Input input)) q (on_server file (server.Input input)) h
  taken_step (Deliver m) q on_node on_server on_declare on_restart on_fail on_start h = message_step m (addressee m) q on_node on_server h
  taken_step (Member event) q on_node on_server on_declare on_restart on_fail on_start h = member_step event q on_declare on_restart on_fail on_start h

  pub next_step : (event : Event) (q : WorldState × Entry) → OnNode event → OnServer event → OnDeclare event → OnRestart event → OnFail event → OnStart event → next w event ≡ Ok q → P q
  next_step event q on_node on_server on_declare on_restart on_fail on_start h = taken_step event q on_node on_server on_declare on_restart on_fail on_start (next_taken w event q h).1
