-- Each step of the cluster keeps the facts of it and its past, where tokens are apart and answers are known.
use Rattle.std.proofs.Common.{◌≡◌, ℕ, ◌+◌, ◌≤◌, ◌<◌, Bool, true, false, not, if◌then◌else◌, ◌&&◌, ◌||◌, ◌==◌, inl, inr, refl, sym, ◌∙◌, ap, subst, arith, nat_le, List, [], ◌∷◌, ◌++◌, append-nil, append_assoc, All, Option, Some, None, Result, Ok}
use Rattle.std.specs.Prelude.{max, nat_lt}
use Rattle.std.specs.List.{list_any, range_with_len}
use Rattle.std.proofs.lemmas.Bool.{and_parts, both_ways, cases_Bool, eqb-true, eq-eqb, false≢true, or_right}
use Rattle.std.proofs.lemmas.Bool.Decides.{nat_tests}
use Rattle.std.proofs.lemmas.Option.{none-some, same_Some}
use Rattle.std.proofs.lemmas.List.Elements.{All-nil}
use Rattle.intervals.specs.rule.Bytes.{Range}
use Rattle.model.specs.declared.call.CallId.{CallId}
use Rattle.model.specs.declared.host.Host.{Host}
use Rattle.model.specs.declared.lock_info.LockInfo.{LockInfo}
use Rattle.model.specs.declared.mode.Mode.{Mode}
use Rattle.model.specs.declared.op.Op.{Op}
use Rattle.model.specs.rule.Limits.{IsNumber, IsProcess, most_nodes, most_processes}
use Rattle.model.specs.rule.Locks.{lowest_in_way}
use Rattle.token_set.specs.rule.Tokens.{given_up_span, answer_of}
use Rattle.messages.specs.rule.Shapes.{most_regions, ShapeFields, IsShape, begin_of}
use Rattle.messages.specs.rule.TokenRuns.{Wants}
use Rattle.messages.specs.rule.Messages.{addressee, is_among, is_conflict, is_within, same_host, same_message, sending}
use Rattle.messages.proofs.SameMessages.{host_exact, same_message-is-equality}
use Rattle.messages.specs.declared.refusal.StepError.{StepError}
use Rattle.messages.specs.declared.message.Message.{Message}
use Rattle.messages.specs.declared.message.Message.TheVariants.{Request, Grant, Revoke, Taken, Released, Conflict, Deny, Freed, Hello, Report}
use Rattle.messages.specs.declared.event.Event.{Event}
use Rattle.messages.specs.declared.event.Event.TheVariants.{AtNode, AtServer, Deliver, Member}
use Rattle.messages.specs.declared.event.NodeInput.TheVariants.{Call, Interrupt, Retry}
use Rattle.messages.specs.declared.event.ServerInput.{ServerInput}
use Rattle.messages.specs.declared.event.MemberEvent.{MemberEvent}
use Rattle.messages.specs.declared.event.MemberEvent.TheVariants.{Declare, Restart}
use Rattle.messages.specs.declared.entry.Entry.{Entry}
use Rattle.messages.specs.declared.outcome.Outcome.{Outcome}
use Rattle.node_core.specs.declared.event.NodeEvent.TheVariants as node
use Rattle.node_core.specs.declared.open_call.OpenCall.{OpenCall}
use Rattle.node_core.specs.rule.State.{NodeState, Effect, quiet, host, outcome, process, open_call_of}
use Rattle.node_core.specs.rule.Try.{tried_if}
use Rattle.node_core.specs.rule.Calls.{is_pid, is_in_shape, is_busy, called, after_call}
use Rattle.node_core.specs.rule.Commands.{renewed, in_epoch, remembered, answer_to, revoked, delivered, deliver_rule}
use Rattle.node_core.specs.rule.Interrupts.{interrupted, interrupt_rule}
use Rattle.node_core.specs.rule.Retries.{retry_rule}
use Rattle.node_core.specs.rule.Node.{node_rule}
use Rattle.token_server.specs.declared.event.ServerEvent.TheVariants as server
use Rattle.token_server.specs.rule.Rows.{awaited_row, outstanding_of}
use Rattle.token_server.specs.rule.State.{ServerState, begin}
use Rattle.token_server.specs.rule.Resends.{outstanding}
use Rattle.token_server.specs.rule.Server.{server_rule}
use Rattle.cluster_core.specs.rule.World.{WorldState, first_world, most_incarnations, has_node}
use Rattle.cluster_core.specs.rule.Next.{has_actor, is_known, entry, recorded, with_node, after_node, after_server, declared, restarted, silent, failed, started, next_server, with_server, taken, next}
use Rattle.cluster_core.specs.rule.Runs.{Leads}
use Rattle.cluster_core.specs.rule.Safe.{IsSafe}
use Rattle.cluster_core.proofs.tokens.Heard.{IsHeard}
use Rattle.cluster_core.specs.rule.Histories.{EntryAt, IsCalledAt, names_conflict, HasHistory, EachAtItsPlace}
use Rattle.cluster_core.specs.rule.Evidence.{IsTold, HasEvidence, is_wait}
use Rattle.cluster_core.specs.code.Calls.{slots_of, items_in, history_of}
use Rattle.cluster_core.specs.rule.Plain.{IsPlainHistory}
use Rattle.cluster_core.proofs.common.Choices.{at_number}
use Rattle.cluster_core.proofs.history.Entries.{none_named, none_called, none_replied}
use Rattle.cluster_core.proofs.steps.NodeSteps.{IsTo, call_done, call_free, deliver_done, interrupt_done, retry_done}
use Rattle.cluster_core.proofs.steps.Steps.{next_taken, next_unfenced, node_step, server_step, member_step}
use Rattle.cluster_core.proofs.steps.ServerSteps.{IsSending, server_rule-sending}
use Rattle.model.specs.rule.Anchors.{IsOwn}
use Rattle.model.proofs.NodeTables.{own_empty}
use Rattle.cluster_core.proofs.steps.Tries.{IsSilent, not_busy}
use Rattle.cluster_core.proofs.history.Nodes.{IsOpen, IsExplained, IsDenied, IsNoDeclaration, Moves, found_open}
use Rattle.cluster_core.proofs.steps.Moves.{delivered_receives, quiet_receives, interrupted_receives, retried_receives, call_moves}
use Rattle.cluster_core.proofs.history.Lifting.{IsFreeElsewhere}
use Rattle.cluster_core.proofs.steps.NodeTokens.{all_among, called_asks, tried_if_asks, interrupted_asks}
use Rattle.cluster_core.proofs.tokens.Epochs.{EndsOf}
use Rattle.cluster_core.proofs.tokens.Ending.{IsShort, asks_ends, delivered_ends}
use Rattle.cluster_core.proofs.tokens.Unbarred.{safe_free}
use Rattle.cluster_core.proofs.steps.Requested.{Comes, AnyNumber, Makes, Tells, mapped, delivered-steps, input-steps}
use Rattle.cluster_core.proofs.steps.Sends.{IsFreely, AsksFor, EntersConflicts, called-sends, tried_if-sends, interrupted-sends, delivered-sends}
use Rattle.cluster_core.proofs.history.Resting.{union_live, rests_after}
use Rattle.cluster_core.proofs.history.Slots.{slotted_first, all_slotted_first, slots_fit, slots_legal, slots_at_their_places}
use Rattle.cluster_core.proofs.history.Plain.{plain_slots, plain_legal, plain_items}
use Rattle.cluster_core.proofs.history.Witnesses.{asked_ends, asked_order, IsAskedBy, Denies, Backed, HeldFor, StaysOpen, backed-keeps, called_one, not_blocking}
use Rattle.cluster_core.proofs.history.Denials.{denies_now}
use Rattle.cluster_core.proofs.history.Worlds.{Good, replied_named, server_good, servers_good, put_comes, node_good, declared_good, restarted_good, stays, asks, leads_on, union_stays, others_stay}

-- the message that is delivered
message_in : Event → Option Message
message_in (Deliver m) = Some m
message_in _ = None

same_message_of : (m k : Message) → Deliver m ≡ Deliver k → m ≡ k
unfolding message_in
same_message_of m k h = same_Some m k (ap message_in h)

-- a message that passes the test is among them
passing : (test : Message → Bool) (ms : List Message) → list_any test ms ≡ true → (m : Message) × (is_among ms m ≡ true) × (test m ≡ true)
passing test [] h = absurd (false≢true h)
passing test (x ∷ xs) h =
    elim (test x) as (λ b. test x ≡ b → (b || list_any test xs) ≡ true → (m : Message) × (is_among (x ∷ xs) m ≡ true) × (test m ≡ true)) [
      | true ↦ λ passes here. (x, ap (λ (b : Bool). b || list_any (same_message x) xs) ((same_message-is-equality x x).1 refl), passes)
      | false ↦ λ fails here.
          let later = passing test xs here in
          (later.0, or_right (same_message later.0 x) (list_any (same_message later.0) xs) later.1, later.2)
    ] refl h

-- a message that is a conflict of that number
conflict_is : (file : ℕ) (holder : Host) (number : ℕ) (m : Message) → is_conflict file holder number m ≡ true → (call : CallId) × (lock : LockInfo) × (m ≡ Conflict file number holder call lock)
conflict_is file holder number (Conflict f k h call lock) is =
    let first = and_parts (f == file) ((k == number) && same_host h holder) is in
    let second = and_parts (k == number) (same_host h holder) first.1 in
    let files = eqb-true f file first.0 in
    let numbers = eqb-true k number second.0 in
    let holders = host_exact h holder second.1 in
    (call, lock, λ i. Conflict (files i) (numbers i) (holders i) call lock)
conflict_is file holder number (Request f call blocking mode wanted) is = absurd (false≢true is)
conflict_is file holder number (Grant f k call mode span) is = absurd (false≢true is)
conflict_is file holder number (Revoke f k h call mode wanted) is = absurd (false≢true is)
conflict_is file holder number (Taken f k call) is = absurd (false≢true is)
conflict_is file holder number (Released f k h call span) is = absurd (false≢true is)
conflict_is file holder number (Deny f call h k lock) is = absurd (false≢true is)
conflict_is file holder number (Freed f h) is = absurd (false≢true is)
conflict_is file holder number (Hello f k h) is = absurd (false≢true is)
conflict_is file holder number (Report f k h runs) is = absurd (false≢true is)

-- the last command done, after the node has heard of the epoch
pub entered_last : (s : NodeState) (file number : ℕ) → ((in_epoch s file number).files file).last ≡ max (s.files file).last (begin_of number)
entered_last s file number =
    let x = s.files file in
    let first = begin_of number in
    at_number file file (λ b. (if b then renewed x number else x).last ≡ max x.last first)
    (λ same. elim (nat_lt x.last first) as (λ b. nat_lt x.last first ≡ b → (if b then record x { last = first; answer = None } else x).last ≡ max x.last first) [
      | true ↦ λ h. let lt : x.last < first = grind (arith, nat_tests, h) in omega arith
      | false ↦ λ h. let ge : first ≤ x.last = grind (arith, nat_tests, h) in omega arith
    ] refl)
    (λ other. absurd (other refl))

-- a node that first does a revoke which a lock blocks names the lock, and does nothing else that others see
pub record Names (s : NodeState) (file number : ℕ) (call : CallId) (lock : LockInfo) (e : Effect) : Type 0 where
  pub answer : e.sends ≡ Conflict file number (host s) call lock ∷ []
  pub no_reply : e.reply ≡ None
  pub table : e.state.table ≡ s.table

names_first : (s : NodeState) (file number : ℕ) (holder : Host) (call : CallId) (mode : Mode) (wanted : Wants) (lock : LockInfo) → number ≡ ((in_epoch s file number).files file).last + 1 → lowest_in_way (s.table.locks file) s.node s.incarnation wanted.required mode ≡ Some lock → Names s file number call lock (delivered s (Revoke file number holder call mode wanted))
names_first s file number holder call mode wanted lock is here =
    let t = in_epoch s file number in
    let e = revoked t file number call mode wanted in
    let again = if (number == (t.files file).last) && nat_le 1 number then remembered t (t.files file).answer else quiet t in
    let span : Range = given_up_span (s.table.locks file) s.node s.incarnation mode wanted.required wanted.desired in
    let first = eq-eqb number ((t.files file).last + 1) is in
    record {
      answer = ap (λ (b : Bool). (if b then e else again).sends) first ∙ ap (λ (o : Option LockInfo). answer_to file number (host s) call (answer_of o span) ∷ []) here;
      no_reply = ap (λ (b : Bool). (if b then e else again).reply) first;
      table = ap (λ (b : Bool). (if b then e else again).state.table) first;
    }

module _ (shape : ShapeFields) (past : List Entry) (w : WorldState) (few : IsNumber most_nodes w.shape.nodes) (g : Good shape past w) (heard : IsHeard w) where
  -- the world and the entry after a step that leaves tokens apart
  abbrev After : Event → WorldState × Entry → Type 0
  After event p = next w event ≡ Ok p → IsSafe p.0 → IsNumber most_nodes p.0.shape.nodes × Good shape (past ++ p.1 ∷ []) p.0

  known_backed : (m : Message) → is_among w.sent m ≡ true → Backed shape past w m
  known_backed m known = all_among (Backed shape past w) w.sent m g.backed known

  freely : (run : List Entry) (v : WorldState) → IsFreely (Backed shape run v)
  freely run v = record { taken = λ file number call. tt; released = λ file number holder call span. tt; freed = λ file holder. tt; report = λ file number holder runs. tt }

  not-true-false : (b : Bool) → not b ≡ false → b ≡ true
  not-true-false true h = refl
  not-true-false false h = absurd (cc)

  -- a process that may call
  process_in : (n pid : ℕ) (op : Op) → is_known w (AtNode n (Call pid op)) ≡ true → w.alive n ≡ true → IsProcess (process (w.nodes n) pid)
  process_in n pid op known alive =
      let parts = and_parts (has_node w n) (is_pid pid && is_in_shape w.shape op) known in
      let node : IsNumber most_nodes n = within (w.shape.nodes) n few parts.0 in
      record {
        host = record { node_in = subst (IsNumber most_nodes) (sym (g.named n)) node; incarnation_in = let given = g.incarnations n in (given.0, given.1 alive) };
        pid_in = number most_processes pid (and_parts (is_pid pid) (is_in_shape w.shape op) parts.1).0;
      }
    where
      number : (most k : ℕ) → is_within most k ≡ true → IsNumber most k
      number most k h =
          let tests = and_parts (nat_le 1 k) (nat_le k most) h in
          (grind (arith, nat_tests, tests.0), grind (arith, nat_tests, tests.1))

      within : (nodes k : ℕ) → IsNumber most_nodes nodes → is_within nodes k ≡ true → IsNumber most_nodes k
      within nodes k few h =
          let most = few.1 in
          let is = number nodes k h in
          let above = is.1 in
          (is.0, omega arith)

  -- a step of a node, whatever the event
  module _ (n : ℕ) (u : NodeState) (event : Event) (incarnation : ℕ) (o : Outcome) (there : has_node w n ≡ true) (moves : Moves past (w.nodes n) u (entry event incarnation o)) (known : (m : Message) → event ≡ Deliver m → is_among w.sent m ≡ true) (undeclared : IsNoDeclaration event) where
    abbrev made : Entry
    made = entry event incarnation o

    abbrev later : WorldState
    later = (recorded (with_node w n u) event incarnation o).0

    here : later.nodes n ≡ u
    here = rw (eq-eqb n n refl) refl

    not_strange : has_node w n ≡ false → (u.pending ≡ []) × IsSilent (w.nodes n) u o.reply
    not_strange strange = absurd (both_ways (has_node w n) strange there)

    module _ (made_so : next w event ≡ Ok (recorded (with_node w n u) event incarnation o)) where
      free : IsSafe later → (x : IsExplained past (w.nodes n) u made) → has_node w n ≡ true → IsFreeElsewhere w n x.pid x.op x.reply
      free safe x there_now = safe_free w later n u x.pid x.op x.reply refl here (others_stay shape past w n u event incarnation o g made_so moves not_strange) safe there x.served (λ m h. h)

      denied : (d : IsDenied (w.nodes n) u made) → Denies shape past w d.file d.call d.holder d.number d.lock
      denied d = (known_backed (Deny d.file d.call d.holder d.number d.lock) (known (Deny d.file d.call d.holder d.number d.lock) d.is_deny)).0

      pub keeps : ((asks : AsksFor (Backed shape (past ++ made ∷ []) later) u) → All (Backed shape (past ++ made ∷ []) later) o.sends) → EndsOf u → IsSafe later → IsNumber most_nodes w.shape.nodes × Good shape (past ++ made ∷ []) later
      keeps sends ends_on safe = (few, node_good shape past w n u event incarnation o g made_so moves not_strange (free safe) denied (sends (asks shape past w n u event incarnation o g made_so moves not_strange)) undeclared ends_on)

  call_good : (n pid : ℕ) (op : Op) → is_known w (AtNode n (Call pid op)) ≡ true → (is_in_shape (w.nodes n).shape op ≡ true) × (is_busy (w.nodes n) pid op ≡ false) → After (AtNode n (Call pid op)) (recorded (with_node w n (after_call (w.nodes n) pid op).0) (AtNode n (Call pid op)) 0 (after_call (w.nodes n) pid op).1)
  call_good n pid op known free made_so safe =
      let s = w.nodes n in
      let r = after_call s pid op in
      let event = AtNode n (Call pid op) in
      let moves = call_moves past s n pid op (g.holds n) (g.named n) (process_in n pid op known (not-true-false (w.alive n) (next_unfenced w event _ made_so))) (replied_named shape past w g) free.0 (not_busy s pid op free.1) in
      let there = (and_parts (has_node w n) (is_pid pid && is_in_shape w.shape op) known).0 in
      let run = past ++ entry event 0 r.1 ∷ [] in
      let v = (recorded (with_node w n r.0) event 0 r.1).0 in
      keeps n r.0 event 0 r.1 there moves (λ m h. absurd (cc)) tt made_so (called-sends (Backed shape run v) (freely run v) (record s { calls = s.calls + 1 }) (s.calls + 1) pid op) (asks_ends s (called (record s { calls = s.calls + 1 }) (s.calls + 1) pid op) (let a = called_asks (record s { calls = s.calls + 1 }) (s.calls + 1) pid op in record { node_is = a.node_is; incarnation_is = a.incarnation_is; files_are = a.files_are; sends = a.sends }) (g.ends n)) safe

  retry_good : (n pid : ℕ) (done : NodeState × Outcome) → has_node w n ≡ true → retry_rule (w.nodes n) pid ≡ Ok done → After (AtNode n (Retry pid)) (recorded (with_node w n done.0) (AtNode n (Retry pid)) (w.nodes n).incarnation done.1)
  retry_good n pid done there h =
      let s = w.nodes n in
      let event = AtNode n (Retry pid) in
      let effect = tried_if s (open_call_of s pid) in
      let P : NodeState × Outcome → Type 0 = λ d. After event (recorded (with_node w n d.0) event s.incarnation d.1) in
      let received = retried_receives past s (g.holds n) event s.incarnation pid tt in
      let is = retry_done s pid done h in
      let o = (outcome None effect).1 in
      let run = past ++ entry event s.incarnation o ∷ [] in
      let v = (recorded (with_node w n effect.state) event s.incarnation o).0 in
      let test : OpenCall → Bool = λ c. c.pid == pid in
      subst P is (λ made_so safe. keeps n effect.state event s.incarnation o there received.moves (λ m h. absurd (cc)) tt made_so (tried_if-sends (Backed shape run v) (freely run v) s (open_call_of s pid) (λ c f. (found_open test s.pending c f).0)) (asks_ends s effect (tried_if_asks s (open_call_of s pid)) (g.ends n)) safe)

  interrupt_good : (n pid : ℕ) (done : NodeState × Outcome) → has_node w n ≡ true → interrupt_rule (w.nodes n) pid ≡ Ok done → After (AtNode n (Interrupt pid)) (recorded (with_node w n done.0) (AtNode n (Interrupt pid)) (w.nodes n).incarnation done.1)
  interrupt_good n pid done there h =
      let s = w.nodes n in
      let event = AtNode n (Interrupt pid) in
      let effect = interrupted s (open_call_of s pid) in
      let P : NodeState × Outcome → Type 0 = λ d. After event (recorded (with_node w n d.0) event s.incarnation d.1) in
      let received = interrupted_receives past s (g.holds n) event s.incarnation pid tt in
      let o = (outcome None effect).1 in
      let run = past ++ entry event s.incarnation o ∷ [] in
      let v = (recorded (with_node w n effect.state) event s.incarnation o).0 in
      subst P (interrupt_done s pid done h) (λ made_so safe. keeps n effect.state event s.incarnation o there received.moves (λ m h. absurd (cc)) tt made_so (interrupted-sends (Backed shape run v) (freely run v) s (open_call_of s pid)) (asks_ends s effect (interrupted_asks s (open_call_of s pid)) (g.ends n)) safe)

  -- a message for another incarnation changes nothing
  idle_good : (n : ℕ) (m : Message) → has_node w n ≡ true → is_among w.sent m ≡ true → After (Deliver m) (recorded (with_node w n (w.nodes n)) (Deliver m) 0 (outcome None (quiet (w.nodes n))).1)
  idle_good n m there known made_so safe =
      let s = w.nodes n in
      let event = Deliver m in
      let o = (outcome None (quiet s)).1 in
      let run = past ++ entry event 0 o ∷ [] in
      let v = (recorded (with_node w n s) event 0 o).0 in
      let received = quiet_receives past s (g.holds n) event (quiet s) refl refl in
      keeps n s event 0 o there received.moves (λ k h. subst (λ (x : Message). is_among w.sent x ≡ true) (same_message_of m k h) known) tt made_so (λ all. All-nil (Backed shape run v)) (g.ends n) safe

  -- a message for the node in its incarnation
  module _ (n : ℕ) (m : Message) (there : has_node w n ≡ true) (known : is_among w.sent m ≡ true) (to : IsTo (w.nodes n) m) where
    abbrev coming : Event
    coming = Deliver m

    abbrev s : NodeState
    s = w.nodes n

    abbrev effect : Effect
    effect = delivered s m

    abbrev told : Outcome
    told = (outcome None effect).1

    abbrev run : List Entry
    run = past ++ entry coming 0 told ∷ []

    abbrev v : WorldState
    v = (recorded (with_node w n effect.state) coming 0 told).0

    its_moves : Moves past s effect.state (entry coming 0 told)
    its_moves = (delivered_receives past s (g.holds n) m to).moves

    not_strange_too : has_node w n ≡ false → (effect.state.pending ≡ []) × IsSilent s effect.state told.reply
    not_strange_too strange = absurd (both_ways (has_node w n) strange there)

    module _ (made_so : next w coming ≡ Ok (recorded (with_node w n effect.state) coming 0 told)) where
      its_stays : (k : ℕ) → StaysOpen past (w.nodes k) (v.nodes k)
      its_stays = stays shape past w n effect.state coming 0 told g made_so its_moves not_strange_too

      remembers : (file : ℕ) (k : Message) → (s.files file).answer ≡ Some k → Backed shape run v k
      remembers file k h = backed-keeps shape past (entry coming 0 told) w v its_stays k (known_backed k (heard.answers n file k there h))

      -- no conflict of that number was sent before
      unsaid : (file number : ℕ) → number ≡ max (s.files file).last (begin_of number) + 1 → (k : ℕ) (e : Entry) → EntryAt past k e → names_conflict file (host s) number e ≡ false
      unsaid file number is k e at = g.told k e (is_conflict file (host s) number) at (elim (cases_Bool (list_any (is_conflict file (host s) number) w.sent)) [
        | inl some ↦
            let found = passing (is_conflict file (host s) number) w.sent some in
            let named = conflict_is file (host s) number found.0 found.2 in
            let sent_before = subst (λ (x : Message). is_among w.sent x ≡ true) named.2 found.1 in
            let below = heard.counted n file number named.0 named.1 there sent_before in
            absurd (omega arith)
        | inr none ↦ none
      ])

    conflict_there : (file number : ℕ) (holder : Host) (call : CallId) (mode : Mode) (wanted : Wants) → m ≡ Revoke file number holder call mode wanted → (made_so : next w coming ≡ Ok (recorded (with_node w n effect.state) coming 0 told)) (lock : LockInfo) → number ≡ ((in_epoch s file number).files file).last + 1 → lowest_in_way (s.table.locks file) s.node s.incarnation wanted.required mode ≡ Some lock → Denies shape run v file call (host s) number lock
    conflict_there file number holder call mode wanted is made_so lock entered_one in_way =
        let next_one : number ≡ max (s.files file).last (begin_of number) + 1 = entered_one ∙ ap (λ (k : ℕ). k + 1) (entered_last s file number) in
        let names : Names s file number call lock effect = subst (λ (x : Message). Names s file number call lock (delivered s x)) (sym is) (names_first s file number holder call mode wanted lock entered_one in_way) in
        let behind : Backed shape past w (Revoke file number holder call mode wanted) = known_backed (Revoke file number holder call mode wanted) (subst (λ (x : Message). is_among w.sent x ≡ true) is known) in
        let addressed : IsTo s (Revoke file number holder call mode wanted) = subst (IsTo s) is to in
        let node_is = eqb-true holder.node s.node addressed.node in
        let incarnation_is = addressed.incarnation in
        let holder_is : holder ≡ host s = λ i. record { node = node_is i; incarnation = incarnation_is i } in
        denies_now shape past w v (entry coming 0 told) n file number call mode wanted lock (record {
          there = there;
          leads = g.leads;
          named = g.named;
          own = (g.holds n).own;
          asked = behind.0;
          other = λ same. behind.1 (node_is ∙ same);
          next_one = next_one;
          does = ap Deliver is ∙ ap (λ (h : Host). Deliver (Revoke file number h call mode wanted)) holder_is;
          no_reply = names.no_reply;
          answer = names.answer;
          unsaid = unsaid made_so file number next_one;
          here = in_way;
          leads_on = leads_on shape past w n effect.state coming 0 told g made_so its_moves not_strange_too;
          same = union_stays shape past w n effect.state coming 0 told g made_so its_moves not_strange_too names.table;
          others_stay = others_stay shape past w n effect.state coming 0 told g made_so its_moves not_strange_too;
          one_call = g.one_call;
          waiting = λ k. (g.holds k).waiting;
          about = g.asked;
          strangers = g.strangers;
        })

    conflicts : (made_so : next w coming ≡ Ok (recorded (with_node w n effect.state) coming 0 told)) (x : Message) → m ≡ x → EntersConflicts (Backed shape run v) (freely run v) s x
    conflicts made_so (Revoke file number holder call mode wanted) is = λ lock next_one in_way. conflict_there file number holder call mode wanted is made_so lock next_one in_way
    conflicts made_so (Request f call blocking mode wanted) is = tt
    conflicts made_so (Grant f number call mode span) is = tt
    conflicts made_so (Taken f number call) is = tt
    conflicts made_so (Released f number holder call span) is = tt
    conflicts made_so (Conflict f number holder call lock) is = tt
    conflicts made_so (Deny f call holder number lock) is = tt
    conflicts made_so (Freed f holder) is = tt
    conflicts made_so (Hello f number holder) is = tt
    conflicts made_so (Report f number holder runs) is = tt

    short : (x : Message) → Backed shape past w x → IsShort x
    short (Grant f number call mode span) b = b.0
    short (Request f call blocking mode wanted) b = tt
    short (Revoke f number holder call mode wanted) b = tt
    short (Taken f number call) b = tt
    short (Released f number holder call span) b = tt
    short (Conflict f number holder call lock) b = tt
    short (Deny f call holder number lock) b = tt
    short (Freed f holder) b = tt
    short (Hello f number holder) b = tt
    short (Report f number holder runs) b = tt

    pub delivered_good : After coming (recorded (with_node w n effect.state) coming 0 told)
    delivered_good made_so safe =
        keeps n effect.state coming 0 told there its_moves (λ k h. subst (λ (x : Message). is_among w.sent x ≡ true) (same_message_of m k h) known) tt made_so
        (delivered-sends (Backed shape run v) (freely run v) s m (remembers made_so) (conflicts made_so m refl)) (delivered_ends s m to (short m (known_backed m known)) (g.ends n)) safe

  message_good : (n : ℕ) (m : Message) (done : NodeState × Outcome) → has_node w n ≡ true → is_among w.sent m ≡ true → deliver_rule (w.nodes n) m ≡ Ok done → After (Deliver m) (recorded (with_node w n done.0) (Deliver m) 0 done.1)
  message_good n m done there known h =
      let s = w.nodes n in
      let P : NodeState × Outcome → Type 0 = λ d. After (Deliver m) (recorded (with_node w n d.0) (Deliver m) 0 d.1) in
      elim (deliver_done s m done h) [ inl taken ↦ subst P taken.1 (delivered_good n m there known taken.0) | inr passed ↦ subst P passed (idle_good n m there known) ]

  -- a step of a server
  makes : (file : ℕ) → Makes file AnyNumber (HeldFor shape past file) (Backed shape past w)
  makes file = record {
    grants = λ number r span any held bound holds.
        let asked = asked_ends shape past file r.call r.mode r.wanted.required held.0 in
        let likes = held.2 in
        let around = holds (asked_order shape past file r.call r.mode r.wanted.required held.0) held.3.starts held.3.ends in
        (omega arith, record { required = r.wanted.required; asked = held.0; starts = around.0; ends = around.1 });
    revokes = λ number holder r desired any held other. (held.0, other);
  }

  abbrev Serves : ℕ → Result (ServerState × Outcome) StepError → Type 0
  Serves file r = (done : ServerState × Outcome) → r ≡ Ok done → Comes file AnyNumber (HeldFor shape past file) (Backed shape past w) done.0 × All (Backed shape past w) done.1.sends

  server_next : (event : Event) (file : ℕ) (r : Result (ServerState × Outcome) StepError) (p : WorldState × Entry) → ((done : ServerState × Outcome) → r ≡ Ok done → IsSending done) → IsNoDeclaration event → Serves file r → after_server w event file r ≡ Ok p → After event p
  server_next event file r p sends undeclared serves h = server_step w (After event) event file r p (λ done is.
      let both = sends done is in
      let kept = serves done is in
      λ made_so safe. (few, server_good shape past w file done.0 event done.1 both.0 both.1 undeclared g made_so kept.0 kept.1)) h

  told_good : (m : Message) (file : ℕ) (p : WorldState × Entry) → Tells file (HeldFor shape past file) (Backed shape past w) m → after_server w (Deliver m) file (server_rule (w.servers file) (server.Deliver m)) ≡ Ok p → After (Deliver m) p
  told_good m file p tells h =
      let t = w.servers file in
      server_next (Deliver m) file (server_rule t (server.Deliver m)) p (λ done is. server_rule-sending t (server.Deliver m) done is) tt (delivered-steps file AnyNumber (HeldFor shape past file) (Backed shape past w) (makes file) t m tells (g.comes file)) h

  input_good : (file : ℕ) (input : ServerInput) (p : WorldState × Entry) → after_server w (AtServer file input) file (server_rule (w.servers file) (server.Input input)) ≡ Ok p → After (AtServer file input) p
  input_good file input p h =
      let t = w.servers file in
      server_next (AtServer file input) file (server_rule t (server.Input input)) p (λ done is. server_rule-sending t (server.Input input) done is) tt (input-steps file AnyNumber (HeldFor shape past file) (Backed shape past w) (makes file) t input (g.comes file)) h

  node_told : (n : ℕ) (m : Message) (p : WorldState × Entry) → has_node w n ≡ true → is_among w.sent m ≡ true → after_node w (Deliver m) n (node_rule (w.nodes n) (node.Deliver m)) ≡ Ok p → After (Deliver m) p
  node_told n m p there known h = node_step w (After (Deliver m)) (Deliver m) n (node_rule (w.nodes n) (node.Deliver m)) p (λ done is. message_good n m done there known is) h

  declare_good : (event : MemberEvent) (n : ℕ) → is_known w (Member event) ≡ true → Member event ≡ Member (Declare n) → After (Member event) (silent (declared w n) (Member event) (w.nodes n).incarnation)
  declare_good event n known is =
      let there : has_node w n ≡ true = subst (λ (x : Event). is_known w x ≡ true) is known in
      subst (λ (x : Event). After x (silent (declared w n) x (w.nodes n).incarnation)) (sym is) (λ made_so safe. (few, declared_good shape past w n there g made_so))

  restart_good : (event : MemberEvent) (n : ℕ) → Member event ≡ Member (Restart n) → (w.nodes n).incarnation ≤ most_incarnations → After (Member event) (silent (restarted w n) (Member event) (w.nodes n).incarnation)
  restart_good event n is small = subst (λ (x : Event). After x (silent (restarted w n) x (w.nodes n).incarnation)) (sym is) (λ made_so safe. (few, restarted_good shape past w n small g made_so))

  -- a token server fails, or is rebuilt: it holds no request, and sends only questions
  fail_good : (event : Event) → IsNoDeclaration event → (file : ℕ) → After event (silent (failed w file) event (w.servers file).epoch)
  fail_good event undeclared file made_so safe =
      (few, servers_good shape past w w.servers (failed w file).working event (w.servers file).epoch (sending []) refl refl undeclared g made_so g.comes (All-nil (Backed shape past w)))

  asks_rebuilt : (file n : ℕ) (b : Bool) (m : Message) → outstanding_of (if b then Some (awaited_row file (begin (next_server w file)) n (w.nodes n).incarnation) else None) ≡ Some m → Backed shape past w m
  asks_rebuilt file n true m h = subst (Backed shape past w) (same_Some _ m h) tt
  asks_rebuilt file n false m h = absurd (none-some m h)

  rebuilt_outstanding : (file n : ℕ) (m : Message) → outstanding_of ((next_server w file).rows n) ≡ Some m → Backed shape past w m
  rebuilt_outstanding file n m h = asks_rebuilt file n (has_node w n && w.alive n) m h

  rebuilt_comes : (file : ℕ) → Comes file AnyNumber (HeldFor shape past file) (Backed shape past w) (next_server w file)
  rebuilt_comes file = record {
    file_is = refl;
    held = All-nil (HeldFor shape past file);
    outstanding = λ n row m there h. rebuilt_outstanding file n m (ap outstanding_of there ∙ h);
    numbers = λ number fits. tt;
  }

  start_good : (event : Event) → IsNoDeclaration event → (file : ℕ) → After event (recorded (started w file) event ((w.servers file).epoch + 1) (sending (outstanding (next_server w file))))
  start_good event undeclared file made_so safe =
      let t = next_server w file in (
        few,
        servers_good shape past w (with_server w file t).servers (started w file).working event ((w.servers file).epoch + 1) (sending (outstanding t)) refl refl undeclared g made_so (put_comes shape past w file t g (rebuilt_comes file))
            (mapped (Backed shape past w) (λ n. outstanding_of (t.rows n)) (range_with_len 1 t.shape.nodes) (λ n m h. rebuilt_outstanding file n m h)),
      )

  taken_good : (event : Event) (p : WorldState × Entry) → is_known w event ≡ true → taken w event ≡ Ok p → After event p
  taken_good (AtNode n (Call pid op)) p known h =
      let s = w.nodes n in
      let event = AtNode n (Call pid op) in
      let P : NodeState × Outcome → Type 0 = λ d. After event (recorded (with_node w n d.0) event 0 d.1) in
      node_step w (After event) event n (node_rule s (node.Input (Call pid op))) p
      (λ done is. subst P (call_done s pid op done is) (call_good n pid op known (call_free s pid op done is))) h
  taken_good (AtNode n (Interrupt pid)) p known h =
      let event = AtNode n (Interrupt pid) in
      node_step w (After event) event n (node_rule (w.nodes n) (node.Input (Interrupt pid))) p (λ done is. interrupt_good n pid done (and_parts (has_node w n) (is_pid pid) known).0 is) h
  taken_good (AtNode n (Retry pid)) p known h =
      let event = AtNode n (Retry pid) in
      node_step w (After event) event n (node_rule (w.nodes n) (node.Input (Retry pid))) p (λ done is. retry_good n pid done (and_parts (has_node w n) (is_pid pid) known).0 is) h
  taken_good (AtServer file input) p known h = input_good file input p h
  taken_good (Deliver (Grant file number call mode span)) p known h =
      let m = Grant file number call mode span in
      let both = and_parts (has_node w call.node) (is_among w.sent m) known in
      node_told call.node m p both.0 both.1 h
  taken_good (Deliver (Revoke file number holder call mode wanted)) p known h =
      let m = Revoke file number holder call mode wanted in
      let both = and_parts (has_node w holder.node) (is_among w.sent m) known in
      node_told holder.node m p both.0 both.1 h
  taken_good (Deliver (Deny file call holder number lock)) p known h =
      let m = Deny file call holder number lock in
      let both = and_parts (has_node w call.node) (is_among w.sent m) known in
      node_told call.node m p both.0 both.1 h
  taken_good (Deliver (Request file call blocking mode wanted)) p known h =
      let m = Request file call blocking mode wanted in
      told_good m file p (known_backed m (and_parts (has_actor w (addressee m)) (is_among w.sent m) known).1) h
  taken_good (Deliver (Conflict file number holder call lock)) p known h =
      let m = Conflict file number holder call lock in
      let behind = known_backed m (and_parts (has_actor w (addressee m)) (is_among w.sent m) known).1 in
      told_good m file p (λ r held its now. (behind, not_blocking past call r its now held.1)) h
  taken_good (Deliver (Taken file number call)) p known h = told_good (Taken file number call) file p tt h
  taken_good (Deliver (Released file number holder call span)) p known h = told_good (Released file number holder call span) file p tt h
  taken_good (Deliver (Freed file holder)) p known h = told_good (Freed file holder) file p tt h
  taken_good (Deliver (Report file number holder runs)) p known h = told_good (Report file number holder runs) file p tt h
  taken_good (Deliver (Hello file number holder)) p known h =
      let m = Hello file number holder in
      let both = and_parts (has_node w holder.node) (is_among w.sent m) known in
      node_told holder.node m p both.0 both.1 h
  taken_good (Member event) p known h = member_step w (After (Member event)) event p
      (λ n is alive. declare_good event n known is)
      (λ n is dead small. restart_good event n is small)
      (λ file is works. fail_good (Member event) (subst IsNoDeclaration (sym is) tt) file)
      (λ file is stopped small. start_good (Member event) (subst IsNoDeclaration (sym is) tt) file) h

  pub next_good : (event : Event) (p : WorldState × Entry) → next w event ≡ Ok p → IsSafe p.0 → IsNumber most_nodes p.0.shape.nodes × Good shape (past ++ p.1 ∷ []) p.0
  next_good event p h safe =
      let x = next_taken w event p h in
      taken_good event p x.0 x.1 h safe

-- before the first entry
good_first : (shape : ShapeFields) → Good shape [] (first_world shape)
good_first shape = record {
  leads = refl;
  named = λ n. refl;
  limits = λ n. refl;
  incarnations = λ n. (omega arith, λ h. omega arith);
  young = λ id named. absurd (none_named id named);
  holds = λ n. record {
    own = own_empty (most_regions shape.version) n 1;
    waiting = All-nil (IsOpen [] ((first_world shape).nodes n));
    numbers = λ id named node incarnation. absurd (none_named id named);
  };
  strangers = λ n h. refl;
  one_call = λ id p q o u j k a b. absurd (none_called id p o j a);
  one_reply = λ id r q j k a b. absurd (none_replied id r j a);
  told = λ k e test at none. absurd (none-some e at.2);
  asked = λ n. All-nil (IsAskedBy shape [] ((first_world shape).nodes n));
  ends = λ n file b past_end. refl;
  backed = All-nil (Backed shape [] (first_world shape));
  comes = λ file. record {
    file_is = refl;
    held = All-nil (HeldFor shape [] file);
    outstanding = λ n row m there h. absurd (none-some row there);
    numbers = λ number fits. tt;
  };
  slotted = slotted_first shape;
  all = all_slotted_first;
}

-- each node's table is its own
abbrev pub AllOwn : WorldState → Type 0
AllOwn w = (n : ℕ) → IsOwn (w.nodes n).table (w.nodes n).node (w.nodes n).incarnation

-- the facts that hold after each run, together with those of tokens and answers
module _ (shape : ShapeFields) (is_shape : IsShape shape) (Q : WorldState → Type 0) (begins : Q (first_world shape)) (goes_on : (w : WorldState) → AllOwn w → ((n : ℕ) → EndsOf (w.nodes n)) → Q w → (event : Event) (p : WorldState × Entry) → next w event ≡ Ok p → Q p.0) (heard : (w : WorldState) → Q w → IsHeard w) where
  pub record Both (past : List Entry) (w : WorldState) : Type 0 where
    pub present : Q w
    pub good : Good shape past w

  both_run : (past es : List Entry) (w v : WorldState) → IsNumber most_nodes w.shape.nodes → Both past w → Leads w es v → Both (past ++ es) v
  both_run past [] w v few b l =
      let P : List Entry → Type 0 = λ xs. Both xs v in
      subst P (sym (append-nil past)) (subst (Both past) l b)
  both_run past (e ∷ es) w v few b l =
      let P : List Entry → Type 0 = λ xs. Both xs v in
      let present = goes_on w (λ n. (b.good.holds n).own) b.good.ends b.present e.event (l.0, e) l.1 in
      let after = next_good shape past w few b.good (heard w b.present) e.event (l.0, e) l.1 (heard l.0 present).safe in
      subst P (append_assoc past (e ∷ []) es) (both_run (past ++ e ∷ []) es l.0 v after.0 (record { present = present; good = after.1 }) l.2)

  both_after : (es : List Entry) (w : WorldState) → Leads (first_world shape) es w → Both es w
  both_after es w l = both_run [] es (first_world shape) w is_shape.nodes_in (record { present = begins; good = good_first shape }) l

  pub safe_after : (es : List Entry) (w : WorldState) → Leads (first_world shape) es w → IsSafe w
  safe_after es w l = (heard w (both_after es w l).present).safe

  -- the history of a run has each call at its place
  pub history_after : (es : List Entry) (w : WorldState) → Leads (first_world shape) es w → HasHistory shape es (history_of es) × EachAtItsPlace es (history_of es)
  history_after es w l =
      let g = (both_after es w l).good in
      let slots = slots_of es in (
        record {
          world = w;
          leads = l;
          one_call = g.one_call;
          one_reply = g.one_reply;
          fits = slots_fit shape es slots g.slotted g.one_reply g.all;
          legal = slots_legal shape es slots g.slotted w l;
          lives = sym (union_live w (rests_after shape es w l));
        },
        slots_at_their_places shape es slots g.slotted g.one_reply g.all,
      )

  -- the calls of a run whose replies name no lock are a plain history
  pub plain_after : (es : List Entry) (w : WorldState) → Leads (first_world shape) es w → IsPlainHistory shape es (items_in (plain_slots (slots_of es)))
  plain_after es w l =
      let g = (both_after es w l).good in
      let slots = slots_of es in
      record {
        world = w;
        leads = l;
        one_call = g.one_call;
        one_reply = g.one_reply;
        fits = plain_items shape es slots g.slotted g.one_reply g.all;
        legal = plain_legal shape es slots g.slotted w l;
        lives = sym (union_live w (rests_after shape es w l));
      }

  -- Q holds after each run
  pub kept_after : (es : List Entry) (w : WorldState) → Leads (first_world shape) es w → Q w
  kept_after es w l = (both_after es w l).present

  -- the facts of a past are those of each run
  pub good_after : (es : List Entry) (w : WorldState) → Leads (first_world shape) es w → Good shape es w
  good_after es w l = (both_after es w l).good

  -- each denial of a run has its evidence
  pub evidence_after : (es : List Entry) (w : WorldState) (file : ℕ) (call : CallId) (holder : Host) (number : ℕ) (lock : LockInfo) → Leads (first_world shape) es w → IsTold w file call holder number lock → HasEvidence shape es file call holder number lock
  evidence_after es w file call holder number lock l told =
      let both = both_after es w l in
      let g = both.good in
      let backed : (m : Message) → is_among w.sent m ≡ true → Backed shape es w m = λ m known. all_among (Backed shape es w) w.sent m g.backed known in
      elim told [
        | inl conflict ↦ (backed (Conflict file number holder call lock) conflict).evidence
        | inr rest ↦ elim rest [
          | inl deny ↦ (backed (Deny file call holder number lock) deny).0.evidence
          | inr kept ↦ (backed (Conflict file number holder call lock) ((heard w both.present).answers kept.0 kept.1 (Conflict file number holder call lock) kept.2 kept.3)).evidence
        ]
      ]

  -- no call that waits is denied in a run
  pub no_wait_after : (es : List Entry) (w : WorldState) (file : ℕ) (call : CallId) (holder : Host) (number : ℕ) (lock : LockInfo) (pid : ℕ) (op : Op) (at : ℕ) → Leads (first_world shape) es w → is_among w.sent (Deny file call holder number lock) ≡ true → IsCalledAt es call pid op at → is_wait op ≡ false
  no_wait_after es w file call holder number lock pid op at l sent called =
      let g = (both_after es w l).good in
      let blocking = (all_among (Backed shape es w) w.sent (Deny file call holder number lock) g.backed sent).1 in
      ap is_wait (called_one es call pid blocking.pid op blocking.op at blocking.at g.one_call called blocking.called).op_is ∙ blocking.waits
