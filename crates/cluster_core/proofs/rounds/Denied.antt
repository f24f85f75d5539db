-- A call that leaves the line at its server in a round that answers none, since a lock was in its way, is a wait, and the lock blocks it.
use Rattle.std.specs.Prelude.{not}
use Rattle.std.specs.List.{list_any}
use Rattle.std.proofs.Common.{◌≡◌, ℕ, ◌+◌, ◌<◌, ◌≤◌, true, false, inl, inr, refl, sym, ◌∙◌, ap, subst, arith, take-append-drop, List, [], ◌∷◌, ◌++◌, take, drop, length, Contains, is_some, IfSome, Option, Some, None, Ok}
use Rattle.std.proofs.lemmas.Bool.{and_parts, both_ways, cases_Bool, cases_lt}
use Rattle.std.proofs.lemmas.List.Elements.{All-contains}
use Rattle.intervals.specs.rule.Bytes.{Range}
use Rattle.model.specs.declared.call.CallId.{CallId}
use Rattle.model.specs.declared.host.Host.{Host}
use Rattle.model.specs.declared.lock_info.LockInfo.{LockInfo}
use Rattle.model.specs.declared.mode.Mode.{Mode}
use Rattle.model.specs.declared.op.LockCommand.{LockCommand}
use Rattle.model.specs.declared.op.LockCommand.TheVariants.{Set, Wait, Query}
use Rattle.model.specs.declared.owner.Owner.{Owner}
use Rattle.model.specs.declared.reply.Reply.{Reply}
use Rattle.model.specs.rule.Table.{Table}
use Rattle.messages.specs.rule.Shapes.{ShapeFields, IsShape}
use Rattle.messages.specs.rule.Messages.{is_among, is_within, same_blocking, same_message}
use Rattle.messages.specs.declared.message.Blocking.TheVariants.{Yes}
use Rattle.messages.specs.declared.message.Message.{Message}
use Rattle.messages.specs.declared.message.Message.TheVariants.{Revoke, Conflict, Deny}
use Rattle.messages.specs.declared.event.Event.TheVariants.{Deliver}
use Rattle.messages.specs.declared.entry.Entry.{Entry}
use Rattle.cluster_core.specs.rule.World.{WorldState, first_world, has_node, is_alive}
use Rattle.model.specs.declared.reply.Reply.TheVariants.{Again, Blocked}
use Rattle.model.specs.rule.Locks.{Blocks, IsRegion, excludes}
use Rattle.messages.proofs.SameMessages.{call_exact}
use Rattle.node_core.specs.declared.open_call.OpenCall.{OpenCall}
use Rattle.node_core.specs.rule.State.{process, target_of, id_of}
use Rattle.node_core.specs.rule.Try.{blocking_of, refusal_of}
use Rattle.token_server.specs.declared.token_queue.token_request.TokenRequest.{TokenRequest}
use Rattle.token_server.specs.declared.event.ServerEvent.TheVariants as server
use Rattle.token_server.specs.rule.Requests.{is_of_call}
use Rattle.token_server.specs.rule.Rows.{Row, outstanding_of, revoked_mode}
use Rattle.token_server.specs.rule.Server.{request_of, row_of_host, server_rule}
use Rattle.token_server.proofs.CareLaws.{All-left, find-each, find-passes, active-each}
use Rattle.cluster_core.specs.rule.Next.{next}
use Rattle.cluster_core.specs.rule.Runs.{Leads}
use Rattle.cluster_core.specs.rule.Union.{union}
use Rattle.cluster_core.specs.rule.Evidence.{IsAsked, HasEvidence, is_wait}
use Rattle.cluster_core.specs.rule.Histories.{IsCalledAt}
use Rattle.cluster_core.specs.rule.Rounds.{IsQuiet, IsRound, AnswersNone, IsOutstanding, IsBlockedWait}
use Rattle.cluster_core.specs.rule.Serving.{IsAtRest}
use Rattle.cluster_core.proofs.history.Nodes.{IsOpen}
use Rattle.cluster_core.proofs.history.Prefixes.{leads_one}
use Rattle.cluster_core.proofs.history.Witnesses.{about_node, called_one, IsAskedBy, asked_one, for_blocking, Backed, HeldFor}
use Rattle.cluster_core.proofs.history.Worlds.{Good}
use Rattle.cluster_core.proofs.steps.NodeTokens.{all_among, first_among}
use Rattle.cluster_core.proofs.steps.ServerRows.{row_found, revokes}
use Rattle.cluster_core.proofs.steps.Steps.{next_taken, server_step}
use Rattle.cluster_core.proofs.tokens.Talks.{IsCommandTo, command_host}
use Rattle.cluster_core.proofs.tokens.Present.{Present}
use Rattle.cluster_core.proofs.runs.Checked.{between}
use Rattle.cluster_core.proofs.runs.Runs.{good_run}
use Rattle.cluster_core.proofs.rounds.Granted.{delivered_sent, new_command}
use Rattle.cluster_core.proofs.rounds.Kinds.{every_answer}
use Rattle.cluster_core.proofs.rounds.Leaving.{Leaving}
use Rattle.cluster_core.proofs.rounds.Quiet.{SameMembers, rests-without-answers}
use Rattle.cluster_core.proofs.rounds.Request.{own_then, id_then}
use Rattle.cluster_core.proofs.rounds.RoundRests.{step_as}
use Rattle.cluster_core.proofs.rounds.Silent.{Silent, silent_parts, silent_after, silent_head, silent_rests, open_then}
use Rattle.cluster_core.proofs.rounds.Stretches.{AllQuiet, leads_both, members_stay, sent_through, dead_through}
use Rattle.cluster_core.proofs.rounds.DenialSteps.{all_drop, front, has_found, no_wait, rule_within, denies_call, denial_answers}

module _ (shape : ShapeFields) (is : IsShape shape) (past fs : List Entry) (w v : WorldState) (file : ℕ) (before : Leads (first_world shape) past w) (works : w.working file ≡ true) (round : IsRound file w fs v) (none : AnswersNone fs) (n : ℕ) (c : OpenCall) (alive : is_alive v n ≡ true) (at : Contains (v.nodes n).pending c) (of_file : c.file ≡ file) (at_rest : IsAtRest (w.servers file)) (told : (j : ℕ) → has_node w j ≡ true → (w.nodes j).incarnation ≤ (w.servers file).dead j + 1) where
  abbrev id : CallId
  id = id_of (v.nodes n) c.number

  whole : Silent shape w fs v
  whole = record { stretch = record { run = past; before = before; leads = round.leads; quiet = round.quiet }; none = none }

  module _ (l : Leaving shape w fs v file id) (k : ℕ) (holder : Host) (lock : LockInfo) (event_is : l.entry.event ≡ Deliver (Conflict file k holder id lock)) (active : list_any (is_of_call id) (l.world.servers file).active ≡ true) (row : Row) (mode : Mode) (there : row_of_host (l.world.servers file) holder ≡ Some row) (fits : revoked_mode k row.outstanding ≡ Some mode) where
    abbrev y : WorldState
    y = l.world

    abbrev run : List Entry
    run = past ++ l.before

    abbrev conflict : Message
    conflict = Conflict file k holder id lock

    leads_there : Leads (first_world shape) run y
    leads_there = leads_both (first_world shape) w y past l.before before l.first

    good : Good shape run y × Present y
    good = good_run shape run y is leads_there

    quiet_before : AllQuiet l.before
    quiet_before = All-left (λ (e : Entry). IsQuiet e.event) l.before (l.entry ∷ l.after) (subst AllQuiet l.split round.quiet)

    none_before : AnswersNone l.before
    none_before = All-left (λ (e : Entry). e.reply ≡ None) l.before (l.entry ∷ l.after) (subst AnswersNone l.split none)

    step : next y (Deliver conflict) ≡ Ok (l.rest.stretch.leads.0, l.entry)
    step = step_as y l.entry l.rest.stretch.leads.0 (Deliver conflict) event_is l.rest.stretch.leads.1

    sent_there : is_among y.sent conflict ≡ true
    sent_there = delivered_sent y conflict (l.rest.stretch.leads.0, l.entry) step

    its_row : ((y.servers file).rows holder.node ≡ Some row) × (row.incarnation ≡ holder.incarnation)
    its_row = row_found holder.incarnation ((y.servers file).rows holder.node) row there

    within : has_node y holder.node ≡ true
    within =
        let here : is_within (y.servers file).shape.nodes holder.node ≡ true = server_step y (λ q. is_within (y.servers file).shape.nodes holder.node ≡ true) (Deliver conflict) file (server_rule (y.servers file) (server.Deliver conflict)) (l.rest.stretch.leads.0, l.entry)
        (λ done made. rule_within (y.servers file) conflict done made) (next_taken y (Deliver conflict) (l.rest.stretch.leads.0, l.entry) step).1 in
        ap (λ (s : ShapeFields). is_within s.nodes holder.node) (sym (good.1.serves file).shape_is) ∙ here

    stay : SameMembers w y
    stay = members_stay l.before w y l.first quiet_before

    within_before : has_node w holder.node ≡ true
    within_before = ap (λ (s : ShapeFields). is_within s.nodes holder.node) (sym stay.shape) ∙ within

    -- the row is of the holder's live incarnation
    live_row : row.incarnation ≡ (y.nodes holder.node).incarnation
    live_row =
        let talk = (good.1.serves file).talks holder.node in
        let aged = talk.aged row its_row.0 in
        let lives = talk.lives in
        let knows = told holder.node within_before in
        let grows = dead_through l.before w y file holder.node l.first quiet_before in
        let same = stay.incarnation holder.node in
        omega arith

    command : (m : Message) × (row.outstanding ≡ Some m) × (is_among y.sent m ≡ true) × IsCommandTo file holder.node row.incarnation row.number m × (k ≡ row.number)
    command =
        let r = revokes k mode row.outstanding fits in
        let sent = ((good.1.serves file).talks holder.node).waits row r.command its_row.0 r.waiting in
        (r.command, r.waiting, sent.0, sent.1, r.number file holder.node row.incarnation row.number sent.1)

    out : IsOutstanding y file holder.node command.0
    out = record { outstanding = ap outstanding_of its_row.0 ∙ command.1; live = (command_host file holder.node row.incarnation row.number command.0 command.3).1 ∙ live_row }

    -- the conflict was not sent before the round
    unsent : is_among w.sent conflict ≡ true → ⊥
    unsent old =
        let h = every_answer shape past w conflict is before old in
        let later = sent_through l.before w y (Revoke file k holder id h.0 h.1) l.first h.2 in
        let same : Revoke file k holder id h.0 h.1 ≡ command.0 = ((good.1.serves file).talks holder.node).one_number row.incarnation row.number (Revoke file k holder id h.0 h.1) command.0 later command.2 (refl, command.4, refl, sym its_row.1) command.3 in
        new_command shape past l.before w y file holder.node command.0 is before l.first quiet_before within_before at_rest out (subst (λ (z : Message). is_among w.sent z ≡ true) same h.2)

    evidence : HasEvidence shape run file id holder k lock
    evidence = (all_among (Backed shape run y) y.sent conflict good.0.backed sent_there).evidence

    -- the holder did the revoke in the round
    done_late : length past ≤ evidence.at
    done_late = elim (cases_lt evidence.at (length past)) [
      | inr late ↦ late
      | inl early ↦
          let revoking = evidence.revoked.revoking in
          let among : is_among revoking.sends conflict ≡ true = ap (λ (ms : List Message). is_among ms conflict) evidence.answer ∙ first_among conflict [] in
          let here = front past l.before evidence.at revoking (omega arith) evidence.revoked.there in
          absurd (elim (cases_Bool (is_among w.sent conflict)) [
            | inl old ↦ unsent old
            | inr new ↦ both_ways (is_among revoking.sends conflict) ((good_run shape past w is before).0.told evidence.at revoking (same_message conflict) here new) among
          ])
    ]

    -- the lock is one of the table at the end
    table_is : union v ≡ union evidence.world
    table_is =
        let parts : Leads (first_world shape) (take evidence.at run ++ drop evidence.at run) y = subst (λ (xs : List Entry). Leads (first_world shape) xs y) (sym (take-append-drop evidence.at run)) leads_there in
        let mid = between (first_world shape) y (take evidence.at run) (drop evidence.at run) parts in
        let same : mid.0 ≡ evidence.world = leads_one (first_world shape) mid.0 evidence.world (take evidence.at run) mid.1 evidence.after in
        let rest : Leads evidence.world (drop evidence.at run) y = subst (λ (z : WorldState). Leads z (drop evidence.at run) y) same mid.2 in
        let first = rests-without-answers evidence.world y (drop evidence.at run) rest (all_drop (λ (e : Entry). IsQuiet e.event) past l.before evidence.at done_late quiet_before) (all_drop (λ (e : Entry). e.reply ≡ None) past l.before evidence.at done_late none_before) in
        (silent_rests shape y v (l.entry ∷ l.after) l.rest).1 ∙ first.1

    own : IsAsked shape run c.file id c.mode c.span
    own =
        let s = y.nodes n in
        let open_there = open_then shape is v n c alive at y (l.entry ∷ l.after) l.rest in
        subst (λ (i : CallId). IsAsked shape run c.file i c.mode c.span) (id_then shape is past fs w v file before works round none n c alive at of_file y (l.entry ∷ l.after) l.rest) (All-contains (IsAskedBy shape run s) s.pending c (good.0.asked n) open_there)

    its_open : IsOpen run (y.nodes n) c
    its_open = All-contains (IsOpen run (y.nodes n)) (y.nodes n).pending c (good.0.holds n).waiting (open_then shape is v n c alive at y (l.entry ∷ l.after) l.rest)

    -- the lock is of another node than the call
    other : lock.owner ≡ c.owner → ⊥
    other same =
        let h = every_answer shape run y conflict is leads_there sent_there in
        let behind = all_among (Backed shape run y) y.sent (Revoke file k holder id h.0 h.1) good.0.backed h.2 in
        let mine : c.owner.node ≡ (y.nodes n).node = about_node (y.nodes n).table (process (y.nodes n) c.pid) its_open.op c.mode (target_of c) its_open.ready.passes in
        let node_is : (y.nodes n).node ≡ id.node = sym ((silent_rests shape y v (l.entry ∷ l.after) l.rest).0.nodes n).node in
        behind.1 (sym evidence.of_node ∙ (ap (λ (o : Owner). o.node) same ∙ (mine ∙ node_is)))

    blocked : Blocks ((union v).locks c.file) c.owner c.span c.mode lock
    blocked =
        let same = asked_one shape run id file c.file evidence.mode c.mode evidence.wanted.required c.span good.0.one_call evidence.asked own in
        let b = evidence.blocks in
        record {
          is_other = other;
          region = subst (λ (g : ℕ). IsRegion ((union v).locks g) lock) (sym of_file) (subst (λ (z : Table). IsRegion (z.locks file) lock) (sym table_is) b.region);
          conflicts = subst (λ (m : Mode). excludes lock.mode m ≡ true) same.mode_is b.conflicts;
          starts = subst (λ (r : Range). lock.span.lo ≤ r.hi) same.span_is b.starts;
          ends = subst (λ (r : Range). r.lo ≤ lock.span.hi) same.span_is b.ends;
        }

    -- the request of the call that is served
    request : (r : TokenRequest) × (request_of id (y.servers file).active ≡ Some r)
    request = has_found (is_of_call id) (y.servers file).active active

    -- it waits where a lock blocks it exactly if the call does
    its_blocking : same_blocking request.0.blocking Yes ≡ same_blocking (blocking_of c.lock_command) Yes
    its_blocking =
        let r = request.0 in
        let t = y.servers file in
        let held : HeldFor shape run file r = subst (λ (o : Option TokenRequest). IfSome o (HeldFor shape run file)) request.1 (find-each (HeldFor shape run file) (is_of_call id) t.active (active-each (HeldFor shape run file) t (good.0.comes file).held)) in
        let its : is_of_call id r ≡ true = subst (λ (o : Option TokenRequest). IfSome o (λ q. is_of_call id q ≡ true)) request.1 (find-passes (is_of_call id) t.active) in
        let call_is : r.call ≡ id = call_exact r.call id its in
        let named = id_then shape is past fs w v file before works round none n c alive at of_file y (l.entry ∷ l.after) l.rest in
        let b = held.1 in
        let mine = its_open.called in
        let same = called_one run id b.pid c.pid b.op its_open.op b.at mine.at good.0.one_call (subst (λ (i : CallId). IsCalledAt run i b.pid b.op b.at) call_is b.called) (subst (λ (i : CallId). IsCalledAt run i c.pid its_open.op mine.at) named mine.there) in
        sym b.waits ∙ (ap is_wait same.op_is ∙ for_blocking c.lock_command its_open.op its_open.ready.is_for)

    never : same_blocking (blocking_of c.lock_command) Yes ≡ false → (reply : Reply) → refusal_of c.lock_command lock ≡ Some reply → ⊥
    never now reply refuses =
        let t = y.servers file in
        let made = l.rest.stretch.leads.0 in
        let aged = ((good.1.serves file).talks holder.node).aged row its_row.0 in
        let own_row = its_row.1 in
        let lives : t.dead holder.node < holder.incarnation = omega arith in
        let told_there : is_among l.entry.sends (Deny t.file id holder k lock) ≡ true = server_step y (λ q. is_among q.1.sends (Deny t.file id holder k lock) ≡ true) (Deliver conflict) file (server_rule t (server.Deliver conflict)) (made, l.entry)
        (λ done is. denies_call t file k holder id lock row mode request.0 done there fits request.1 (no_wait request.0.blocking (its_blocking ∙ now)) lives is) (next_taken y (Deliver conflict) (made, l.entry) step).1 in
        let deny = Deny file id holder k lock in
        let sent : is_among l.entry.sends deny ≡ true = subst (λ (f : ℕ). is_among l.entry.sends (Deny f id holder k lock) ≡ true) (good.1.serves file).file_is told_there in
        let at_node : id.node ≡ n = ((silent_rests shape y v (l.entry ∷ l.after) l.rest).0.nodes n).node ∙ good.1.named n in
        let alive_there : v.alive n ≡ true = (and_parts (has_node v n) (v.alive n) alive).1 in
        let d = round.delivers l.before l.after l.entry deny l.split sent refl (ap (λ (j : ℕ). not (v.alive j)) at_node ∙ ap not alive_there) in
        let later = silent_parts shape made v d.before l.after d.happened d.after d.split (silent_after shape y v l.entry l.after l.rest) in
        let u = later.world in
        let silent = silent_head shape u v d.happened d.after later.rest in
        let found = (own_then shape is past fs w v file before works round none n c alive at of_file u (d.happened ∷ d.after) later.rest).1 in
        let incarnation : id.incarnation ≡ (u.nodes n).incarnation = ((silent_rests shape u v (d.happened ∷ d.after) later.rest).0.nodes n).incarnation in
        let step_there = step_as u d.happened later.rest.stretch.leads.0 (Deliver deny) d.is later.rest.stretch.leads.1 in
        let answers = denial_answers u n c file k id holder lock reply (later.rest.stretch.leads.0, d.happened) at_node incarnation found refuses step_there in
        both_ways (is_some d.happened.reply) (ap (λ (o : Option (CallId × Reply)). is_some o) silent) answers

    pub denied_blocks : IsBlockedWait v c
    denied_blocks = by c.lock_command refl
      where
        by : (i : LockCommand) → c.lock_command ≡ i → IsBlockedWait v c
        by Wait is = record { waits = is; lock = lock; blocks = blocked }
        by Set is = absurd (never (ap (λ (i : LockCommand). same_blocking (blocking_of i) Yes) is) (Again lock) (ap (λ (i : LockCommand). refusal_of i lock) is))
        by Query is = absurd (never (ap (λ (i : LockCommand). same_blocking (blocking_of i) Yes) is) (Blocked lock) (ap (λ (i : LockCommand). refusal_of i lock) is))
