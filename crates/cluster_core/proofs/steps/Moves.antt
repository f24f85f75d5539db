-- Each step of a node keeps the facts of it.
use Rattle.std.proofs.Common.{◌≡◌, ℕ, ◌+◌, ◌≤◌, Bool, true, ◌==◌, inl, inr, refl, sym, ◌∙◌, ap, subst, arith, List, [], ◌∷◌, ◌++◌, find, All, Option, Some, None}
use Rattle.std.proofs.lemmas.Bool.{eqb-true}
use Rattle.std.proofs.lemmas.Option.{same_Some}
use Rattle.std.proofs.lemmas.List.Elements.{All-same, All-push, All-contains}
use Rattle.intervals.specs.rule.Bytes.{Range}
use Rattle.model.specs.declared.mode.Mode.{Mode}
use Rattle.model.specs.declared.call.CallId.{CallId}
use Rattle.model.specs.declared.host.Host.{Host}
use Rattle.model.specs.declared.lock_info.LockInfo.{LockInfo}
use Rattle.model.specs.declared.op.Op.{Op}
use Rattle.model.specs.declared.reply.Reply.{Reply}
use Rattle.model.specs.declared.reply.Reply.TheVariants.{Interrupted}
use Rattle.model.specs.rule.Limits.{IsProcess}
use Rattle.token_set.specs.rule.Tokens.{raised}
use Rattle.messages.specs.rule.TokenRuns.{Wants}
use Rattle.messages.specs.declared.message.Message.{Message}
use Rattle.messages.specs.declared.message.Message.TheVariants.{Request, Grant, Revoke, Taken, Released, Conflict, Deny, Freed, Hello, Report}
use Rattle.messages.specs.rule.Messages.{runs_of}
use Rattle.messages.specs.declared.event.Event.{Event}
use Rattle.messages.specs.declared.event.Event.TheVariants.{AtNode, Deliver}
use Rattle.messages.specs.declared.event.NodeInput.TheVariants.{Call}
use Rattle.messages.specs.declared.entry.Entry.{Entry}
use Rattle.node_core.specs.declared.open_call.OpenCall.{OpenCall}
use Rattle.node_core.specs.rule.State.{NodeState, FileState, Effect, quiet, sent, host, answered, without_call, process, id_of, open_call_of, outcome}
use Rattle.node_core.specs.rule.Try.{refusal_of, tried, tried_if}
use Rattle.node_core.specs.rule.Calls.{is_in_shape, called, after_call}
use Rattle.node_core.specs.rule.Commands.{in_epoch, remembered, in_order, after_command, granted, revoked, denied, delivered}
use Rattle.node_core.specs.rule.Interrupts.{interrupted}
use Rattle.cluster_core.specs.rule.Histories.{IsRepliedAt}
use Rattle.cluster_core.specs.rule.Next.{entry}
use Rattle.cluster_core.proofs.history.Entries.{not_there, IsNamed, Unanswered, unanswered-push, named-push}
use Rattle.cluster_core.proofs.history.Fitting.{Called, called-keeps, called-last}
use Rattle.cluster_core.proofs.steps.NodeSteps.{IsTo, answered_if_either, interrupted_either, in_order_either, told_either}
use Rattle.model.specs.rule.Anchors.{IsOwn}
use Rattle.cluster_core.proofs.steps.Tries.{Continues, IsAnswered, IsSilent, Stays, IsIdle, same_continues, stays_closed, tried_ends, interrupted_ends, called_ends}
use Rattle.cluster_core.proofs.history.Nodes.{IsOpen, Holds, Moves, IsNoDenial, still_goes_on, open-continues, opened, all_wait, others_wait, found_open, stay_same, stay_closed, stay_opened}

-- an entry that names no call counts none
same_numbers : (past : List Entry) (e : Entry) (s u : NodeState) → Continues s u → u.calls ≡ s.calls → e.call ≡ None → Holds past s → (id : CallId) → IsNamed (past ++ e ∷ []) id → id.node ≡ u.node → id.incarnation ≡ u.incarnation → id.number ≤ u.calls
same_numbers past e s u g calls none holds id named node incarnation = elim (named-push past e id named) [
  | inl old ↦ let below = holds.numbers id old (node ∙ g.node) (incarnation ∙ g.incarnation) in omega arith
  | inr new ↦ absurd (not_there e.call id none new)
]

own_after : (s u : NodeState) → Continues s u → IsOwn u.table u.node u.incarnation
own_after s u g = subst (λ (i : ℕ). IsOwn u.table u.node i) (sym g.incarnation) (subst (λ (n : ℕ). IsOwn u.table n s.incarnation) (sym g.node) g.own)

-- a step that names no call and answers none
silent_moves : (past : List Entry) (e : Entry) (s u : NodeState) → Continues s u → u.calls ≡ s.calls → u.pending ≡ s.pending → e.call ≡ None → IsSilent s u e.reply → Holds past s → Moves past s u e
silent_moves past e s u g calls pending none silent holds = record {
  holds = record {
    own = own_after s u g;
    waiting = All-same (IsOpen (past ++ e ∷ []) u) u.pending s.pending pending (all_wait past e s u s.pending g silent holds.waiting);
    numbers = same_numbers past e s u g calls none holds;
  };
  node = g.node;
  incarnation = g.incarnation;
  fresh = λ id h. absurd (not_there e.call id none h);
  of_incarnation = λ id h. absurd (not_there e.call id none h);
  stay = stay_same s u e pending;
  ends = inr (inr silent);
}

-- the facts of the node after an open call is answered
closed_holds : (past : List Entry) (e : Entry) (s u : NodeState) (number : ℕ) (reply : Reply) → Continues s u → u.calls ≡ s.calls → e.call ≡ None → e.reply ≡ Some (id_of s number, reply) → All (Stays s.pending number) u.pending → Holds past s → Holds (past ++ e ∷ []) u
closed_holds past e s u number reply g calls none is_reply closed holds = record {
  own = own_after s u g;
  waiting = others_wait past e s u number reply g is_reply closed holds.waiting;
  numbers = same_numbers past e s u g calls none holds;
}

-- a step that answers an open call
answer_moves : (past : List Entry) (e : Entry) (s u : NodeState) (c : OpenCall) (o : IsOpen past s c) → IsNoDenial e.event → Continues s u → u.calls ≡ s.calls → e.call ≡ None → IsAnswered s c.number c.pid o.op u e.reply → Holds past s → Moves past s u e
answer_moves past e s u c o undenied g calls none a holds = record {
  holds = closed_holds past e s u c.number a.reply g calls none a.is_reply a.closed holds;
  node = g.node;
  incarnation = g.incarnation;
  fresh = λ id h. absurd (not_there e.call id none h);
  of_incarnation = λ id h. absurd (not_there e.call id none h);
  stay = stay_closed s u e c.number a.closed;
  ends = inl (
    record {
      number = c.number;
      pid = c.pid;
      op = o.op;
      reply = a.reply;
      is_reply = a.is_reply;
      is_process = o.is_process;
      called = called-keeps past (e ∷ []) (id_of s c.number) c.pid o.op o.called;
      fresh = o.unanswered;
      step = a.step;
      served = a.served;
    },
    undenied,
  );
}

-- the step of a message, which does little where no call is open
pub record Receives (past : List Entry) (s u : NodeState) (e : Entry) : Type 0 where
  pub moves : Moves past s u e
  pub idle : s.pending ≡ [] → (u.pending ≡ []) × IsSilent s u e.reply

found_none : (test : OpenCall → Bool) (calls : List OpenCall) (c : OpenCall) → calls ≡ [] → find test calls ≡ Some c → ⊥
found_none test calls c none h = let e : find test [] ≡ Some c = subst (λ (x : List OpenCall). find test x ≡ Some c) none h in cc

module _ (past : List Entry) (s : NodeState) (holds : Holds past s) where
  -- the entry of an effect that names no call
  abbrev said : Event → Effect → Entry
  said event e = entry event 0 (outcome None e).1

  still : Continues s s
  still = same_continues s s.pending holds.own

  -- a message that changes nothing
  nothing_receives : (e : Entry) → e.call ≡ None → e.reply ≡ None → Receives past s s e
  nothing_receives e no_call none = record {
    moves = silent_moves past e s s still refl refl no_call (record { no_reply = none; table = refl }) holds;
    idle = λ h. (h, record { no_reply = none; table = refl });
  }

  -- a message that only sends messages
  pub quiet_receives : (event : Event) (e : Effect) → e.state ≡ s → e.reply ≡ None → Receives past s e.state (said event e)
  quiet_receives event e same none =
      let P : NodeState → Type 0 = λ u. Receives past s u (said event e) in
      subst P (sym same) (nothing_receives (said event e) refl none)

  remembered_receives : (event : Event) (answer : Option Message) → Receives past s (remembered s answer).state (said event (remembered s answer))
  remembered_receives event None = quiet_receives event (quiet s) refl refl
  remembered_receives event (Some m) = quiet_receives event (remembered s (Some m)) refl refl

  -- an open call is tried, where the node learned at most of files before
  tried_receives : (files : ℕ → FileState) (test : OpenCall → Bool) (e : Entry) → IsNoDenial e.event → e.call ≡ None → e.reply ≡ (tried_if (record s { files = files }) (find test s.pending)).reply → Receives past s (tried_if (record s { files = files }) (find test s.pending)).state e
  tried_receives files test e undenied none is_reply =
      let next = record s { files = files } in
      elim (find test s.pending) as (λ x. find test s.pending ≡ x → e.reply ≡ (tried_if next x).reply → Receives past s (tried_if next x).state e) [
        | None ↦ λ h is.
            let silent : IsSilent s next e.reply = record { no_reply = is; table = refl } in
            record {
              moves = silent_moves past e s next (record { node = refl; incarnation = refl; own = still.own; goes_on = still.goes_on }) refl refl none silent holds;
              idle = λ empty. (empty, silent);
            }
        | Some c ↦ λ h is.
            let o = All-contains (IsOpen past s) s.pending c holds.waiting (found_open test s.pending c h).0 in
            let u = (tried next c).state in
            let t = tried_ends next c o.op o.is_process.pid_in holds.own o.ready in
            let g : Continues s u = record { node = t.continues.node; incarnation = t.continues.incarnation; own = t.continues.own; goes_on = t.continues.goes_on } in
            record {
              moves = elim t.ends [
                | inl a ↦ answer_moves past e s u c o undenied g t.calls none (record { reply = a.reply; is_reply = is ∙ a.is_reply; step = a.step; served = a.served; closed = a.closed }) holds
                | inr q ↦ silent_moves past e s u g t.calls q.1 none (record { no_reply = is ∙ q.0.no_reply; table = q.0.table }) holds
              ];
              idle = λ empty. absurd (found_none test s.pending c empty h);
            }
      ] refl is_reply

  -- a retry
  pub retried_receives : (event : Event) (incarnation pid : ℕ) → IsNoDenial event → Receives past s (tried_if s (open_call_of s pid)).state (entry event incarnation (outcome None (tried_if s (open_call_of s pid))).1)
  retried_receives event incarnation pid undenied =
      tried_receives s.files (λ c. c.pid == pid) (entry event incarnation (outcome None (tried_if s (open_call_of s pid))).1) undenied refl refl

  -- an interrupt: a call that waits is answered
  pub interrupted_receives : (event : Event) (incarnation pid : ℕ) → IsNoDenial event → (let e = interrupted s (open_call_of s pid) in Receives past s e.state (entry event incarnation (outcome None e).1))
  interrupted_receives event incarnation pid undenied =
      let test : OpenCall → Bool = λ c. c.pid == pid in
      let told : Effect → Entry = λ e. entry event incarnation (outcome None e).1 in
      interrupted_either (λ e. Receives past s e.state (told e)) s (open_call_of s pid) (λ c h waits.
      let o = All-contains (IsOpen past s) s.pending c holds.waiting (found_open test s.pending c h).0 in
      let u = without_call s c.number in
      record {
        moves = answer_moves past (told (answered s c.number Interrupted)) s u c o undenied (same_continues s u.pending holds.own) refl refl (interrupted_ends s c o.op waits o.ready) holds;
        idle = λ empty. absurd (found_none test s.pending c empty h);
      }) (nothing_receives (told (quiet s)) refl refl)

  -- a grant: the call that it was for is tried
  granted_receives : (event : Event) (file number : ℕ) (call : CallId) (mode : Mode) (span : Range) → IsNoDenial event → Receives past s (granted s file number call mode span).state (said event (granted s file number call mode span))
  granted_receives event file number call mode span undenied =
      let next = after_command s file (raised (s.files file).token span mode) number (Taken file number call) (s.files file).owes_freed in
      tried_receives next.files (λ c. c.number == call.number) (said event (granted s file number call mode span)) undenied refl refl

  -- a revoke answers no call
  revoked_receives : (event : Event) (file number : ℕ) (call : CallId) (mode : Mode) (wanted : Wants) → Receives past s (revoked s file number call mode wanted).state (said event (revoked s file number call mode wanted))
  revoked_receives event file number call mode wanted =
      let e = revoked s file number call mode wanted in
      let silent : IsSilent s e.state None = record { no_reply = refl; table = refl } in
      record {
        moves = silent_moves past (said event e) s e.state (record { node = refl; incarnation = refl; own = still.own; goes_on = still.goes_on }) refl refl refl silent holds;
        idle = λ none. (none, silent);
      }

  -- a denial: its call is told of the lock
  refused_receives : (file : ℕ) (call : CallId) (holder : Host) (number : ℕ) (lock : LockInfo) → IsTo s (Deny file call holder number lock) → (c : OpenCall) → find (λ d. d.number == call.number) s.pending ≡ Some c → (reply : Reply) → refusal_of c.lock_command lock ≡ Some reply → Receives past s (answered s c.number reply).state (said (Deliver (Deny file call holder number lock)) (answered s c.number reply))
  refused_receives file call holder number lock to c h reply refuses =
      let test : OpenCall → Bool = λ d. d.number == call.number in
      let e = said (Deliver (Deny file call holder number lock)) (answered s c.number reply) in
      let u = without_call s c.number in
      let g : Continues s u = same_continues s u.pending holds.own in
      let left = stays_closed s.pending c.number in
      let found = found_open test s.pending c h in
      let same_node : s.node ≡ call.node = sym (eqb-true call.node s.node to.node) in
      let same_incarnation : s.incarnation ≡ call.incarnation = sym to.incarnation in
      let same_number : c.number ≡ call.number = eqb-true c.number call.number found.1 in
      record {
        moves = record {
          holds = closed_holds past e s u c.number reply g refl refl refl left holds;
          node = refl;
          incarnation = refl;
          fresh = λ id is. absurd (not_there e.call id refl is);
          of_incarnation = λ id is. absurd (not_there e.call id refl is);
          stay = stay_closed s u e c.number left;
          ends = inr (inl (record {
            file = file;
            call = call;
            holder = holder;
            number = number;
            lock = lock;
            is_deny = refl;
            answering = c;
            there = found.0;
            named = λ i. record { node = same_node i; incarnation = same_incarnation i; number = same_number i };
            reply = reply;
            refuses = refuses;
            is_reply = λ i. Some (record { node = same_node i; incarnation = same_incarnation i; number = same_number i }, reply);
            table = refl;
          }));
        };
        idle = λ none. absurd (found_none test s.pending c none h);
      }

  -- a denial: its call is answered, if it is open and doesn't wait
  denied_receives : (file : ℕ) (call : CallId) (holder : Host) (number : ℕ) (lock : LockInfo) → IsTo s (Deny file call holder number lock) → (o : Option OpenCall) → find (λ c. c.number == call.number) s.pending ≡ o → Receives past s (denied s lock o).state (said (Deliver (Deny file call holder number lock)) (denied s lock o))
  denied_receives file call holder number lock to None h = quiet_receives (Deliver (Deny file call holder number lock)) (quiet s) refl refl
  denied_receives file call holder number lock to (Some c) h =
      let event = Deliver (Deny file call holder number lock) in
      answered_if_either (λ e. Receives past s e.state (said event e)) s c.number (refusal_of c.lock_command lock) (refused_receives file call holder number lock to c h) (quiet_receives event (quiet s) refl refl)

  -- a command: it is done, or the answer to the last one is sent again, or nothing
  in_order_receives : (event : Event) (file number : ℕ) (effect : Effect) → Receives past s effect.state (said event effect) → (let all = in_order s file number effect in Receives past s all.state (said event all))
  in_order_receives event file number effect done =
      in_order_either (λ e. Receives past s e.state (said event e)) s file number effect (λ next. done) (remembered_receives event (s.files file).answer) (quiet_receives event (quiet s) refl refl)

  -- the node learns at most of files
  learned_receives : (files : ℕ → FileState) (event : Event) (e : Effect) → e.state ≡ record s { files = files } → e.reply ≡ None → Receives past s e.state (said event e)
  learned_receives files event e same none =
      let next = record s { files = files } in
      let P : NodeState → Type 0 = λ u. Receives past s u (said event e) in
      let silent : IsSilent s next e.reply = record { no_reply = none; table = refl } in
      subst P (sym same) (record {
        moves = silent_moves past (said event e) s next (record { node = refl; incarnation = refl; own = still.own; goes_on = still.goes_on }) refl refl refl silent holds;
        idle = λ empty. (empty, silent);
      })

  -- the node sends an answer again
  recalled_receives : (file number : ℕ) (event : Event) (answer : Option Message) → (let e = remembered (in_epoch s file number) answer in Receives past s e.state (said event e))
  recalled_receives file number event None = learned_receives (in_epoch s file number).files event (quiet (in_epoch s file number)) refl refl
  recalled_receives file number event (Some m) = learned_receives (in_epoch s file number).files event (remembered (in_epoch s file number) (Some m)) refl refl

  -- a command, in the epoch that it is of
  entered_receives : (event : Event) (file number : ℕ) (effect : Effect) → Receives past s effect.state (said event effect) → (let all = in_order (in_epoch s file number) file number effect in Receives past s all.state (said event all))
  entered_receives event file number effect done =
      let t = in_epoch s file number in
      in_order_either (λ e. Receives past s e.state (said event e)) t file number effect (λ next. done) (recalled_receives file number event (t.files file).answer) (learned_receives t.files event (quiet t) refl refl)

  pub delivered_receives : (m : Message) → IsTo s m → Receives past s (delivered s m).state (said (Deliver m) (delivered s m))
  delivered_receives (Grant file number call mode span) to =
      let event = Deliver (Grant file number call mode span) in
      let t = in_epoch s file number in
      let next = after_command t file (raised (t.files file).token span mode) number (Taken file number call) (t.files file).owes_freed in
      entered_receives event file number (granted t file number call mode span) (tried_receives next.files (λ c. c.number == call.number) (said event (granted t file number call mode span)) tt refl refl)
  delivered_receives (Revoke file number holder call mode wanted) to =
      let event = Deliver (Revoke file number holder call mode wanted) in
      let t = in_epoch s file number in
      let e = revoked t file number call mode wanted in
      entered_receives event file number e (learned_receives e.state.files event e refl refl)
  delivered_receives (Hello file number holder) to =
      let event = Deliver (Hello file number holder) in
      let t = in_epoch s file number in
      told_either (λ e. Receives past s e.state (said event e)) t file number (λ is. learned_receives t.files event (sent t (Report file number (host t) (runs_of (t.files file).token))) refl refl) (learned_receives t.files event (quiet t) refl refl)
  delivered_receives (Report file number holder runs) to = quiet_receives (Deliver (Report file number holder runs)) (quiet s) refl refl
  delivered_receives (Deny file call holder number lock) to = denied_receives file call holder number lock to (find (λ c. c.number == call.number) s.pending) refl
  delivered_receives (Request file call blocking mode wanted) to = quiet_receives (Deliver (Request file call blocking mode wanted)) (quiet s) refl refl
  delivered_receives (Taken file number call) to = quiet_receives (Deliver (Taken file number call)) (quiet s) refl refl
  delivered_receives (Released file number holder call span) to = quiet_receives (Deliver (Released file number holder call span)) (quiet s) refl refl
  delivered_receives (Conflict file number holder call lock) to = quiet_receives (Deliver (Conflict file number holder call lock)) (quiet s) refl refl
  delivered_receives (Freed file holder) to = quiet_receives (Deliver (Freed file holder)) (quiet s) refl refl

-- a new call
module _ (past : List Entry) (s : NodeState) (node pid : ℕ) (op : Op) (holds : Holds past s) (named : s.node ≡ node) (is_process : IsProcess (process s pid)) (known : (id : CallId) (reply : Reply) (at : ℕ) → IsRepliedAt past id reply at → IsNamed past id) (of_shape : is_in_shape s.shape op ≡ true) (idle : IsIdle s.pending pid op) where
  not_named : IsNamed past (id_of s (s.calls + 1)) → ⊥
  not_named n = let below = holds.numbers (id_of s (s.calls + 1)) n refl refl in absurd (omega arith)

  named_by : (u : NodeState) (c : OpenCall) → u.node ≡ s.node → u.incarnation ≡ s.incarnation → c.number ≡ s.calls + 1 → ◌≡◌ {A = Option CallId} (Some (id_of s (s.calls + 1))) (Some (id_of u c.number))
  named_by u c same_node same_incarnation number = λ i. Some (record { node = sym same_node i; incarnation = sym same_incarnation i; number = sym number i })

  pub call_moves : Moves past s (after_call s pid op).0 (entry (AtNode node (Call pid op)) 0 (after_call s pid op).1)
  call_moves =
      let number = s.calls + 1 in
      let counted = record s { calls = number } in
      let id = id_of s number in
      let e = entry (AtNode node (Call pid op)) 0 (after_call s pid op).1 in
      let u = (called counted number pid op).state in
      let t = called_ends counted number pid op is_process.pid_in of_shape idle holds.own in
      let g : Continues s u = record { node = t.continues.node; incarnation = t.continues.incarnation; own = t.continues.own; goes_on = t.continues.goes_on } in
      let here : Called (past ++ e ∷ []) id pid op = called-last past e id pid op (ap (λ n. AtNode n (Call pid op)) (sym named)) refl not_named in
      let fresh : Unanswered past id = λ reply at r. not_named (known id reply at r) in
      record {
        holds = record {
          own = own_after s u g;
          waiting = elim t.ends [
            | inl a ↦ others_wait past e s u number a.reply g a.is_reply a.closed holds.waiting
            | inr o ↦
                let c = o.call in
                let silent : IsSilent s u e.reply = record { no_reply = o.silent.no_reply; table = o.silent.table } in
                let opens : IsOpen (past ++ e ∷ []) s c = opened past e s number pid op c o.number_is o.pid_is o.ready is_process here (unanswered-push past e id fresh (λ reply h. not_there e.reply (id, reply) o.silent.no_reply h)) in
                All-same (IsOpen (past ++ e ∷ []) u) u.pending (s.pending ++ c ∷ []) o.pending
                (All-push (IsOpen (past ++ e ∷ []) u) s.pending c (all_wait past e s u s.pending g silent holds.waiting) (open-continues (past ++ e ∷ []) s u c g (still_goes_on s u c.pid o.silent.table) opens))
          ];
          numbers = λ other n same_node same_incarnation. elim (named-push past e other n) [
            | inl old ↦ let below = holds.numbers other old (same_node ∙ g.node) (same_incarnation ∙ g.incarnation) in let calls = t.calls in omega arith
            | inr new ↦ let is : number ≡ other.number = ap (λ (x : CallId). x.number) (same_Some id other new) in let calls = t.calls in omega arith
          ];
        };
        node = g.node;
        incarnation = g.incarnation;
        fresh = λ other h.
            let is = same_Some id other h in
            (ap (λ (x : CallId). x.node) (sym is), λ n. not_named (subst (λ (x : CallId). IsNamed past x) (sym is) n));
        of_incarnation = λ other h. ap (λ (x : CallId). x.incarnation) (sym (same_Some id other h));
        stay = elim t.ends [
          | inl a ↦ stay_closed s u e number a.closed
          | inr o ↦ stay_opened s u e o.call o.pending (named_by u o.call g.node g.incarnation o.number_is)
        ];
        ends = elim t.ends [
          | inl a ↦ inl (record { number = number; pid = pid; op = op; reply = a.reply; is_reply = a.is_reply; is_process = is_process; called = here; fresh = fresh; step = a.step; served = a.served }, tt)
          | inr o ↦ inr (inr (record { no_reply = o.silent.no_reply; table = o.silent.table }))
        ];
      }
