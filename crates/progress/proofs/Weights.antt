-- How much the messages of a node's step weigh: less than what led to it, but for a Freed, which it sends with an answer alone.
use Rattle.std.specs.Prelude.{if◌then◌else◌, filter, map, is_some}
use Rattle.std.proofs.Common.{◌≡◌, ℕ, ◌+◌, ◌*◌, ◌≤◌, Bool, true, false, ◌⊎◌, inl, inr, refl, sym, ◌∙◌, ap, arith, List, [], ◌∷◌, ◌++◌, Option, Some, None}
use Rattle.std.proofs.lemmas.Option.{none-some}
use Rattle.intervals.specs.rule.Bytes.{Range}
use Rattle.model.specs.declared.call.CallId.{CallId}
use Rattle.model.specs.declared.lock_info.LockInfo.{LockInfo}
use Rattle.model.specs.declared.mode.Mode.{Mode}
use Rattle.model.specs.declared.op.LockCommand.{LockCommand}
use Rattle.model.specs.declared.op.LockCommand.TheVariants as lock_command
use Rattle.model.specs.declared.reply.Reply.{Reply}
use Rattle.model.specs.rule.Locks.{lowest_blocker}
use Rattle.model.specs.rule.Table.{Table, LockTarget, lock_within}
use Rattle.token_set.specs.rule.Tokens.{covers, raised, gave_up}
use Rattle.token_set.specs.declared.gave_up.GaveUp.{GaveUp}
use Rattle.token_set.specs.declared.gave_up.GaveUp.TheVariants as gave
use Rattle.messages.specs.rule.TokenRuns.{Wants}
use Rattle.messages.specs.declared.message.Message.{Message}
use Rattle.messages.specs.declared.message.Message.TheVariants.{Request, Grant, Revoke, Taken, Released, Conflict, Deny, Freed, Hello, Report}
use Rattle.messages.specs.declared.event.Event.{Event}
use Rattle.messages.specs.declared.event.Event.TheVariants.{AtNode, AtServer, Deliver, Member}
use Rattle.messages.specs.declared.event.ServerInput.TheVariants.{Resend, Learn}
use Rattle.node_core.specs.declared.open_call.OpenCall.{OpenCall}
use Rattle.node_core.specs.rule.State.{NodeState, Effect, with_file, host, open_call, target_of}
use Rattle.node_core.specs.rule.Try.{settled, may_free, with_freed, locked_by, refusal_of, answered_if, answered_here, requested, tried_against, tried, tried_if}
use Rattle.node_core.specs.rule.Commands.{in_epoch, in_order, remembered, after_command, answer_to, granted, revoked, denied, delivered}
use Rattle.cluster_core.specs.rule.Rests.{IsBlockedHere}
use Rattle.cluster_core.specs.rule.World.{WorldState}
use Rattle.cluster_core.proofs.common.Choices.{if_either}
use Rattle.cluster_core.proofs.rounds.NodeTries.{grant-answers}
use Rattle.cluster_core.proofs.steps.NodeSteps.{in_order_either, told_either}
use Rattle.cluster_core.proofs.steps.Sends.{Remembers, entered-remembers}
use Rattle.progress.specs.rule.Agenda.{is_due, deliveries}
use Rattle.progress.proofs.Costs.{most_of}
use Rattle.progress.proofs.Sums.{one_if}

-- the sum of what f gives of each element
abbrev pub total : {A : Type 0} → (A → ℕ) → List A → ℕ
total f [] = 0
total f (x ∷ xs) = f x + total f xs

pub total_both : {A : Type 0} (f : A → ℕ) (xs ys : List A) → total f (xs ++ ys) ≡ total f xs + total f ys
total_both f [] ys = omega arith
total_both f (x ∷ xs) ys = let rest = total_both f xs ys in omega arith

-- the weight of a message in a cluster of so many nodes: of a Request three for each command that its call can cost; of a command more than of its answer; of a denial the least
abbrev pub weight_of : ℕ → Message → ℕ
weight_of nodes (Request file call blocking mode wanted) = 3 * most_of nodes + 2
weight_of nodes (Grant file number call mode span) = 3
weight_of nodes (Revoke file number holder call mode wanted) = 3
weight_of nodes (Hello file number holder) = 3
weight_of nodes (Deny file call holder number lock) = 1
weight_of nodes _ = 2

-- the weight of an event of a round
abbrev pub event_weight : ℕ → Event → ℕ
event_weight nodes (Deliver m) = weight_of nodes m
event_weight nodes (AtServer file Resend) = 3 * nodes + 1
event_weight nodes (AtServer file (Learn n incarnation)) = 1
event_weight nodes (AtNode n input) = 3 * most_of nodes + 3
event_weight nodes (Member event) = 0

-- 1 for a Freed, which has those that wait queued again
abbrev pub freed_by : Message → ℕ
freed_by (Freed file holder) = 1
freed_by _ = 0

-- 1 for an event that has those that wait queued again
abbrev pub wakes : Event → ℕ
wakes (Deliver m) = freed_by m
wakes (AtServer file input) = 1
wakes _ = 0

-- three for each command that a request costs at most, for a Request
abbrev pub asked_by : ℕ → Message → ℕ
asked_by nodes (Request file call blocking mode wanted) = 3 * most_of nodes
asked_by nodes _ = 0

-- and for an event that brings a request or may lead to one
abbrev pub asks : ℕ → Event → ℕ
asks nodes (Deliver m) = asked_by nodes m
asks nodes (AtNode n input) = 3 * most_of nodes
asks nodes _ = 0

-- deliveries come to no more than the messages
pub deliveries_total : (f : Event → ℕ) (g : Message → ℕ) → ((m : Message) → f (Deliver m) ≤ g m) → (file : ℕ) (w : WorldState) (ms : List Message) → total f (deliveries file w ms) ≤ total g ms
deliveries_total f g each file w [] = omega arith
deliveries_total f g each file w (m ∷ ms) = by (is_due file w m) (deliveries_total f g each file w ms)
  where
    by : (b : Bool) → total f (deliveries file w ms) ≤ total g ms → total f (map Deliver (if b then m ∷ filter (is_due file w) ms else filter (is_due file w) ms)) ≤ g m + total g ms
    by true rest = let one = each m in omega arith
    by false rest = omega arith

module _ (nodes : ℕ) where
  -- the messages of the effect weigh at most so much without Freeds, and ask for so much; with an answer at most one of them is a Freed, without one none
  pub record Sends (most asked : ℕ) (e : Effect) : Type 0 where
    pub weighs : total (weight_of nodes) e.sends ≤ most + 2 * total freed_by e.sends
    pub asking : total (asked_by nodes) e.sends ≤ asked
    pub frees : total freed_by e.sends ≤ one_if (is_some e.reply)

  wider : (a b x y : ℕ) (e : Effect) → a ≤ b → x ≤ y → Sends a x e → Sends b y e
  wider a b x y e more further s = record { weighs = (let w = s.weighs in omega arith); asking = (let q = s.asking in omega arith); frees = s.frees }

  locked_sends : (s : NodeState) (number : ℕ) (about : LockTarget) (mode : Option Mode) → Sends 0 0 (locked_by s number about mode)
  locked_sends s number about mode =
      if_either (Sends 0 0) (may_free mode answer.1) (with_freed about.file e) e (if_either (Sends 0 0) (e.state.files about.file).owes_freed tell e one none) none
    where
      answer : Table × Reply
      answer = lock_within s.table about mode

      e : Effect
      e = settled s number answer

      tell : Effect
      tell = record { state = with_file e.state about.file (record (e.state.files about.file) { owes_freed = false }); reply = e.reply; sends = e.sends ++ Freed about.file (host e.state) ∷ [] }

      one : Sends 0 0 tell
      one = record { weighs = omega arith; asking = omega arith; frees = omega arith }

      none : Sends 0 0 e
      none = record { weighs = omega arith; asking = omega arith; frees = omega arith }

  here_sends : (s : NodeState) (c : OpenCall) (i : LockCommand) → Sends 0 0 (answered_here s c i)
  here_sends s c lock_command.Set = locked_sends s c.number (target_of c) (Some c.mode)
  here_sends s c lock_command.Wait = locked_sends s c.number (target_of c) (Some c.mode)
  here_sends s c lock_command.Query = record { weighs = omega arith; asking = omega arith; frees = omega arith }

  nothing : (e : Effect) → e.sends ≡ [] → Sends 0 0 e
  nothing e is =
      let w : total (weight_of nodes) e.sends ≡ 0 = ap (total (weight_of nodes)) is in
      let q : total (asked_by nodes) e.sends ≡ 0 = ap (total (asked_by nodes)) is in
      let f : total freed_by e.sends ≡ 0 = ap (total freed_by) is in
      record { weighs = omega arith; asking = omega arith; frees = omega arith }

  answered_if_sends : (s : NodeState) (number : ℕ) (o : Option Reply) → Sends 0 0 (answered_if s number o)
  answered_if_sends s number None = nothing (answered_if s number None) refl
  answered_if_sends s number (Some reply) = nothing (answered_if s number (Some reply)) refl

  -- a call that is tried asks its server at most once
  pub tried_sends : (s : NodeState) (o : Option OpenCall) → Sends (3 * most_of nodes + 2) (3 * most_of nodes) (tried_if s o)
  tried_sends s None = wider 0 (3 * most_of nodes + 2) 0 (3 * most_of nodes) (tried_if s None) (omega arith) (omega arith) (nothing (tried_if s None) refl)
  tried_sends s (Some c) = by (lowest_blocker (s.table.locks c.file) c.owner c.span c.mode)
    where
      by : (o : Option LockInfo) → Sends (3 * most_of nodes + 2) (3 * most_of nodes) (tried_against s c o)
      by (Some lock) = wider 0 (3 * most_of nodes + 2) 0 (3 * most_of nodes) (tried_against s c (Some lock)) (omega arith) (omega arith) (answered_if_sends s c.number (refusal_of c.lock_command lock))
      by None = if_either (Sends (3 * most_of nodes + 2) (3 * most_of nodes)) (covers (s.files c.file).token c.span c.mode) (answered_here s c c.lock_command) (requested s c)
          (wider 0 (3 * most_of nodes + 2) 0 (3 * most_of nodes) (answered_here s c c.lock_command) (omega arith) (omega arith) (here_sends s c c.lock_command))
          (record { weighs = omega arith; asking = omega arith; frees = omega arith })

  -- one that is answered, or that a lock of its node blocks, asks no server
  settled_sends : (s : NodeState) (c : OpenCall) → (is_some (tried s c).reply ≡ true) ⊎ IsBlockedHere s c → Sends 0 0 (tried s c)
  settled_sends s c = by (lowest_blocker (s.table.locks c.file) c.owner c.span c.mode) refl
    where
      unblocked : lowest_blocker (s.table.locks c.file) c.owner c.span c.mode ≡ None → (b : Bool) → (is_some (if b then answered_here s c c.lock_command else requested s c).reply ≡ true) ⊎ IsBlockedHere s c → Sends 0 0 (if b then answered_here s c c.lock_command else requested s c)
      unblocked none true is = here_sends s c c.lock_command
      unblocked none false (inl answered) = absurd (let no : false ≡ true = answered in cc)
      unblocked none false (inr blocked) = absurd (none-some blocked.lock (sym none ∙ blocked.there))

      by : (o : Option LockInfo) → lowest_blocker (s.table.locks c.file) c.owner c.span c.mode ≡ o → (is_some (tried_against s c o).reply ≡ true) ⊎ IsBlockedHere s c → Sends 0 0 (tried_against s c o)
      by (Some lock) is settled = answered_if_sends s c.number (refusal_of c.lock_command lock)
      by None is settled = unblocked is (covers (s.files c.file).token c.span c.mode) settled

  -- the Grant is of what the open call of its number asks for
  abbrev pub Serves : NodeState → Message → Type 0
  Serves s (Grant file number call mode span) = (c : OpenCall) → open_call s call.number ≡ Some c → (c.file ≡ file) × (c.mode ≡ mode) × (span.lo ≤ c.span.lo) × (c.span.hi ≤ span.hi)
  Serves s _ = Unit {0}

  granted_sends : (s : NodeState) (file number : ℕ) (call : CallId) (mode : Mode) (span : Range) → Serves s (Grant file number call mode span) → Sends 2 0 (granted s file number call mode span)
  granted_sends s file number call mode span serves = by (open_call next call.number) refl
    where
      next : NodeState
      next = after_command s file (raised (s.files file).token span mode) number (Taken file number call) (s.files file).owes_freed

      with_taken : (e : Effect) → Sends 0 0 e → Sends 2 0 (record { state = e.state; reply = e.reply; sends = Taken file number call ∷ e.sends })
      with_taken e one = record { weighs = (let w = one.weighs in omega arith); asking = (let a = one.asking in omega arith); frees = (let f = one.frees in omega arith) }

      by : (o : Option OpenCall) → open_call next call.number ≡ o → Sends 2 0 (record { state = (tried_if next o).state; reply = (tried_if next o).reply; sends = Taken file number call ∷ (tried_if next o).sends })
      by None found = with_taken (tried_if next None) (nothing (tried_if next None) refl)
      by (Some c) found =
          let fits = serves c found in
          let settled : (is_some (tried next c).reply ≡ true) ⊎ IsBlockedHere next c = elim (grant-answers s file number call mode span c found fits.0 fits.1 fits.2 fits.3) [
            | inl answered ↦ inl (ap (λ (o : Option OpenCall). is_some (tried_if next o).reply) (sym found) ∙ answered)
            | inr blocked ↦ inr (record { waits = blocked.waits; lock = blocked.lock; there = blocked.there })
          ] in
          with_taken (tried next c) (settled_sends next c settled)

  -- an answer that is remembered is neither a Request nor a Freed, and weighs as an answer does
  abbrev pub IsLight : Message → Type 0
  IsLight m = (weight_of nodes m ≤ 2) × (asked_by nodes m ≤ 0) × (freed_by m ≤ 0)

  ordered_sends : (s : NodeState) (file number : ℕ) (e : Effect) → Remembers IsLight s → Sends 2 0 e → Sends 2 0 (in_order s file number e)
  ordered_sends s file number e old light = in_order_either (Sends 2 0) s file number e (λ next. light) (again (s.files file).answer refl) (record { weighs = omega arith; asking = omega arith; frees = omega arith })
    where
      again : (o : Option Message) → (s.files file).answer ≡ o → Sends 2 0 (remembered s o)
      again None is = record { weighs = omega arith; asking = omega arith; frees = omega arith }
      again (Some m) is =
          let own = old file m is in
          let a = own.0 in
          let b = own.1 in
          let c = own.2 in
          record { weighs = omega arith; asking = omega arith; frees = omega arith }

  revoked_sends : (s : NodeState) (file number : ℕ) (call : CallId) (mode : Mode) (wanted : Wants) → Sends 2 0 (revoked s file number call mode wanted)
  revoked_sends s file number call mode wanted = by (gave_up (s.table.locks file) s.node s.incarnation mode wanted.required wanted.desired)
    where
      one : (g : GaveUp) → (total (weight_of nodes) (answer_to file number (host s) call g ∷ []) ≤ 2) × (total (asked_by nodes) (answer_to file number (host s) call g ∷ []) ≤ 0) × (total freed_by (answer_to file number (host s) call g ∷ []) ≤ 0)
      one (gave.Released span) = (omega arith, omega arith, omega arith)
      one (gave.Conflict lock) = (omega arith, omega arith, omega arith)

      by : (g : GaveUp) → Sends 2 0 (revoked s file number call mode wanted)
      by g = let all = one (gave_up (s.table.locks file) s.node s.incarnation mode wanted.required wanted.desired) in let a = all.0 in record { weighs = omega arith; asking = all.1; frees = all.2 }

  -- the messages of a node's step weigh less than the message that led to it, without Freeds, and none is a Request
  pub record Falling (m : Message) (e : Effect) : Type 0 where
    pub weighs : total (weight_of nodes) e.sends + 1 ≤ weight_of nodes m + 2 * total freed_by e.sends
    pub asking : total (asked_by nodes) e.sends ≤ 0
    pub frees : total freed_by e.sends ≤ one_if (is_some e.reply)

  pub quiet_falls : (m : Message) (e : Effect) → e.sends ≡ [] → Falling m e
  quiet_falls m e is =
      let none = nothing e is in
      let w = none.weighs in
      let least = by m in
      record { weighs = omega arith; asking = none.asking; frees = none.frees }
    where
      by : (x : Message) → 1 ≤ weight_of nodes x
      by (Request file call blocking mode wanted) = omega arith
      by (Grant file number call mode span) = omega arith
      by (Revoke file number holder call mode wanted) = omega arith
      by (Taken file number call) = omega arith
      by (Released file number holder call span) = omega arith
      by (Conflict file number holder call lock) = omega arith
      by (Deny file call holder number lock) = omega arith
      by (Freed file holder) = omega arith
      by (Hello file number holder) = omega arith
      by (Report file number holder runs) = omega arith

  pub delivered_falls : (s : NodeState) (m : Message) → Remembers IsLight s → Serves s m → Falling m (delivered s m)
  delivered_falls s (Grant file number call mode span) old serves =
      let t = in_epoch s file number in
      let all = ordered_sends t file number (granted t file number call mode span) (entered-remembers IsLight s file number old) (granted_sends t file number call mode span serves) in
      record { weighs = (let w = all.weighs in omega arith); asking = all.asking; frees = all.frees }
  delivered_falls s (Revoke file number holder call mode wanted) old serves =
      let t = in_epoch s file number in
      let all = ordered_sends t file number (revoked t file number call mode wanted) (entered-remembers IsLight s file number old) (revoked_sends t file number call mode wanted) in
      record { weighs = (let w = all.weighs in omega arith); asking = all.asking; frees = all.frees }
  delivered_falls s (Hello file number holder) old serves = told_either (Falling (Hello file number holder)) (in_epoch s file number) file number (λ is. record { weighs = omega arith; asking = omega arith; frees = omega arith }) (quiet_falls (Hello file number holder) _ refl)
  delivered_falls s (Deny file call holder number lock) old serves = by (open_call s call.number)
    where
      by : (o : Option OpenCall) → Falling (Deny file call holder number lock) (denied s lock o)
      by None = quiet_falls (Deny file call holder number lock) (denied s lock None) refl
      by (Some c) = let none = answered_if_sends s c.number (refusal_of c.lock_command lock) in record { weighs = (let w = none.weighs in omega arith); asking = none.asking; frees = none.frees }
  delivered_falls s (Request file call blocking mode wanted) old serves = quiet_falls (Request file call blocking mode wanted) _ refl
  delivered_falls s (Taken file number call) old serves = quiet_falls (Taken file number call) _ refl
  delivered_falls s (Released file number holder call span) old serves = quiet_falls (Released file number holder call span) _ refl
  delivered_falls s (Conflict file number holder call lock) old serves = quiet_falls (Conflict file number holder call lock) _ refl
  delivered_falls s (Freed file holder) old serves = quiet_falls (Freed file holder) _ refl
  delivered_falls s (Report file number holder runs) old serves = quiet_falls (Report file number holder runs) _ refl
