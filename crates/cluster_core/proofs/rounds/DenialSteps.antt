-- The steps of a server that denies a call, and of the node that is told.
use Rattle.std.specs.Prelude.{nat_le, not, ◌==◌, ◌&&◌, ◌||◌, find, option_map, if◌then◌else◌}
use Rattle.std.specs.List.{list_any}
use Rattle.std.proofs.Common.{◌≡◌, ℕ, zero, suc, ◌<◌, ◌≤◌, Bool, true, false, inl, inr, refl, ◌∙◌, ap, subst, arith, List, [], ◌∷◌, ◌++◌, drop, length, slice_get, All, is_some, Option, Some, None, Result, Ok, Err}
use Rattle.std.proofs.lemmas.Bool.{both_ways, eq-eqb, leb-true}
use Rattle.std.proofs.lemmas.List.Elements.{All-drop}
use Rattle.model.specs.declared.call.CallId.{CallId}
use Rattle.model.specs.declared.host.Host.{Host}
use Rattle.model.specs.declared.lock_info.LockInfo.{LockInfo}
use Rattle.model.specs.declared.mode.Mode.{Mode}
use Rattle.model.specs.declared.reply.Reply.{Reply}
use Rattle.messages.specs.rule.Messages.{addressee, host_of, is_among, is_within, same_blocking}
use Rattle.messages.specs.declared.actor.Actor.TheVariants.{Node as ANode, Server as AServer}
use Rattle.messages.specs.declared.message.Blocking.TheVariants.{No, Yes}
use Rattle.messages.specs.declared.message.Message.{Message}
use Rattle.messages.specs.declared.message.Message.TheVariants.{Conflict, Deny}
use Rattle.messages.specs.declared.event.Event.TheVariants.{Deliver}
use Rattle.messages.specs.declared.entry.Entry.{Entry}
use Rattle.cluster_core.specs.rule.World.{WorldState}
use Rattle.messages.specs.declared.message.Blocking.{Blocking}
use Rattle.messages.specs.rule.Messages.{sending}
use Rattle.messages.specs.declared.outcome.Outcome.{Outcome}
use Rattle.messages.specs.declared.refusal.StepError.{StepError}
use Rattle.messages.specs.declared.refusal.StepError.TheVariants.{Stranger}
use Rattle.node_core.specs.declared.event.NodeEvent.TheVariants as node
use Rattle.node_core.specs.declared.open_call.OpenCall.{OpenCall}
use Rattle.node_core.specs.rule.State.{NodeState, open_call, outcome, quiet}
use Rattle.node_core.specs.rule.Try.{refusal_of, answered_if}
use Rattle.node_core.specs.rule.Commands.{denied, is_node, delivered as on_node}
use Rattle.node_core.specs.rule.Node.{node_rule}
use Rattle.token_server.specs.declared.token_queue.token_request.TokenRequest.{TokenRequest}
use Rattle.token_server.specs.declared.event.ServerEvent.TheVariants as server
use Rattle.token_server.specs.rule.Rows.{Row, revoked_mode}
use Rattle.token_server.specs.rule.State.{ServerState}
use Rattle.token_server.specs.rule.Serve.{serve}
use Rattle.token_server.specs.rule.Resends.{sending_first}
use Rattle.token_server.specs.rule.Server.{Change, request_of, acknowledged, postponed, denial, in_conflict, row_of_host, is_server, change, then_serve, server_rule}
use Rattle.cluster_core.specs.rule.Next.{delivered, next}
use Rattle.cluster_core.specs.rule.Histories.{EntryAt}
use Rattle.cluster_core.proofs.common.Refusals.{ok_is, if_ours}
use Rattle.cluster_core.proofs.steps.KnownMessages.{sent_before}
use Rattle.cluster_core.proofs.steps.NodeTokens.{first_among}
use Rattle.cluster_core.proofs.steps.Requested.{change_done}
use Rattle.cluster_core.proofs.steps.Steps.{next_taken, node_step}

-- P holds of the last entries of a list of entries
pub all_drop : (P : Entry → Type 0) (xs ys : List Entry) (at : ℕ) → length xs ≤ at → All P ys → All P (drop at (xs ++ ys))
all_drop P [] ys at from all = All-drop P at ys all
all_drop P (x ∷ xs) ys zero from all = absurd (omega arith)
all_drop P (x ∷ xs) ys (suc at) from all = all_drop P xs ys at (omega arith) all

-- an entry among the first ones
pub front : (xs ys : List Entry) (at : ℕ) (e : Entry) → at ≤ length xs → EntryAt (xs ++ ys) at e → EntryAt xs at e
front xs ys at e within there = (there.0, there.1, in_front xs there.0 (let is = there.1 in omega arith) there.2)
  where
    in_front : (zs : List Entry) (k : ℕ) → k < length zs → slice_get (zs ++ ys) k ≡ Some e → slice_get zs k ≡ Some e
    in_front [] k lt is = absurd (omega arith)
    in_front (z ∷ zs) zero lt is = is
    in_front (z ∷ zs) (suc k) lt is = in_front zs k (omega arith) is

-- a list of which one passes has a first that does
pub has_found : (test : TokenRequest → Bool) (rs : List TokenRequest) → list_any test rs ≡ true → (r : TokenRequest) × (find test rs ≡ Some r)
has_found test [] h = absurd (cc)
has_found test (r ∷ rs) h = by (has_found test rs) (test r) refl h
  where
    by : (list_any test rs ≡ true → (q : TokenRequest) × (find test rs ≡ Some q)) → (b : Bool) → test r ≡ b → (b || list_any test rs) ≡ true → (q : TokenRequest) × (find test (r ∷ rs) ≡ Some q)
    by rest true is h = (r, ap (λ (b : Bool). if b then Some r else find test rs) is)
    by rest false is h = let later = rest h in (later.0, ap (λ (b : Bool). if b then Some r else find test rs) is ∙ later.1)

-- a request that doesn't wait
pub no_wait : (u : Blocking) → same_blocking u Yes ≡ false → same_blocking u No ≡ true
no_wait No h = refl
no_wait Yes h = absurd (cc)

-- a message that a server takes is of a node of the shape
pub rule_within : (t : ServerState) (m : Message) (done : ServerState × Outcome) → server_rule t (server.Deliver m) ≡ Ok done → is_within t.shape.nodes (host_of m).node ≡ true
rule_within t m done is = by (change t m) refl is
  where
    by : (r : Result (Option Change) StepError) → change t m ≡ r → then_serve t r ≡ Ok done → is_within t.shape.nodes (host_of m).node ≡ true
    by (Err e) was h = absurd (cc)
    by (Ok o) was h = (change_done t m o was).0

-- a conflict that ends the request of a call that doesn't wait is told to its node
pub denies_call : (t : ServerState) (file k : ℕ) (holder : Host) (call : CallId) (lock : LockInfo) (row : Row) (mode : Mode) (r : TokenRequest) (done : ServerState × Outcome) → row_of_host t holder ≡ Some row → revoked_mode k row.outstanding ≡ Some mode → request_of call t.active ≡ Some r → same_blocking r.blocking No ≡ true → t.dead holder.node < holder.incarnation → server_rule t (server.Deliver (Conflict file k holder call lock)) ≡ Ok done → is_among done.1.sends (Deny t.file call holder k lock) ≡ true
denies_call t file k holder call lock row mode r done there fits found now lives is = by (not (is_server t.file (AServer file) && is_within t.shape.nodes holder.node)) (nat_le holder.incarnation (t.dead holder.node)) refl is
  where
    deny : Message
    deny = Deny t.file call holder k lock

    changed : Change
    changed = (postponed call (acknowledged t holder.node row row.token), denial deny (request_of call t.active))

    made : in_conflict t k holder call lock (row_of_host t holder) ≡ Some changed
    made = ap (in_conflict t k holder call lock) there ∙ ap (λ (o : Option Mode). option_map (λ (m : Mode). changed) o) fits

    first : is_among changed.1 deny ≡ true
    first = ap (λ (o : Option TokenRequest). is_among (denial deny o) deny) found ∙ (ap (λ (b : Bool). is_among (if b then deny ∷ [] else []) deny) now ∙ first_among deny [])

    told : (x : Result (ServerState × List Message) StepError) → sending_first changed.1 x ≡ Ok done → is_among done.1.sends deny ≡ true
    told (Err e) h = absurd (cc)
    told (Ok served) h = subst (λ (d : ServerState × Outcome). is_among d.1.sends deny ≡ true) (ok_is (served.0, sending (changed.1 ++ served.1)) done h) (sent_before changed.1 served.1 deny first)

    by : (stranger dead : Bool) → nat_le holder.incarnation (t.dead holder.node) ≡ dead → then_serve t (if stranger then Err Stranger else (if dead then Ok None else Ok (in_conflict t k holder call lock (row_of_host t holder)))) ≡ Ok done → is_among done.1.sends deny ≡ true
    by true dead known h = absurd (cc)
    by false true known h = absurd (let old = leb-true holder.incarnation (t.dead holder.node) known in omega arith)
    by false false known h = told (serve changed.0) (subst (λ (o : Option Change). then_serve t (Ok o) ≡ Ok done) made h)

-- a denial answers an open call that doesn't wait
pub denial_answers : (u : WorldState) (n : ℕ) (c : OpenCall) (file k : ℕ) (call : CallId) (holder : Host) (lock : LockInfo) (reply : Reply) (q : WorldState × Entry) → call.node ≡ n → call.incarnation ≡ (u.nodes n).incarnation → open_call (u.nodes n) call.number ≡ Some c → refusal_of c.lock_command lock ≡ Some reply → next u (Deliver (Deny file call holder k lock)) ≡ Ok q → is_some q.1.reply ≡ true
denial_answers u n c file k call holder lock reply q at_node incarnation found refuses h =
    let s = u.nodes n in
    let m = Deny file call holder k lock in
    let step : delivered u m (ANode n) ≡ Ok q = subst (λ (j : ℕ). delivered u m (ANode j) ≡ Ok q) at_node (next_taken u (Deliver m) q h).1 in
    let answers : is_some (denied s lock (open_call s call.number)).reply ≡ true = ap (λ (o : Option OpenCall). is_some (denied s lock o).reply) found ∙ ap (λ (o : Option Reply). is_some (answered_if s c.number o).reply) refuses in
    node_step u (λ p. is_some p.1.reply ≡ true) (Deliver m) n (node_rule s (node.Deliver m)) q
    (λ done is.
    let ours = if_ours (is_node s.node (addressee m)) (is_within s.shape.files file) (call.incarnation == s.incarnation) (outcome None (on_node s m)) (outcome None (quiet s)) done Stranger is in
    elim ours.2 [
      | inl took ↦ subst (λ (d : NodeState × Outcome). is_some d.1.reply ≡ true) took.1 answers
      | inr passed ↦ absurd (both_ways (call.incarnation == s.incarnation) passed.0 (eq-eqb call.incarnation s.incarnation incarnation))
    ]) step
