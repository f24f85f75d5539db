-- No call is stuck: after two rounds, of which the second answers none, each open call about the file is a wait that a lock blocks.
use Rattle.std.proofs.Common.{◌≡◌, ℕ, ◌+◌, ◌≤◌, Bool, true, inl, inr, sym, ◌∙◌, ap, append_assoc, List, [], ◌∷◌, ◌++◌, Contains}
use Rattle.std.specs.List.{list_any}
use Rattle.model.specs.declared.call.CallId.{CallId}
use Rattle.model.specs.rule.Owners.{host_of_call}
use Rattle.messages.specs.rule.Shapes.{ShapeFields, IsShape}
use Rattle.messages.specs.rule.Messages.{addressee}
use Rattle.messages.specs.declared.actor.Actor.TheVariants.{Server as AServer}
use Rattle.messages.specs.declared.message.Message.{Message}
use Rattle.messages.specs.declared.message.Message.TheVariants.{Request, Grant, Revoke, Taken, Released, Conflict, Deny, Freed, Hello, Report}
use Rattle.messages.specs.declared.event.Event.TheVariants.{Deliver}
use Rattle.messages.specs.declared.entry.Entry.{Entry}
use Rattle.node_core.specs.declared.open_call.OpenCall.{OpenCall}
use Rattle.node_core.specs.rule.State.{id_of}
use Rattle.token_server.specs.declared.token_queue.token_request.TokenRequest.{TokenRequest}
use Rattle.token_server.specs.rule.Requests.{is_of_call}
use Rattle.token_server.specs.rule.Server.{row_of_host}
use Rattle.cluster_core.specs.rule.World.{WorldState, first_world, has_node, is_alive}
use Rattle.cluster_core.specs.rule.Runs.{Leads}
use Rattle.cluster_core.specs.rule.Rounds.{IsRound, AnswersNone, IsBlockedWait, NoCallIsStuck}
use Rattle.cluster_core.specs.rule.Serving.{IsInLine, IsAtRest, EndsRequest}
use Rattle.cluster_core.proofs.rounds.Denied.{denied_blocks}
use Rattle.cluster_core.proofs.rounds.Granted.{granted_blocks}
use Rattle.cluster_core.proofs.rounds.Leaving.{Leaving, leaves}
use Rattle.cluster_core.proofs.rounds.Request.{Line, live, comes_in_line}
use Rattle.cluster_core.proofs.rounds.RoundRests.{round-rests, round_told}
use Rattle.cluster_core.proofs.rounds.Stretches.{leads_both, members_stay}

same_file : (f file : ℕ) → AServer f ≡ AServer file → f ≡ file
same_file f file same = cc

-- a call whose server has no active request and none in its queue is not in line
not_in_line : (id : CallId) (u : WorldState) (file : ℕ) → (u.servers file).active ≡ [] → (u.servers file).queue ≡ [] → IsInLine id (u.servers file) → ⊥
not_in_line id u file active queue (inl h) = let none = ap (λ (rs : List TokenRequest). list_any (is_of_call id) rs) active in absurd (cc)
not_in_line id u file active queue (inr h) = let none = ap (λ (rs : List TokenRequest). list_any (is_of_call id) rs) queue in absurd (cc)

module _ (shape : ShapeFields) (is : IsShape shape) (past fs : List Entry) (w v : WorldState) (file : ℕ) (before : Leads (first_world shape) past w) (works : w.working file ≡ true) (round : IsRound file w fs v) (none : AnswersNone fs) (n : ℕ) (c : OpenCall) (alive : is_alive v n ≡ true) (at : Contains (v.nodes n).pending c) (of_file : c.file ≡ file) (at_rest : IsAtRest (w.servers file)) (told : (j : ℕ) → has_node w j ≡ true → (w.nodes j).incarnation ≤ (w.servers file).dead j + 1) where
  abbrev id : CallId
  id = id_of (v.nodes n) c.number

  -- a call that leaves the line is blocked by a lock
  leaving_blocks : (l : Leaving shape w fs v file id) → IsBlockedWait v c
  leaving_blocks l = by l.ends.message l.ends.event_is l.ends.to l.ends.ends
    where
      by : (m : Message) → l.entry.event ≡ Deliver m → addressee m ≡ AServer file → EndsRequest (l.world.servers file) id m → IsBlockedWait v c
      by (Taken f k own) event_is to ends =
          let file_is = same_file f file to in
          granted_blocks shape is past fs w v file before works round none n c alive at of_file at_rest l k
          (event_is ∙ (λ i. Deliver (Taken (file_is i) k (ends.0 i)))) ends.1
          (ap (λ (i : CallId). row_of_host (l.world.servers file) (host_of_call i)) (sym ends.0) ∙ ends.2) ends.3
      by (Conflict f k holder own lock) event_is to ends =
          let file_is = same_file f file to in
          denied_blocks shape is past fs w v file before works round none n c alive at of_file at_rest told l k holder lock
          (event_is ∙ (λ i. Deliver (Conflict (file_is i) k holder (ends.0 i) lock))) ends.1 ends.2 ends.3 ends.4 ends.5
      by (Request f call blocking mode wanted) event_is to ends = absurd ends
      by (Grant f number call mode span) event_is to ends = absurd ends
      by (Revoke f number holder call mode wanted) event_is to ends = absurd ends
      by (Released f number holder call span) event_is to ends = absurd ends
      by (Deny f call holder number lock) event_is to ends = absurd ends
      by (Freed f holder) event_is to ends = absurd ends
      by (Hello f number holder) event_is to ends = absurd ends
      by (Report f number holder runs) event_is to ends = absurd ends

  -- what leaves the line in the rest of the round leaves it in the round
  in_round : (line : Line shape w fs v file id) → Leaving shape line.world line.after v file id → Leaving shape w fs v file id
  in_round line l = record {
    before = line.before ++ l.before;
    entry = l.entry;
    after = l.after;
    split = line.split ∙ (ap (λ (xs : List Entry). line.before ++ xs) l.split ∙ sym (append_assoc line.before l.before (l.entry ∷ l.after)));
    world = l.world;
    first = leads_both w line.world l.world line.before l.before line.first l.first;
    rest = l.rest;
    ends = l.ends;
  }

  pub stays_blocked : (v.servers file).active ≡ [] → (v.servers file).queue ≡ [] → IsBlockedWait v c
  stays_blocked active queue = elim (comes_in_line shape is past fs w v file before works round none n c alive at of_file) [
    | inl blocked ↦ blocked
    | inr line ↦ elim (leaves shape is v file id (live shape is past fs w v file before works round none n c alive at of_file) line.after line.world line.rest line.in_line) [
      | inl last ↦ absurd (not_in_line id v file active queue last)
      | inr l ↦ leaving_blocks (in_round line l)
    ]
  ]

pub no_call_is_stuck : NoCallIsStuck
no_call_is_stuck shape past es fs w v u file is before works first second none n c alive at of_file =
    let rested = round-rests shape past es w v file is before works first in
    let told = round_told shape past es w v file is before works first in
    let working : v.working file ≡ true = ap (λ (f : ℕ → Bool). f file) (members_stay es w v first.leads first.quiet).working ∙ works in
    let there = leads_both (first_world shape) w v past es before first.leads in
    let last = round-rests shape (past ++ es) fs v u file is there working second in
    stays_blocked shape is (past ++ es) fs v u file there working second none n c alive at of_file rested.0 told last.1 last.2
