-- What holds of a server between two steps holds after a planned step.
use Rattle.std.specs.Prelude.{◌≡◌, ◌≢◌, ℕ, ◌+◌, ◌<◌, ◌≤◌, Bool, true, false, not, cond, ◌&&◌, ◌||◌, nat_le, List, [], ◌∷◌, ◌++◌, All, filter, find, length, Option, Some, None, Result, Ok, Err, Vec}
use Rattle.std.specs.Global.{Global, Box}
use Rattle.std.proofs.Common.{refl, sym, ap, subst, ◌∙◌, inl, inr, arith, append-nil, append_assoc}
use Rattle.std.proofs.lemmas.Bool.{both_ways, leb-true, and_from, and_parts}
use Rattle.std.proofs.lemmas.Bool.Decides.{eqb_tells}
use Rattle.std.proofs.lemmas.List.Elements.{All-head, All-tail, All-filter}
use Rattle.intervals.specs.rule.Search.{some_passes}
use Rattle.model.specs.declared.call.CallId.{CallId}
use Rattle.messages.specs.declared.message.Message.{Message}
use Rattle.messages.specs.declared.refusal.StepError.{StepError}
use Rattle.messages.specs.declared.refusal.StepError.TheVariants.{NoMemory, Busy, Stranger, Spent}
use Rattle.messages.specs.declared.outcome.Outcome.{Outcome}
use Rattle.messages.specs.rule.Messages.{sending}
use Rattle.token_server.specs.declared.token_queue.token_request.TokenRequest.{TokenRequest}
use Rattle.token_server.specs.declared.token_queue.active_request.ActiveRequest.{ActiveRequest}
use Rattle.token_server.specs.rule.Requests.{LineParts, is_of_call, is_up_to, AreOfDistinctCalls}
use Rattle.token_server.specs.rule.Actives.{ActiveParts, requests_of}
use Rattle.token_server.proofs.CallLaws.{same_call-refl}
use Rattle.token_server.specs.declared.known_nodes.known_node.KnownNode.{KnownNode}
use Rattle.token_server.specs.declared.change.ServerEdit.{ServerEdit}
use Rattle.token_server.specs.declared.sketch.Sketch.{Sketch}
use Rattle.token_server.specs.declared.sketch.Moved.{Moved}
use Rattle.token_server.specs.declared.sketch.Moved.TheVariants.{Nothing, New, Again, Waiting, PutOff}
use Rattle.token_server.specs.declared.sent_command.SentCommand.{SentCommand}
use Rattle.token_server.specs.rule.Rows.{Row, is_awaited}
use Rattle.token_server.specs.rule.State.{ServerState, awaits}
use Rattle.token_server.specs.rule.Serve.{meets_some, admitted, served, with_more, and_then, each_served, ready, serve}
use Rattle.token_server.specs.rule.Resends.{sending_first}
use Rattle.token_server.specs.code.Edits.{with_told, AreDistinct, IsOrderly, IsReady, IsServer, dropped, without, still_active, queue_moved, waiting_moved, sketched, held_still, held_without, held_after, queue_after, waiting_after, IsDrafted, drafted, many_moved, HasRoom, HeldHasRoom, IsNewCall, PartsFit, Fits, made}
use Rattle.token_server.specs.rule.Obstacles.{obstacle, are_apart, is_idle, all_stay}
use Rattle.token_server.specs.code.Admissions.{all_but}
use Rattle.token_server.specs.rule.RowParts.{rows_of, deaths_of}
use Rattle.token_server.specs.rule.Parts.{ServerParts, server_state}
use Rattle.token_server.specs.code.Rows.{deaths_overlaid, given_of, given_rows}
use Rattle.token_server.proofs.AdmittingLaws.{ready-is, all_but-none, calls, calls-append, calls-cons, apart-fewer, admitted-keeps_apart, admitted-leaves, Stay}
use Rattle.token_server.proofs.AskedLaws.{none-after, served-awaits, served-counted}
use Rattle.token_server.proofs.TurnLaws.{held_after-requests}
use Rattle.token_server.proofs.ObstacleLaws.{served-silent}
use Rattle.token_server.proofs.OrderlyLaws.{Living, calls-kinds, calls-one, orderly-ready}

-- where no request is of a dead incarnation, dropping those drops none
living-stays : (dead : ℕ → ℕ) (node incarnation : ℕ) (rs : List TokenRequest) → incarnation ≤ dead node → All (Living dead) rs → rs ≡ filter (λ r. not (is_up_to node incarnation r)) rs
living-stays dead node incarnation [] known all = refl
living-stays dead node incarnation (r ∷ rs) known all =
    by (is_up_to node incarnation r) refl (living-stays dead node incarnation rs known (All-tail (Living dead) r rs all))
  where
    rest : List TokenRequest
    rest = filter (λ q. not (is_up_to node incarnation q)) rs

    young : is_up_to node incarnation r ≡ true → ⊥
    young old = elim (eqb_tells r.call.node node) [
      | inl own ↦
          let below : nat_le r.call.incarnation incarnation ≡ true = sym (ap (λ (b : Bool). b && nat_le r.call.incarnation incarnation) own.0) ∙ old in
          let le : r.call.incarnation ≤ incarnation = leb-true r.call.incarnation incarnation below in
          let living : dead node < r.call.incarnation = subst (λ (n : ℕ). dead n < r.call.incarnation) own.1 (All-head (Living dead) r rs all) in
          omega arith
      | inr other ↦ both_ways false refl (sym (ap (λ (b : Bool). b && nat_le r.call.incarnation incarnation) other.0) ∙ old)
    ]

    by : (b : Bool) → is_up_to node incarnation r ≡ b → rs ≡ rest → r ∷ rs ≡ cond (not b) (r ∷ rest) rest
    by true is same = absurd (young is)
    by false is same = ap (λ (xs : List TokenRequest). r ∷ xs) same

pub living-without : (dead : ℕ → ℕ) (node incarnation : ℕ) (o : Option (ℕ × ℕ)) (rs : List TokenRequest) → o ≡ Some (node, incarnation) → incarnation ≤ dead node → All (Living dead) rs → rs ≡ without o rs
living-without dead node incarnation o rs is known all =
    living-stays dead node incarnation rs known all ∙ ap (λ (x : Option (ℕ × ℕ)). without x rs) (sym is)

filter-fewer : (p : TokenRequest → Bool) (rs : List TokenRequest) → length (filter p rs) ≤ length rs
filter-fewer p [] = omega arith
filter-fewer p (r ∷ rs) = by (p r) (filter-fewer p rs)
  where
    by : (b : Bool) → length (filter p rs) ≤ length rs → length (cond b (r ∷ filter p rs) (filter p rs)) ≤ length (r ∷ rs)
    by true less = omega arith
    by false less = omega arith

without-fewer : (d : Option (ℕ × ℕ)) (rs : List TokenRequest) → length (without d rs) ≤ length rs
without-fewer None rs = omega arith
without-fewer (Some d) rs = filter-fewer (λ r. not (is_up_to d.0 d.1 r)) rs

-- no more requests move where some are dropped first
pub many-fewer : (m : Moved) (d : Option (ℕ × ℕ)) (rs : List TokenRequest) → many_moved m (without d rs) ≤ many_moved m rs
many-fewer Nothing d rs = omega arith
many-fewer (New r) d rs = omega arith
many-fewer (Again call r) d rs = omega arith
many-fewer Waiting d rs = without-fewer d rs
many-fewer (PutOff r) d rs = omega arith

-- where there is room for some, there is room for fewer
pub room-fewer : (l : LineParts) (spare : Option (Box LineParts)) (more less : ℕ) → less ≤ more → HasRoom l spare more → HasRoom l spare less
room-fewer l None more less fewer room = omega arith
room-fewer l (Some spare) more less fewer room = (room.0, omega (arith, room.1))

pub room-none : (l : LineParts) (spare : Option (Box LineParts)) (more : ℕ) → HasRoom l spare more → HasRoom l spare 0
room-none l spare more room = room-fewer l spare more 0 (omega arith) room

pub held_room-none : (a : ActiveParts) (spare : Option (Vec ActiveRequest Global)) (more : ℕ) → HeldHasRoom a spare more → HeldHasRoom a spare 0
held_room-none a None more room = omega arith
held_room-none a (Some spare) more room = (room.0, omega (arith, room.1))

-- the parts of a change that fits a server fit the server's parts
pub parts-fit : (p q : ServerParts) (e : Box ServerEdit) (v : ServerEdit) → p ≡ q → v ≡ e.value → Fits q e → PartsFit p v
parts-fit p q e v at is fits = subst (PartsFit p) (sym is) (subst (λ (x : ServerParts). Fits x e) (sym at) fits)

-- P holds of each entry, then of each that stays active
pub kept-all : (P : ActiveRequest → Type 0) (e : Option CallId) (d : Option (ℕ × ℕ)) (held : List ActiveRequest) → All P held → All P (held_still e (held_without d held))
kept-all P e d held all = still e (held_without d held) (drop d)
  where
    drop : (d : Option (ℕ × ℕ)) → All P (held_without d held)
    drop None = all
    drop (Some d) = All-filter (λ h. not (is_up_to d.0 d.1 h.request)) P held all

    still : (e : Option CallId) (hs : List ActiveRequest) → All P hs → All P (held_still e hs)
    still None hs h = h
    still (Some call) hs h = All-filter (λ h. not (is_of_call call h.request)) P hs h

-- no two of the requests that stay active need a byte in common
still-apart : (e : Option CallId) (d : Option (ℕ × ℕ)) (rs : List TokenRequest) → are_apart rs ≡ true → are_apart (still_active e (without d rs)) ≡ true
still-apart e d rs apart = still e (without d rs) (drop d)
  where
    drop : (d : Option (ℕ × ℕ)) → are_apart (without d rs) ≡ true
    drop None = apart
    drop (Some d) = apart-fewer (λ r. not (is_up_to d.0 d.1 r)) rs apart

    still : (e : Option CallId) (xs : List TokenRequest) → are_apart xs ≡ true → are_apart (still_active e xs) ≡ true
    still None xs h = h
    still (Some call) xs h = apart-fewer (λ r. not (is_of_call call r)) xs h

pub stay-all : (active before queue : List TokenRequest) → Stay active before queue → all_stay active before queue ≡ true
stay-all active before [] all = refl
stay-all active before (r ∷ rest) all = and_from (meets_some r active || meets_some r before) (all_stay active (before ++ r ∷ []) rest) all.0 (stay-all active (before ++ r ∷ []) rest all.1)

-- where no request is active, none is after some go
none-left : (e : Option CallId) (d : Option (ℕ × ℕ)) → still_active e (without d []) ≡ []
none-left None None = refl
none-left None (Some d) = refl
none-left (Some call) None = refl
none-left (Some call) (Some d) = refl

abbrev Answer : Type 0
Answer = Result (ServerState × List Message) StepError

-- a step that makes the sketched changes
module _ (p : ServerParts) (k : Sketch) (d : ServerEdit) (so : IsDrafted p k d) where
  active-is : requests_of (held_after d p.active.held) ≡ (sketched p k).active ++ requests_of d.fresh.items
  active-is = held_after-requests d p.active.held ∙ ap (λ (xs : List TokenRequest). xs ++ requests_of d.fresh.items) so.listed.served

  queue-is : queue_after d p.queue.requests p.waiting.requests ≡ all_but (requests_of d.fresh.items) (sketched p k).queue
  queue-is = ap (all_but (requests_of d.fresh.items)) so.listed.queued

  -- while a node has not reported its token, no request is active
  rests : awaits (sketched p k) ≡ true → (sketched p k).active ≡ []
  rests awaited = by (awaits (server_state p)) refl
    where
      by : (b : Bool) → awaits (server_state p) ≡ b → (sketched p k).active ≡ []
      by true is = ap (λ (rs : List TokenRequest). still_active k.ended (without (dropped k.changed) rs)) (so.before.resting is) ∙ none-left k.ended (dropped k.changed)
      by false is = absurd (both_ways (awaits (sketched p k)) (none-after k.changed (rows_of p.known_nodes) p.shape.nodes is) awaited)

  -- the drafted state is the sketched one while a node has not reported its token
  drafted-awaiting : awaits (sketched p k) ≡ true → drafted p d ≡ sketched p k
  drafted-awaiting awaited =
      let none : d.fresh.items ≡ [] = so.listed.rests awaited in
      let active : requests_of (held_after d p.active.held) ≡ (sketched p k).active = active-is ∙ ap (λ (hs : List ActiveRequest). (sketched p k).active ++ requests_of hs) none ∙ append-nil (sketched p k).active in
      let queue : queue_after d p.queue.requests p.waiting.requests ≡ (sketched p k).queue = queue-is ∙ ap (λ (hs : List ActiveRequest). all_but (requests_of hs) (sketched p k).queue) none ∙ all_but-none (sketched p k).queue in
      λ i. record { shape = p.shape; file = p.file; epoch = p.epoch; rows = so.rows i; dead = so.deaths i; queue = queue i; active = active i; waiting = so.listed.put_off i }

  drafted-ready : awaits (sketched p k) ≡ false → drafted p d ≡ ready (sketched p k)
  drafted-ready told =
      (λ i. record { shape = p.shape; file = p.file; epoch = p.epoch; rows = so.rows i; dead = so.deaths i; queue = queue-is i; active = active-is i; waiting = so.listed.put_off i })
      ∙ sym (ready-is (sketched p k) ((sketched p k).active ++ requests_of d.fresh.items) (all_but (requests_of d.fresh.items) (sketched p k).queue) (so.listed.comes told).comes)

  -- serving the sketched state is serving each active request of the drafted one
  pub drafted-serves : serve (sketched p k) ≡ each_served (drafted p d).active (drafted p d)
  drafted-serves = by (awaits (sketched p k)) refl
    where
      s : ServerState
      s = sketched p k

      whole : (b : Bool) → awaits s ≡ b → serve s ≡ cond b (Ok (s, [])) (each_served (ready s).active (ready s))
      whole b is = ap (λ (t : Bool). let x : Answer = cond t (Ok (s, [])) (each_served (ready s).active (ready s)) in x) is

      by : (b : Bool) → awaits s ≡ b → serve s ≡ each_served (drafted p d).active (drafted p d)
      by true is = whole true is ∙ sym (ap (λ (t : ServerState). each_served t.active t) (drafted-awaiting is) ∙ ap (λ (rs : List TokenRequest). each_served rs s) (rests is))
      by false is = whole false is ∙ sym (ap (λ (t : ServerState). each_served t.active t) (drafted-ready is))

  pub drafted-orderly : IsOrderly (drafted p d)
  drafted-orderly = by (awaits (sketched p k)) refl
    where
      by : (b : Bool) → awaits (sketched p k) ≡ b → IsOrderly (drafted p d)
      by true is = subst IsOrderly (sym (drafted-awaiting is)) so.orderly
      by false is = subst IsOrderly (sym (drafted-ready is)) (orderly-ready (sketched p k) so.orderly)

  drafted-awaits : awaits (drafted p d) ≡ awaits (sketched p k)
  drafted-awaits = ap (λ (f : ℕ → Option Row). some_passes (λ n. is_awaited (f n)) 1 p.shape.nodes) so.rows

  drafted-rests : awaits (sketched p k) ≡ true → (drafted p d).active ≡ []
  drafted-rests is = ap (λ (t : ServerState). t.active) (drafted-awaiting is) ∙ rests is

  pub drafted-apart : are_apart (drafted p d).active ≡ true
  drafted-apart = by (awaits (sketched p k)) refl
    where
      by : (b : Bool) → awaits (sketched p k) ≡ b → are_apart (drafted p d).active ≡ true
      by true is = ap are_apart (drafted-rests is)
      by false is =
          ap are_apart active-is
          ∙ admitted-keeps_apart (sketched p k).active (sketched p k).queue (requests_of d.fresh.items) (so.listed.comes is) (still-apart k.ended (dropped k.changed) (requests_of p.active.held) so.before.apart)

  drafted-settled : awaits (sketched p k) ≡ false → all_stay (drafted p d).active [] (drafted p d).queue ≡ true
  drafted-settled is =
      (λ i. all_stay (active-is i) [] (queue-is i))
      ∙ stay-all ((sketched p k).active ++ requests_of d.fresh.items) [] (all_but (requests_of d.fresh.items) (sketched p k).queue) (admitted-leaves (sketched p k).active (sketched p k).queue (requests_of d.fresh.items) (so.listed.comes is))

  -- after the commands the server holds all that it has to between two steps
  module _ (ts : List SentCommand) (out : List Message) (comes : each_served (drafted p d).active (drafted p d) ≡ Ok (with_told ts (drafted p d), out)) where
    pub told-awaits : awaits (with_told ts (drafted p d)) ≡ awaits (drafted p d)
    told-awaits = served-awaits (drafted p d).active (drafted p d) (with_told ts (drafted p d)) out refl comes

    pub told-ready : All (λ h. obstacle (with_told ts (drafted p d)) h.request ≡ h.at) (held_after d p.active.held) → All (λ h. is_idle ((with_told ts (drafted p d)).rows h.at) ≡ false) (held_after d p.active.held) → IsReady (with_told ts (drafted p d)) (held_after d p.active.held)
    told-ready waits quiet =
        let o : IsOrderly (drafted p d) = drafted-orderly in
        record {
          waits = waits;
          quiet = quiet;
          apart = drafted-apart;
          resting = λ is. drafted-rests (sym (told-awaits ∙ drafted-awaits) ∙ is);
          settled = λ is. drafted-settled (sym (told-awaits ∙ drafted-awaits) ∙ is);
          orderly = record { distinct = o.distinct; living = o.living; counted = served-counted (drafted p d).active (drafted p d) (with_told ts (drafted p d)) out refl o.counted comes };
        }

-- a list with 0 requests of the call has none to be found
none-find : (c : CallId) (rs : List TokenRequest) → calls c rs ≡ 0 → find (is_of_call c) rs ≡ None
none-find c [] none = refl
none-find c (r ∷ rs) none = by (is_of_call c r) (sym (calls-cons c r rs) ∙ none) (none-find c rs)
  where
    by : (b : Bool) → cond b 1 0 + calls c rs ≡ 0 → (calls c rs ≡ 0 → find (is_of_call c) rs ≡ None) → cond b (Some r) (find (is_of_call c) rs) ≡ None
    by true h rest = absurd (omega arith)
    by false h rest = rest (omega arith)

none-before : (rs : List TokenRequest) (r : TokenRequest) → AreDistinct (rs ++ r ∷ []) → find (is_of_call r.call) rs ≡ None
none-before rs r distinct =
    let a = calls-append r.call rs (r ∷ []) in
    let b : calls r.call (r ∷ []) ≡ 1 = calls-one r.call r true (same_call-refl r.call) in
    let few = distinct r.call in
    none-find r.call rs (omega arith)

distinct-calls : (rs : List TokenRequest) → AreDistinct rs → AreOfDistinctCalls rs
distinct-calls [] distinct = tt
distinct-calls (r ∷ rs) distinct =
    let own : calls r.call (r ∷ rs) ≡ calls r.call (r ∷ []) + calls r.call rs = calls-append r.call (r ∷ []) rs in
    let one : calls r.call (r ∷ []) ≡ 1 = calls-one r.call r true (same_call-refl r.call) in
    let few = distinct r.call in
    (none-find r.call rs (omega arith), distinct-calls rs (λ c. let all : calls c (r ∷ rs) ≡ calls c (r ∷ []) + calls c rs = calls-append c (r ∷ []) rs in let less = distinct c in omega arith))

-- the list to which a request moves has none of its call
pub moved-new : (m : Moved) (queue waiting : List TokenRequest) → AreDistinct (queue_moved m queue waiting) → AreDistinct (waiting_moved m waiting) → IsNewCall m queue waiting
moved-new Nothing queue waiting q w = tt
moved-new (New r) queue waiting q w = none-before queue r q
moved-new (Again call r) queue waiting q w = none-before queue r q
moved-new Waiting queue waiting q w = distinct-calls (queue ++ waiting) q
moved-new (PutOff r) queue waiting q w = none-before waiting r w

pub distinct-queue : (s : ServerState) → IsOrderly s → AreDistinct s.queue
distinct-queue s o c = let a = calls-kinds c s in let few = o.distinct c in omega arith

pub distinct-waiting : (s : ServerState) → IsOrderly s → AreDistinct s.waiting
distinct-waiting s o c = let a = calls-kinds c s in let few = o.distinct c in omega arith

-- after a planned step a server holds all that it has to
pub applied : (p : ServerParts) (awaiting : Bool) (v : ServerEdit) (known_nodes : List KnownNode) (active : ActiveParts) (queue waiting : LineParts) → IsServer p awaiting → PartsFit p v → ((n : ℕ) → rows_of known_nodes n ≡ given_rows (v.given.items ++ given_of v.rows) p.known_nodes n) → deaths_of known_nodes ≡ deaths_overlaid p.known_nodes v.rows → length known_nodes ≡ length p.known_nodes → active.held ≡ held_after v p.active.held → queue.requests ≡ queue_after v p.queue.requests p.waiting.requests → waiting.requests ≡ waiting_after v p.waiting.requests → IsServer (record { shape = p.shape; file = p.file; epoch = p.epoch; known_nodes = known_nodes; active = active; queue = queue; waiting = waiting }) v.awaits
applied p awaiting v known_nodes active queue waiting server fits rows deaths many held queued put_off = record {
  each_node = many ∙ server.each_node;
  file_in = server.file_in;
  epoch_in = server.epoch_in;
  awaited = fits.awaited ∙ ap (λ (x : ServerState × List ActiveRequest). awaits x.0) whole;
  ready = subst (λ (x : ServerState × List ActiveRequest). IsReady x.0 x.1) whole fits.ready;
}
  where
    whole : ◌≡◌ {A = ServerState × List ActiveRequest} (made p v, held_after v p.active.held) (server_state (record { shape = p.shape; file = p.file; epoch = p.epoch; known_nodes = known_nodes; active = active; queue = queue; waiting = waiting }), active.held)
    whole = λ i. (record { shape = p.shape; file = p.file; epoch = p.epoch; rows = λ n. sym (rows n) i; dead = sym deaths i; queue = sym queued i; active = requests_of (sym held i); waiting = sym put_off i }, sym held i)

-- a settled queue stays as it is at an admission
settled-stays : (active before queue : List TokenRequest) → all_stay active before queue ≡ true → admitted active before queue ≡ (active, before ++ queue)
settled-stays active before [] stay = ap (λ (q : List TokenRequest). let x : List TokenRequest × List TokenRequest = (active, q) in x) (sym (append-nil before))
settled-stays active before (r ∷ rest) stay =
    let parts = and_parts (meets_some r active || meets_some r before) (all_stay active (before ++ r ∷ []) rest) stay in
    ap (λ (b : Bool). cond b (admitted active (before ++ r ∷ []) rest) (admitted (active ++ r ∷ []) before rest)) parts.0
    ∙ settled-stays active (before ++ r ∷ []) rest parts.1
    ∙ ap (λ (q : List TokenRequest). let x : List TokenRequest × List TokenRequest = (active, q) in x) (append_assoc before (r ∷ []) rest)

each-silent : (s : ServerState) (held : List ActiveRequest) → All (λ h. obstacle s h.request ≡ h.at) held → All (λ h. is_idle (s.rows h.at) ≡ false) held → each_served (requests_of held) s ≡ Ok (s, [])
each-silent s [] waits quiet = refl
each-silent s (h ∷ held) waits quiet =
    let W : ActiveRequest → Type 0 = λ x. obstacle s x.request ≡ x.at in
    let Q : ActiveRequest → Type 0 = λ x. is_idle (s.rows x.at) ≡ false in
    let one : served s h.request ≡ Ok (s, []) = served-silent s h.request (ap (λ (k : ℕ). is_idle (s.rows k)) (All-head W h held waits) ∙ All-head Q h held quiet) in
    ap (λ (x : Answer). and_then x (each_served (requests_of held))) one
    ∙ ap (with_more []) (each-silent s held (All-tail W h held waits) (All-tail Q h held quiet))

serves-nothing : (s : ServerState) (held : List ActiveRequest) → IsReady s held → s.active ≡ requests_of held → serve s ≡ Ok (s, [])
serves-nothing s held holds is = by (awaits s) refl
  where
    by : (b : Bool) → awaits s ≡ b → serve s ≡ Ok (s, [])
    by true waits = ap (λ (b : Bool). let x : Answer = cond b (Ok (s, [])) (each_served (ready s).active (ready s)) in x) waits
    by false told =
        ap (λ (b : Bool). let x : Answer = cond b (Ok (s, [])) (each_served (ready s).active (ready s)) in x) told
        ∙ ap (λ (q : List TokenRequest × List TokenRequest). let t : ServerState = record s { active = q.0; queue = q.1 } in each_served t.active t) (settled-stays s.active [] s.queue (holds.settled told))
        ∙ ap (λ (rs : List TokenRequest). each_served rs s) is
        ∙ each-silent s held holds.waits holds.quiet

pub nothing-served : (p : ServerParts) (k : Sketch) (first : List Message) → k ≡ record { changed = None; moved = Nothing; ended = None } → first ≡ [] → IsReady (server_state p) p.active.held → sending_first first (serve (sketched p k)) ≡ Ok (server_state p, sending [])
nothing-served p k first is empty holds =
    (λ i. sending_first (empty i) (serve (sketched p (is i))))
    ∙ ap (sending_first []) (serves-nothing (server_state p) p.active.held holds refl)

-- where the rule refuses nothing, a step is refused for want of memory alone
pub never-refused : (e : StepError) (x : Result (ServerState × Outcome) StepError) (done : ServerState × Outcome) → (e ≢ NoMemory → x ≡ Err e) → x ≡ Ok done → e ≡ NoMemory
never-refused NoMemory x done refused is = refl
never-refused Busy x done refused is = let never : x ≡ Err Busy = refused (λ other. absurd (cc)) in absurd (cc)
never-refused Stranger x done refused is = let never : x ≡ Err Stranger = refused (λ other. absurd (cc)) in absurd (cc)
never-refused Spent x done refused is = let never : x ≡ Err Spent = refused (λ other. absurd (cc)) in absurd (cc)
