-- All requests of a server: no two are of one call, and none is of an incarnation that is gone.
use Rattle.std.specs.Prelude.{◌≡◌, ℕ, ◌+◌, ◌-◌, ◌<◌, ◌≤◌, Bool, true, false, not, cond, ◌&&◌, ◌||◌, ◌==◌, nat_le, max, List, [], ◌∷◌, ◌++◌, All, filter, find, IfSome, Option, Some, None}
use Rattle.std.specs.List.{list_any}
use Rattle.std.specs.Option.{option_map}
use Rattle.std.proofs.Common.{refl, sym, ap, subst, ◌∙◌, arith}
use Rattle.std.proofs.lemmas.Bool.{leb-false}
use Rattle.std.proofs.lemmas.List.Elements.{All-nil, All-cons, All-head, All-tail, All-weaker}
use Rattle.model.specs.declared.call.CallId.{CallId}
use Rattle.model.specs.declared.host.Host.{Host}
use Rattle.model.specs.declared.lock_info.LockInfo.{LockInfo}
use Rattle.model.specs.declared.mode.Mode.{Mode}
use Rattle.intervals.specs.rule.Bytes.{Range}
use Rattle.messages.specs.declared.message.Message.{Message}
use Rattle.messages.specs.declared.message.Message.TheVariants.{Request, Grant, Revoke, Taken, Released, Conflict, Deny, Freed, Hello, Report}
use Rattle.messages.specs.declared.token_run.TokenRun.{TokenRun}
use Rattle.messages.specs.rule.Messages.{reported, same_blocking, host_of}
use Rattle.messages.specs.declared.message.Blocking.TheVariants.{Yes}
use Rattle.model.specs.rule.Owners.{host_of_call}
use Rattle.token_set.specs.rule.Tokens.{Token, lowered}
use Rattle.token_server.specs.declared.token_queue.token_request.TokenRequest.{TokenRequest}
use Rattle.token_server.specs.rule.Requests.{is_of_call, is_up_to}
use Rattle.token_server.proofs.CallLaws.{same_call-true}
use Rattle.token_server.specs.rule.Rows.{Row, empty_row, row_above, is_grant, revoked_mode, row_of_incarnation, asks_token}
use Rattle.token_server.specs.rule.State.{ServerState, begin, forgotten, requests, requeued}
use Rattle.token_server.specs.rule.Server.{Change, with_a_row, request_of, enqueued_with, enqueued, asked, acknowledged, ended, put_off, postponed, denial, row_of_host, taken, released, in_conflict, heard, freed, delivered}
use Rattle.token_server.specs.rule.Serve.{meets_some, admitted, ready}
use Rattle.token_server.specs.code.Edits.{IsOrderly, AreDistinct, without, held_without}
use Rattle.token_server.proofs.AdmittingLaws.{Lists, calls, calls-append, calls-cons, neither}
use Rattle.token_server.proofs.CareLaws.{AreRequests, requests-parts, ready-each, find-each, find-passes, enqueued_with-each, requeued-each, ended-each, postponed-each, forgotten-each, forgotten-young}
use Rattle.token_server.specs.declared.token_queue.active_request.ActiveRequest.{ActiveRequest}
use Rattle.token_server.specs.rule.Actives.{requests_of, waiting_for}
use Rattle.token_server.proofs.TurnLaws.{waiting_for-requests, without-requests}

-- the number of a call's requests is the sum of those active, queued and waiting
pub calls-kinds : (call : CallId) (s : ServerState) → calls call (requests s) ≡ calls call s.active + (calls call s.queue + calls call s.waiting)
calls-kinds call s = calls-append call s.active (s.queue ++ s.waiting) ∙ ap (λ (k : ℕ). calls call s.active + k) (calls-append call s.queue s.waiting)

pub calls-fewer : (call : CallId) (p : TokenRequest → Bool) (rs : List TokenRequest) → calls call (filter p rs) ≤ calls call rs
calls-fewer call p [] = omega arith
calls-fewer call p (r ∷ rs) = by (p r) (calls-fewer call p rs)
  where
    by : (b : Bool) → calls call (filter p rs) ≤ calls call rs → calls call (cond b (r ∷ filter p rs) (filter p rs)) ≤ calls call (r ∷ rs)
    by true less =
        let a : calls call (r ∷ filter p rs) ≡ cond (is_of_call call r) 1 0 + calls call (filter p rs) = calls-cons call r (filter p rs) in
        let b : calls call (r ∷ rs) ≡ cond (is_of_call call r) 1 0 + calls call rs = calls-cons call r rs in
        omega arith
    by false less =
        let b : calls call (r ∷ rs) ≡ cond (is_of_call call r) 1 0 + calls call rs = calls-cons call r rs in
        omega arith

-- a list without a request of the call has 0 of them
pub calls-none_of : (call : CallId) (rs : List TokenRequest) → list_any (is_of_call call) rs ≡ false → calls call rs ≡ 0
calls-none_of call [] none = refl
calls-none_of call (r ∷ rs) none = by (is_of_call call r) refl none (calls-none_of call rs)
  where
    by : (b : Bool) → is_of_call call r ≡ b → (b || list_any (is_of_call call) rs) ≡ false → (list_any (is_of_call call) rs ≡ false → calls call rs ≡ 0) → calls call (r ∷ rs) ≡ 0
    by true is none rest = absurd (cc)
    by false is none rest = let e : calls call (r ∷ rs) ≡ cond false 1 0 + calls call rs = calls-cons call r rs ∙ ap (λ (b : Bool). cond b 1 0 + calls call rs) is in let f = rest none in omega arith

pub calls-gone : (call : CallId) (rs : List TokenRequest) → calls call (filter (λ r. not (is_of_call call r)) rs) ≡ 0
calls-gone call [] = refl
calls-gone call (r ∷ rs) = by (is_of_call call r) refl (calls-gone call rs)
  where
    rest : List TokenRequest
    rest = filter (λ q. not (is_of_call call q)) rs

    by : (b : Bool) → is_of_call call r ≡ b → calls call rest ≡ 0 → calls call (cond (not b) (r ∷ rest) rest) ≡ 0
    by true is none = none
    by false is none = let e : calls call (r ∷ rest) ≡ cond false 1 0 + calls call rest = calls-cons call r rest ∙ ap (λ (b : Bool). cond b 1 0 + calls call rest) is in omega arith

pub find-none : (call : CallId) (rs : List TokenRequest) → find (is_of_call call) rs ≡ None → calls call rs ≡ 0
find-none call [] none = refl
find-none call (r ∷ rs) none = by (is_of_call call r) refl none (find-none call rs)
  where
    by : (b : Bool) → is_of_call call r ≡ b → cond b (Some r) (find (is_of_call call) rs) ≡ None → (find (is_of_call call) rs ≡ None → calls call rs ≡ 0) → calls call (r ∷ rs) ≡ 0
    by true is none rest = absurd (cc)
    by false is none rest = let e : calls call (r ∷ rs) ≡ cond false 1 0 + calls call rs = calls-cons call r rs ∙ ap (λ (b : Bool). cond b 1 0 + calls call rs) is in let f = rest none in omega arith

-- a request has one call
pub one-call : (r : TokenRequest) (call other : CallId) → is_of_call call r ≡ true → is_of_call other r ≡ true → call ≡ other
one-call r call other a b = sym (same_call-true r.call call a) ∙ same_call-true r.call other b

-- a request that ends and perhaps waits is counted no more than before
put_off-few : (c call : CallId) (rs : List TokenRequest) → calls c (filter (λ r. not (is_of_call call r)) rs) + calls c (put_off (request_of call rs)) ≤ calls c rs
put_off-few c call [] = omega arith
put_off-few c call (r ∷ rs) = by (is_of_call call r) (put_off-few c call rs) (calls-fewer c (λ q. not (is_of_call call q)) rs)
  where
    rest : List TokenRequest
    rest = filter (λ q. not (is_of_call call q)) rs

    all : calls c (r ∷ rs) ≡ cond (is_of_call c r) 1 0 + calls c rs
    all = calls-cons c r rs

    some : (b : Bool) → calls c (cond b (r ∷ []) []) ≤ cond (is_of_call c r) 1 0
    some true = let one : calls c (r ∷ []) ≡ cond (is_of_call c r) 1 0 + calls c [] = calls-cons c r [] in let none : calls c [] ≡ 0 = refl in omega arith
    some false = let none : calls c [] ≡ 0 = refl in omega arith

    by : (b : Bool) → calls c rest + calls c (put_off (find (is_of_call call) rs)) ≤ calls c rs → calls c rest ≤ calls c rs → calls c (cond (not b) (r ∷ rest) rest) + calls c (put_off (cond b (Some r) (find (is_of_call call) rs))) ≤ calls c (r ∷ rs)
    by true h less = let own = some (same_blocking r.blocking Yes) in let whole = all in omega arith
    by false h less = let one : calls c (r ∷ rest) ≡ cond (is_of_call c r) 1 0 + calls c rest = calls-cons c r rest in let whole = all in omega arith

-- a request's incarnation is not known to be dead
abbrev pub Living : (ℕ → ℕ) → TokenRequest → Type 0
Living dead r = dead r.call.node < r.call.incarnation

pub orderly-ended : (call : CallId) (s : ServerState) → IsOrderly s → IsOrderly (ended call s)
orderly-ended call s o = record {
  distinct = λ c.
      let a = calls-kinds c (ended call s) in
      let b = calls-kinds c s in
      let less = calls-fewer c (λ r. not (is_of_call call r)) s.active in
      let few = o.distinct c in
      omega arith;
  living = ended-each (Living s.dead) call s o.living;
  counted = o.counted;
}

pub orderly-postponed : (call : CallId) (s : ServerState) → IsOrderly s → IsOrderly (postponed call s)
orderly-postponed call s o = record {
  distinct = λ c.
      let a = calls-kinds c (postponed call s) in
      let b = calls-kinds c s in
      let d = calls-append c s.waiting (put_off (request_of call s.active)) in
      let less = put_off-few c call s.active in
      let few = o.distinct c in
      omega arith;
  living = postponed-each (Living s.dead) call s o.living;
  counted = o.counted;
}

pub orderly-requeued : (s : ServerState) → IsOrderly s → IsOrderly (requeued s)
orderly-requeued s o = record {
  distinct = λ c.
      let a = calls-kinds c (requeued s) in
      let b = calls-kinds c s in
      let d = calls-append c s.queue s.waiting in
      let none : calls c [] ≡ 0 = refl in
      let few = o.distinct c in
      omega arith;
  living = requeued-each (Living s.dead) s o.living;
  counted = o.counted;
}

pub orderly-freed : (s : ServerState) (row : Option Row) → IsOrderly s → IsOrderly (freed s row)
orderly-freed s None o = o
orderly-freed s (Some row) o = orderly-requeued s o

both-all : (P Q : TokenRequest → Type 0) (rs : List TokenRequest) → All P rs → All Q rs → All (λ r. P r × Q r) rs
both-all P Q [] p q = All-nil (λ r. P r × Q r)
both-all P Q (r ∷ rs) p q = All-cons (λ x. P x × Q x) r rs (All-head P r rs p, All-head Q r rs q) (both-all P Q rs (All-tail P r rs p) (All-tail Q r rs q))

above-counted : (least incarnation : ℕ) (row : Option Row) → IfSome row (λ r. least ≤ r.number) → IfSome (row_above incarnation row) (λ r. least ≤ r.number)
above-counted least incarnation None h = tt
above-counted least incarnation (Some row) h = elim (nat_le row.incarnation incarnation) as (λ b. IfSome (cond b None (Some row)) (λ r. least ≤ r.number)) [ true ↦ tt | false ↦ h ]

pub orderly-forgotten : (s : ServerState) (node incarnation : ℕ) → IsOrderly s → IsOrderly (forgotten s node incarnation)
orderly-forgotten s node incarnation o = record {
  distinct = λ c.
      let a = calls-kinds c (forgotten s node incarnation) in
      let b = calls-kinds c s in
      let x = calls-fewer c stays s.active in
      let y = calls-fewer c stays s.queue in
      let z = calls-fewer c stays s.waiting in
      let few = o.distinct c in
      omega arith;
  living = All-weaker (λ r. Living s.dead r × (stays r ≡ true)) (Living (forgotten s node incarnation).dead) young (requests (forgotten s node incarnation)) (both-all (Living s.dead) (λ r. stays r ≡ true) (requests (forgotten s node incarnation)) (forgotten-each (Living s.dead) s node incarnation o.living) (forgotten-young s node incarnation));
  counted = λ n. elim (n == node) as (λ b. IfSome (cond b (row_above incarnation (s.rows n)) (s.rows n)) (λ row. begin s ≤ row.number)) [ true ↦ above-counted (begin s) incarnation (s.rows n) (o.counted n) | false ↦ o.counted n ];
}
  where
    stays : TokenRequest → Bool
    stays r = not (is_up_to node incarnation r)

    young : (r : TokenRequest) → (Living s.dead r × (stays r ≡ true)) → Living (forgotten s node incarnation).dead r
    young r both = by (r.call.node == node) (nat_le r.call.incarnation incarnation) refl both.0 both.1
      where
        by : (own old : Bool) → nat_le r.call.incarnation incarnation ≡ old → s.dead r.call.node < r.call.incarnation → not (own && old) ≡ true → cond own (max (s.dead r.call.node) incarnation) (s.dead r.call.node) < r.call.incarnation
        by false old is living kept = living
        by true true is living kept = absurd (cc)
        by true false is living kept = later (leb-false r.call.incarnation incarnation is)
          where
            later : incarnation < r.call.incarnation → max (s.dead r.call.node) incarnation < r.call.incarnation
            later h = omega arith

-- the requests stay as they are where a row is added
pub orderly-row : (s : ServerState) (call : CallId) (row : Option Row) → IsOrderly s → IsOrderly (with_a_row s call row)
orderly-row s call None o = record {
  distinct = o.distinct;
  living = o.living;
  counted = λ n. elim (n == call.node) as (λ b. IfSome (cond b (Some (empty_row (begin s) call.incarnation)) (s.rows n)) (λ row. begin s ≤ row.number)) [ true ↦ omega arith | false ↦ o.counted n ];
}
orderly-row s call (Some row) o = o

-- one request counts 1 for its call, and 0 for any other
pub calls-one : (c : CallId) (r : TokenRequest) (b : Bool) → is_of_call c r ≡ b → calls c (r ∷ []) ≡ cond b 1 0
calls-one c r b is = calls-cons c r [] ∙ ap (λ (t : Bool). cond t 1 0 + 0) is ∙ plus-none (cond b 1 0)
  where
    plus-none : (n : ℕ) → n + 0 ≡ n
    plus-none n = omega arith

-- the requests stay orderly where one of a new call is queued
orderly-new : (s : ServerState) (r : TokenRequest) → list_any (is_of_call r.call) s.active ≡ false → list_any (is_of_call r.call) s.queue ≡ false → request_of r.call s.waiting ≡ None → Living s.dead r → IsOrderly s → IsOrderly (enqueued_with s r None)
orderly-new s r active queue waiting living o = record {
  distinct = λ c. few c (is_of_call c r) refl;
  living = enqueued_with-each (Living s.dead) s r None living tt (requests-parts (Living s.dead) s o.living);
  counted = o.counted;
}
  where
    few : (c : CallId) (b : Bool) → is_of_call c r ≡ b → calls c (requests (enqueued_with s r None)) ≤ 1
    few c true own =
        let same : r.call ≡ c = same_call-true r.call c own in
        let x : calls c s.active ≡ 0 = subst (λ (k : CallId). calls k s.active ≡ 0) same (calls-none_of r.call s.active active) in
        let y : calls c s.queue ≡ 0 = subst (λ (k : CallId). calls k s.queue ≡ 0) same (calls-none_of r.call s.queue queue) in
        let z : calls c s.waiting ≡ 0 = subst (λ (k : CallId). calls k s.waiting ≡ 0) same (find-none r.call s.waiting waiting) in
        let a = calls-kinds c (enqueued_with s r None) in
        let d = calls-append c s.queue (r ∷ []) in
        let e : calls c (r ∷ []) ≡ 1 = calls-one c r true own in
        omega arith
    few c false other =
        let a = calls-kinds c (enqueued_with s r None) in
        let b = calls-kinds c s in
        let d = calls-append c s.queue (r ∷ []) in
        let e : calls c (r ∷ []) ≡ 0 = calls-one c r false other in
        let f = o.distinct c in
        omega arith

-- the requests stay orderly where the older request of a call is queued again
orderly-again : (s : ServerState) (r own : TokenRequest) → list_any (is_of_call r.call) s.active ≡ false → list_any (is_of_call r.call) s.queue ≡ false → request_of r.call s.waiting ≡ Some own → Living s.dead r → IsOrderly s → IsOrderly (enqueued_with s r (Some own))
orderly-again s r own active queue waiting living o = record {
  distinct = λ c. few c (is_of_call c own) refl;
  living = enqueued_with-each (Living s.dead) s r (Some own) living (subst (λ (x : Option TokenRequest). IfSome x (Living s.dead)) waiting (find-each (Living s.dead) (is_of_call r.call) s.waiting parts.waiting)) parts;
  counted = o.counted;
}
  where
    parts : AreRequests (Living s.dead) s
    parts = requests-parts (Living s.dead) s o.living

    of_call : is_of_call r.call own ≡ true
    of_call = subst (λ (x : Option TokenRequest). IfSome x (λ q. is_of_call r.call q ≡ true)) waiting (find-passes (is_of_call r.call) s.waiting)

    few : (c : CallId) (b : Bool) → is_of_call c own ≡ b → calls c (requests (enqueued_with s r (Some own))) ≤ 1
    few c true its =
        let same : r.call ≡ c = one-call own r.call c of_call its in
        let x : calls c s.active ≡ 0 = subst (λ (k : CallId). calls k s.active ≡ 0) same (calls-none_of r.call s.active active) in
        let y : calls c s.queue ≡ 0 = subst (λ (k : CallId). calls k s.queue ≡ 0) same (calls-none_of r.call s.queue queue) in
        let z : calls c (filter (λ q. not (is_of_call r.call q)) s.waiting) ≡ 0 = subst (λ (k : CallId). calls k (filter (λ q. not (is_of_call r.call q)) s.waiting) ≡ 0) same (calls-gone r.call s.waiting) in
        let a = calls-kinds c (enqueued_with s r (Some own)) in
        let d = calls-append c s.queue (own ∷ []) in
        let e : calls c (own ∷ []) ≡ 1 = calls-one c own true its in
        omega arith
    few c false other =
        let a = calls-kinds c (enqueued_with s r (Some own)) in
        let b = calls-kinds c s in
        let d = calls-append c s.queue (own ∷ []) in
        let e : calls c (own ∷ []) ≡ 0 = calls-one c own false other in
        let g = calls-fewer c (λ q. not (is_of_call r.call q)) s.waiting in
        let f = o.distinct c in
        omega arith

pub orderly-enqueued : (s : ServerState) (r : TokenRequest) → Living s.dead r → IsOrderly s → IsOrderly (enqueued s r)
orderly-enqueued s r living o = by (list_any (is_of_call r.call) s.active || list_any (is_of_call r.call) s.queue) refl
  where
    added : (w : Option TokenRequest) → request_of r.call s.waiting ≡ w → list_any (is_of_call r.call) s.active ≡ false → list_any (is_of_call r.call) s.queue ≡ false → IsOrderly (enqueued_with s r w)
    added None is active queue = orderly-new s r active queue is living o
    added (Some own) is active queue = orderly-again s r own active queue is living o

    by : (b : Bool) → (list_any (is_of_call r.call) s.active || list_any (is_of_call r.call) s.queue) ≡ b → IsOrderly (cond b s (enqueued_with s r (request_of r.call s.waiting)))
    by true is = o
    by false is =
        let none = neither (list_any (is_of_call r.call) s.active) (list_any (is_of_call r.call) s.queue) is in
        added (request_of r.call s.waiting) refl none.0 none.1

pub orderly-asked : (s : ServerState) (r : TokenRequest) → 1 ≤ r.call.incarnation → Living s.dead r → IsOrderly s → IsOrderly (asked s r)
orderly-asked s r counted living o =
    orderly-enqueued (with_a_row young r.call (young.rows r.call.node)) r (rowed (young.rows r.call.node)) (orderly-row young r.call (young.rows r.call.node) (orderly-forgotten s r.call.node (r.call.incarnation - 1) o))
  where
    young : ServerState
    young = forgotten s r.call.node (r.call.incarnation - 1)

    later : (b : Bool) → cond b (max (s.dead r.call.node) (r.call.incarnation - 1)) (s.dead r.call.node) < r.call.incarnation
    later true = omega arith
    later false = living

    rowed : (row : Option Row) → Living (with_a_row young r.call row).dead r
    rowed None = later (r.call.node == r.call.node)
    rowed (Some row) = later (r.call.node == r.call.node)

-- the number of a row is at least the base of the epoch
abbrev Counted : ServerState → Option Row → Type 0
Counted s row = IfSome row (λ r. begin s ≤ r.number)

-- the requests stay orderly where a command is answered
acknowledged-orderly : (s : ServerState) (node : ℕ) (row : Row) (token : Token) → begin s ≤ row.number → IsOrderly s → IsOrderly (acknowledged s node row token)
acknowledged-orderly s node row token counted o = record {
  distinct = o.distinct;
  living = o.living;
  counted = λ n. elim (n == node) as (λ b. Counted s (cond b (Some (record row { token = token; outstanding = None })) (s.rows n))) [ true ↦ counted | false ↦ o.counted n ];
}

-- the requests stay orderly after each message
taken-orderly : (s : ServerState) (number : ℕ) (call : CallId) (row : Option Row) (d : Change) → Counted s row → taken s number call row ≡ Some d → IsOrderly s → IsOrderly d.0
taken-orderly s number call None d counted is o = absurd (cc)
taken-orderly s number call (Some row) d counted is o = by (is_grant number row.outstanding) is
  where
    new : ServerState
    new = acknowledged s call.node row row.token

    by : (b : Bool) → ◌≡◌ {A = Option Change} (cond b (Some (ended call new, [])) None) (Some d) → IsOrderly d.0
    by true h =
        let same : ◌≡◌ {A = Change} (ended call new, []) d = cc in
        subst (λ (c : Change). IsOrderly c.0) same (orderly-ended call new (acknowledged-orderly s call.node row row.token counted o))
    by false h = absurd (cc)

released-orderly : (s : ServerState) (number : ℕ) (holder : Host) (span : Range) (row : Option Row) (d : Change) → Counted s row → released s number holder span row ≡ Some d → IsOrderly s → IsOrderly d.0
released-orderly s number holder span None d counted is o = absurd (cc)
released-orderly s number holder span (Some row) d counted is o = by (revoked_mode number row.outstanding) is
  where
    by : (m : Option Mode) → ◌≡◌ {A = Option Change} (option_map (λ mode. (acknowledged s holder.node row (lowered row.token span mode), [])) m) (Some d) → IsOrderly d.0
    by None h = absurd (cc)
    by (Some mode) h =
        let same : ◌≡◌ {A = Change} (acknowledged s holder.node row (lowered row.token span mode), []) d = cc in
        subst (λ (c : Change). IsOrderly c.0) same (acknowledged-orderly s holder.node row (lowered row.token span mode) counted o)

conflict-orderly : (s : ServerState) (number : ℕ) (holder : Host) (call : CallId) (lock : LockInfo) (row : Option Row) (d : Change) → Counted s row → in_conflict s number holder call lock row ≡ Some d → IsOrderly s → IsOrderly d.0
conflict-orderly s number holder call lock None d counted is o = absurd (cc)
conflict-orderly s number holder call lock (Some row) d counted is o = by (revoked_mode number row.outstanding) is
  where
    new : ServerState
    new = acknowledged s holder.node row row.token

    sent : List Message
    sent = denial (Deny s.file call holder number lock) (request_of call s.active)

    by : (m : Option Mode) → ◌≡◌ {A = Option Change} (option_map (λ mode. (postponed call new, sent)) m) (Some d) → IsOrderly d.0
    by None h = absurd (cc)
    by (Some mode) h =
        let same : ◌≡◌ {A = Change} (postponed call new, sent) d = cc in
        subst (λ (c : Change). IsOrderly c.0) same (orderly-postponed call new (acknowledged-orderly s holder.node row row.token counted o))

heard-orderly : (s : ServerState) (number : ℕ) (holder : Host) (runs : List TokenRun) (row : Option Row) (d : Change) → Counted s row → heard s number holder runs row ≡ Some d → IsOrderly s → IsOrderly d.0
heard-orderly s number holder runs None d counted is o = absurd (cc)
heard-orderly s number holder runs (Some row) d counted is o = by (asks_token number row.outstanding) is
  where
    by : (b : Bool) → ◌≡◌ {A = Option Change} (cond b (Some (acknowledged s holder.node row (reported runs), [])) None) (Some d) → IsOrderly d.0
    by true h =
        let same : ◌≡◌ {A = Change} (acknowledged s holder.node row (reported runs), []) d = cc in
        subst (λ (c : Change). IsOrderly c.0) same (acknowledged-orderly s holder.node row (reported runs) counted o)
    by false h = absurd (cc)

-- the row of a host is one of the server's rows
host-counted : (s : ServerState) (h : Host) → IsOrderly s → Counted s (row_of_host s h)
host-counted s h o = by (s.rows h.node) (o.counted h.node)
  where
    by : (row : Option Row) → Counted s row → Counted s (row_of_incarnation h.incarnation row)
    by None counted = tt
    by (Some row) counted = elim (row.incarnation == h.incarnation) as (λ b. Counted s (cond b (Some row) None)) [ true ↦ counted | false ↦ tt ]

pub orderly-delivered : (s : ServerState) (m : Message) (d : Change) → 1 ≤ (host_of m).incarnation → s.dead (host_of m).node < (host_of m).incarnation → delivered s m ≡ Some d → IsOrderly s → IsOrderly d.0
orderly-delivered s (Request file call blocking mode wanted) d counted living is o =
    let r : TokenRequest = record { call = call; blocking = blocking; mode = mode; wanted = wanted } in
    let same : ◌≡◌ {A = Change} (asked s r, []) d = cc in
    subst (λ (c : Change). IsOrderly c.0) same (orderly-asked s r counted living o)
orderly-delivered s (Taken file number call) d counted living is o = taken-orderly s number call _ d (host-counted s (host_of_call call) o) is o
orderly-delivered s (Released file number holder call span) d counted living is o = released-orderly s number holder span _ d (host-counted s holder o) is o
orderly-delivered s (Conflict file number holder call lock) d counted living is o = conflict-orderly s number holder call lock _ d (host-counted s holder o) is o
orderly-delivered s (Freed file holder) d counted living is o =
    let same : ◌≡◌ {A = Change} (freed s (row_of_host s holder), []) d = cc in
    subst (λ (c : Change). IsOrderly c.0) same (orderly-freed s (row_of_host s holder) o)
orderly-delivered s (Report file number holder runs) d counted living is o = heard-orderly s number holder runs _ d (host-counted s holder o) is o
orderly-delivered s (Hello file number holder) d counted living is o = absurd (cc)
orderly-delivered s (Grant file number call mode span) d counted living is o = absurd (cc)
orderly-delivered s (Revoke file number holder call mode wanted) d counted living is o = absurd (cc)
orderly-delivered s (Deny file call holder number lock) d counted living is o = absurd (cc)

-- admission loses no request of a call
admitted-calls : (c : CallId) (active staying queue : List TokenRequest) → calls c (admitted active staying queue).0 + calls c (admitted active staying queue).1 ≡ calls c active + (calls c staying + calls c queue)
admitted-calls c active staying [] = let none : calls c [] ≡ 0 = refl in omega arith
admitted-calls c active staying (r ∷ rest) =
    by (meets_some r active || meets_some r staying) (admitted-calls c active (staying ++ r ∷ []) rest) (admitted-calls c (active ++ r ∷ []) staying rest)
  where
    Sum : Lists → ℕ
    Sum next = calls c next.0 + calls c next.1

    all : ℕ
    all = calls c active + (calls c staying + calls c (r ∷ rest))

    by : (b : Bool) → Sum (admitted active (staying ++ r ∷ []) rest) ≡ calls c active + (calls c (staying ++ r ∷ []) + calls c rest) → Sum (admitted (active ++ r ∷ []) staying rest) ≡ calls c (active ++ r ∷ []) + (calls c staying + calls c rest) → Sum (cond b (admitted active (staying ++ r ∷ []) rest) (admitted (active ++ r ∷ []) staying rest)) ≡ all
    by true stays comes =
        let a = calls-append c staying (r ∷ []) in
        let b : calls c (r ∷ rest) ≡ calls c (r ∷ []) + calls c rest = calls-append c (r ∷ []) rest in
        stays ∙ omega arith
    by false stays comes =
        let a = calls-append c active (r ∷ []) in
        let b : calls c (r ∷ rest) ≡ calls c (r ∷ []) + calls c rest = calls-append c (r ∷ []) rest in
        comes ∙ omega arith

pub orderly-ready : (s : ServerState) → IsOrderly s → IsOrderly (ready s)
orderly-ready s o = record {
  distinct = λ c.
      let a = calls-kinds c (ready s) in
      let b = calls-kinds c s in
      let d = admitted-calls c s.active [] s.queue in
      let none : calls c [] ≡ 0 = refl in
      let few = o.distinct c in
      omega arith;
  living = ready-each (Living s.dead) s o.living;
  counted = o.counted;
}

-- no two of the active requests that are not dropped are of one call
pub distinct-kept : (dropped : Option (ℕ × ℕ)) (ats : List ℕ) (held : List ActiveRequest) → AreDistinct (requests_of held) → AreDistinct (requests_of (held_without dropped (waiting_for ats held)))
distinct-kept None ats held distinct = subst AreDistinct (sym (waiting_for-requests ats held)) distinct
distinct-kept (Some d) ats held distinct =
    subst AreDistinct (sym (without-requests (Some d) (waiting_for ats held) ∙ ap (without (Some d)) (waiting_for-requests ats held)))
    (λ call.
    let fewer = calls-fewer call (λ r. not (is_up_to d.0 d.1 r)) (requests_of held) in
    let few = distinct call in
    omega (arith, fewer, few))
