-- Each active request that a server has served waits for a node to which a command is outstanding.
use Rattle.std.specs.Prelude.{◌≡◌, ℕ, ◌≤◌, Bool, true, false, cond, nat_le, List, [], ◌∷◌, ◌++◌, All, Result, Ok, Err}
use Rattle.std.proofs.Common.{refl, sym, ap, subst, ◌∙◌, arith, append-nil, append_assoc}
use Rattle.std.proofs.lemmas.Bool.{both_ways, and_parts, leb-true}
use Rattle.std.proofs.lemmas.List.Elements.{All-nil, All-cons, All-head, All-tail, All-append}
use Rattle.intervals.specs.rule.Bytes.{Range, is_in}
use Rattle.model.specs.declared.mode.Mode.TheVariants.{Read}
use Rattle.messages.specs.rule.Shapes.{ShapeFields}
use Rattle.messages.specs.declared.refusal.StepError.{StepError}
use Rattle.messages.specs.declared.message.Message.{Message}
use Rattle.token_server.specs.declared.token_queue.token_request.TokenRequest.{TokenRequest}
use Rattle.token_server.specs.rule.Rows.{row_conflicts}
use Rattle.token_server.specs.rule.State.{ServerState, awaits, requests}
use Rattle.token_server.specs.rule.Serve.{served, with_more, and_then, each_served, ready, serve}
use Rattle.token_server.specs.rule.Obstacles.{obstacle, are_apart, is_idle, all_stay}
use Rattle.cluster_core.specs.rule.Serving.{IsWanted, IsBusy, IsServing}
use Rattle.token_server.proofs.AdmittingLaws.{admitted-stay, apart-admitted}
use Rattle.token_server.proofs.ReadyLaws.{stay-all}
use Rattle.token_server.proofs.CareLaws.{All-left, All-right, active-each, ready-each}
use Rattle.token_server.proofs.ObstacleLaws.{Leaves, obstacle-same, served-leaves}
use Rattle.token_server.proofs.KeepLaws.{StandSame, served-same}
use Rattle.token_server.proofs.AskedLaws.{served-holds}
use Rattle.token_server.proofs.TurnLaws.{served-busy}

abbrev Answer : Type 0
Answer = Result (ServerState × List Message) StepError

-- a range without bytes
abbrev pub nowhere : Range
nowhere = record { lo = 1; hi = 0 }

none-in : (b : ℕ) → is_in nowhere b ≡ true → ⊥
none-in b here =
    let p = and_parts (nat_le 1 b) (nat_le b 0) here in
    let above : 1 ≤ b = leb-true 1 b p.0 in
    let below : b ≤ 0 = leb-true b 0 p.1 in
    absurd (omega arith)

-- serving leaves a server all but its rows
abbrev pub Left : ServerState → ServerState → Type 0
Left s t = Leaves (λ o. row_conflicts o nowhere Read) s t

left-both : (s t u : ServerState) → Left s t → Left t u → Left s u
left-both s t u a b = record {
  shape = b.shape ∙ a.shape;
  file = b.file ∙ a.file;
  epoch = b.epoch ∙ a.epoch;
  dead = b.dead ∙ a.dead;
  queue = b.queue ∙ a.queue;
  active = b.active ∙ a.active;
  waiting = b.waiting ∙ a.waiting;
  rows = λ n. b.rows n ∙ a.rows n;
}

served-left : (s t : ServerState) (r : TokenRequest) (out : List Message) → served s r ≡ Ok (t, out) → Left s t
served-left s t r out is = served-leaves s t r out nowhere Read (λ b within here. none-in b here) is

-- a node to which no command may go is one still after a request was served
served-stays_busy : (s t : ServerState) (r : TokenRequest) (out : List Message) → served s r ≡ Ok (t, out) → (n : ℕ) → is_idle (s.rows n) ≡ false → is_idle (t.rows n) ≡ false
served-stays_busy s t r out is = served-holds (λ n o. is_idle (s.rows n) ≡ false → is_idle o ≡ false) (λ n row token command plain idle was busy. refl) s t r out (λ n busy. busy) is

-- a request for which the same rows stand in the way is as busy as before
busy-same : (s t : ServerState) (q : TokenRequest) → t.shape ≡ s.shape → StandSame s t q → ((n : ℕ) → is_idle (s.rows n) ≡ false → is_idle (t.rows n) ≡ false) → IsBusy s q → IsBusy t q
busy-same s t q shape same stays busy =
    let there : obstacle t q ≡ obstacle s q = obstacle-same s t q (ap (λ (x : ShapeFields). x.nodes) shape) same in
    ap (λ (k : ℕ). is_idle (t.rows k)) there ∙ stays (obstacle s q) busy

busy-each : (s t : ServerState) (qs : List TokenRequest) → t.shape ≡ s.shape → All (StandSame s t) qs → ((n : ℕ) → is_idle (s.rows n) ≡ false → is_idle (t.rows n) ≡ false) → All (IsBusy s) qs → All (IsBusy t) qs
busy-each s t [] shape same stays busy = All-nil (IsBusy t)
busy-each s t (q ∷ qs) shape same stays busy =
    All-cons (IsBusy t) q qs
    (busy-same s t q shape (All-head (StandSame s t) q qs same) stays (All-head (IsBusy s) q qs busy))
    (busy-each s t qs shape (All-tail (StandSame s t) q qs same) stays (All-tail (IsBusy s) q qs busy))

-- all requests of the list are busy after each of them was served
pub record Ends (all : List TokenRequest) (s t : ServerState) : Type 0 where
  pub left : Left s t
  pub busy : All (IsBusy t) all

ends-silent : (all : List TokenRequest) (s t : ServerState) (out : List Message) → Ends all s s → ◌≡◌ {A = Answer} (Ok (s, [])) (Ok (t, out)) → Ends all s t
ends-silent all s t out e is =
    let pair : ◌≡◌ {A = ServerState × List Message} (s, []) (t, out) = cc in
    subst (Ends all s) (ap (λ (p : ServerState × List Message). p.0) pair) e

itself : (s : ServerState) → Left s s
itself s = record { shape = refl; file = refl; epoch = refl; dead = refl; queue = refl; active = refl; waiting = refl; rows = λ n. refl }

each-ends : (done todo : List TokenRequest) (s t : ServerState) (out : List Message) → s.active ≡ done ++ todo → are_apart s.active ≡ true → All IsWanted todo → All (IsBusy s) done → each_served todo s ≡ Ok (t, out) → Ends (done ++ todo) s t
each-ends done [] s t out split apart wanted busy is =
    ends-silent (done ++ []) s t out (record { left = itself s; busy = subst (All (IsBusy s)) (sym (append-nil done)) busy }) is
each-ends done (r ∷ rest) s t out split apart wanted busy is = by (served s r) refl (λ u v sent. each-ends (done ++ r ∷ []) rest u v sent) is
  where
    own : IsWanted r
    own = All-head IsWanted r rest wanted

    Goes : Type 0
    Goes = (u v : ServerState) (sent : List Message) → u.active ≡ (done ++ r ∷ []) ++ rest → are_apart u.active ≡ true → All IsWanted rest → All (IsBusy u) (done ++ r ∷ []) → each_served rest u ≡ Ok (v, sent) → Ends ((done ++ r ∷ []) ++ rest) u v

    served-more : (u : ServerState) (first : List Message) → served s r ≡ Ok (u, first) → Left s u × All (IsBusy u) (done ++ r ∷ [])
    served-more u first was =
        let left = served-left s u r first was in
        let stays = served-stays_busy s u r first was in
        let same : All (StandSame s u) (done ++ r ∷ rest) = served-same s u r first done rest split apart own.ordered own.starts own.ends was in
        let here : StandSame s u r = All-head (StandSame s u) r rest (All-right (StandSame s u) done (r ∷ rest) same) in
        let there : obstacle u r ≡ obstacle s r = obstacle-same s u r (ap (λ (x : ShapeFields). x.nodes) left.shape) here in
        let last : IsBusy u r = ap (λ (k : ℕ). is_idle (u.rows k)) there ∙ served-busy s u r (obstacle s r) first refl was in
        (left, All-append (IsBusy u) done (r ∷ []) (busy-each s u done left.shape (All-left (StandSame s u) done (r ∷ rest) same) stays busy) (All-cons (IsBusy u) r [] last (All-nil (IsBusy u))))

    more : (u : ServerState) (first : List Message) (x : Answer) → Left s u × All (IsBusy u) (done ++ r ∷ []) → Goes → each_served rest u ≡ x → with_more first x ≡ Ok (t, out) → Ends (done ++ r ∷ rest) s t
    more u first (Err e) one goes was h = absurd (cc)
    more u first (Ok end) one goes was h =
        let pair : ◌≡◌ {A = ServerState × List Message} (end.0, first ++ end.1) (t, out) = cc in
        let around : (done ++ r ∷ []) ++ rest ≡ done ++ r ∷ rest = append_assoc done (r ∷ []) rest in
        let ends = goes u end.0 end.1 (one.0.active ∙ split ∙ sym around) (ap are_apart one.0.active ∙ apart) (All-tail IsWanted r rest wanted) one.1 was in
        let all : All (IsBusy end.0) (done ++ r ∷ rest) = subst (All (IsBusy end.0)) around ends.busy in
        subst (Ends (done ++ r ∷ rest) s) (ap (λ (p : ServerState × List Message). p.0) pair) (record { left = left-both s u end.0 one.0 ends.left; busy = all })

    by : (x : Answer) → served s r ≡ x → Goes → and_then x (each_served rest) ≡ Ok (t, out) → Ends (done ++ r ∷ rest) s t
    by (Err e) was goes h = absurd (cc)
    by (Ok one) was goes h = more one.0 one.1 (each_served rest one.0) (served-more one.0 one.1 was) goes refl h

-- the requests of a server between an event and its serving
pub record IsInOrder (s : ServerState) : Type 0 where
  pub wanted : All IsWanted (requests s)
  pub apart : are_apart s.active ≡ true

-- a server that has the same requests
same-requests : (s t : ServerState) → Left s t → All IsWanted (requests s) → All IsWanted (requests t)
same-requests s t left all =
    subst (All IsWanted) (λ i. sym left.active i ++ (sym left.queue i ++ sym left.waiting i)) all

-- serving a list of requests leaves a server all but its rows
pub each-left : (rs : List TokenRequest) (s t : ServerState) (out : List Message) → each_served rs s ≡ Ok (t, out) → Left s t
each-left [] s t out is =
    let pair : ◌≡◌ {A = ServerState × List Message} (s, []) (t, out) = cc in
    subst (Left s) (ap (λ (p : ServerState × List Message). p.0) pair) (itself s)
each-left (r ∷ rest) s t out is = by (served s r) refl (λ u v sent. each-left rest u v sent) is
  where
    Goes : Type 0
    Goes = (u v : ServerState) (sent : List Message) → each_served rest u ≡ Ok (v, sent) → Left u v

    more : (u : ServerState) (first : List Message) (x : Answer) → Left s u → Goes → each_served rest u ≡ x → with_more first x ≡ Ok (t, out) → Left s t
    more u first (Err e) one goes was h = absurd (cc)
    more u first (Ok end) one goes was h =
        let pair : ◌≡◌ {A = ServerState × List Message} (end.0, first ++ end.1) (t, out) = cc in
        subst (Left s) (ap (λ (p : ServerState × List Message). p.0) pair) (left-both s u end.0 one (goes u end.0 end.1 was))

    by : (x : Answer) → served s r ≡ x → Goes → and_then x (each_served rest) ≡ Ok (t, out) → Left s t
    by (Err e) was goes h = absurd (cc)
    by (Ok one) was goes h = more one.0 one.1 (each_served rest one.0) (served-left s one.0 r one.1 was) goes refl h

-- serving leaves what the server knows to be dead
pub serve-dead : (s t : ServerState) (out : List Message) → serve s ≡ Ok (t, out) → t.dead ≡ s.dead
serve-dead s t out is = by (awaits s) is
  where
    by : (b : Bool) → cond b (Ok (s, [])) (each_served (ready s).active (ready s)) ≡ Ok (t, out) → t.dead ≡ s.dead
    by true h =
        let pair : ◌≡◌ {A = ServerState × List Message} (s, []) (t, out) = cc in
        ap (λ (p : ServerState × List Message). p.0.dead) (sym pair)
    by false h = (each-left (ready s).active (ready s) t out h).dead

-- serving requests that are in order makes a server that is serving
pub serve-serving : (s t : ServerState) (out : List Message) → IsInOrder s → serve s ≡ Ok (t, out) → IsServing t
serve-serving s t out o is = by (awaits s) refl is
  where
    next : ServerState
    next = ready s

    here : All IsWanted (requests next)
    here = ready-each IsWanted s o.wanted

    apart : are_apart next.active ≡ true
    apart = apart-admitted s.active [] s.queue o.apart

    quiet : awaits s ≡ true → IsServing s
    quiet waits = record {
      wanted = o.wanted;
      apart = o.apart;
      busy = λ told. absurd (both_ways (awaits s) told waits);
      settled = λ told. absurd (both_ways (awaits s) told waits);
    }

    by : (b : Bool) → awaits s ≡ b → cond b (Ok (s, [])) (each_served next.active next) ≡ Ok (t, out) → IsServing t
    by true waits h =
        let pair : ◌≡◌ {A = ServerState × List Message} (s, []) (t, out) = cc in
        subst IsServing (ap (λ (p : ServerState × List Message). p.0) pair) (quiet waits)
    by false told h =
        let ends = each-ends [] next.active next t out refl apart (active-each IsWanted next here) (All-nil (IsBusy next)) h in
        record {
          wanted = same-requests next t ends.left here;
          apart = ap are_apart ends.left.active ∙ apart;
          busy = λ none. subst (All (IsBusy t)) (sym ends.left.active) ends.busy;
          settled = λ none. (λ i. all_stay (ends.left.active i) [] (ends.left.queue i)) ∙ stay-all next.active [] next.queue (admitted-stay s.active [] s.queue tt);
        }
