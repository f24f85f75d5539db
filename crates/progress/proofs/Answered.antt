-- What each message brings a token server.
use Rattle.std.specs.Prelude.{◌-◌, nat_le, not, filter, get_or, IfSome, option_map, if◌then◌else◌}
use Rattle.std.proofs.Common.{◌≡◌, ℕ, ◌≤◌, Bool, true, false, refl, ◌∙◌, ap, arith, List, [], ◌++◌, All, Option, Some, None}
use Rattle.std.proofs.lemmas.Bool.{both_ways, and_parts, leb-true, not-true}
use Rattle.intervals.specs.rule.Bytes.{Range}
use Rattle.model.specs.declared.call.CallId.{CallId}
use Rattle.model.specs.declared.host.Host.{Host}
use Rattle.model.specs.declared.lock_info.LockInfo.{LockInfo}
use Rattle.messages.specs.declared.token_run.TokenRun.{TokenRun}
use Rattle.model.specs.declared.mode.Mode.{Mode}
use Rattle.model.specs.rule.Owners.{host_of_call}
use Rattle.token_set.specs.rule.Tokens.{lowered, conflicts}
use Rattle.token_set.proofs.TokenLaws.{some_passes-from}
use Rattle.messages.specs.rule.Messages.{host_of, is_within, reported}
use Rattle.messages.specs.declared.message.Message.{Message}
use Rattle.messages.specs.declared.message.Message.TheVariants.{Request, Grant, Revoke, Taken, Released, Conflict, Deny, Freed, Hello, Report}
use Rattle.token_server.proofs.ObstacleLaws.{row_after-fewer}
use Rattle.token_server.specs.declared.known_nodes.known_change.KnownChange.TheVariants.{Relieved}
use Rattle.token_server.specs.declared.token_queue.token_request.TokenRequest.{TokenRequest}
use Rattle.token_server.specs.rule.Requests.{is_of_call}
use Rattle.token_server.specs.rule.Rows.{Row, is_awaited, is_grant, revoked_mode, asks_token}
use Rattle.token_server.specs.rule.State.{ServerState, awaits, forgotten, requests}
use Rattle.token_server.specs.rule.Server.{Change, with_a_row, request_of, asked, acknowledged, ended, put_off, taken, released, in_conflict, heard, row_of_host, freed, delivered}
use Rattle.cluster_core.proofs.steps.ServerRows.{row_found}
use Rattle.progress.proofs.Changing.{IsAged, forgotten_costs, answered_costs, answered_one}
use Rattle.progress.proofs.Brought.{Fits, brings, comes_by, Brings, grant_alone, revoke_alone, asks_hello, all_pass_cost, put_off_each, forgotten_each, requeued_costs, requeued_each, enqueued_costs, enqueued_each, enqueued_shape, with_a_row_costs}
use Rattle.progress.proofs.Costs.{revokes_for, grants_for, cost_of, most_of, for_each, each_both, passing_cost, passing_each}
use Rattle.progress.proofs.Sums.{IsAmong}

all_of : (P : TokenRequest → Type 0) → ((r : TokenRequest) → P r) → (rs : List TokenRequest) → All P rs
all_of P each rs k d lt = each (get_or rs k d)

module _ (k : ℕ) (s : ServerState) (aged : IsAged s) where
  asked_brings : (r : TokenRequest) (m : Message) → IsAmong k r.call.node → brings k s m ≡ most_of k → ((u : ℕ) → comes_by u m ≡ u) → Brings k s m (asked s r, [])
  asked_brings r m within brought coming =
      let young = forgotten s r.call.node (r.call.incarnation - 1) in
      let rowed = with_a_row young r.call (young.rows r.call.node) in
      let first = forgotten_costs k s r.call.node (r.call.incarnation - 1) within aged in
      let second = with_a_row_costs k young r.call within (young.rows r.call.node) refl in
      let last = enqueued_costs k rowed r in
      record {
        costs_are = omega arith;
        requests_are = λ u.
            let fewer = forgotten_each u s r.call.node (r.call.incarnation - 1) in
            let same : for_each u (requests rowed) ≡ for_each u (requests young) = rowed_each u (young.rows r.call.node) in
            let more = enqueued_each k rowed r u in
            let one = coming u in
            omega arith;
        shape_is = enqueued_shape k rowed r ∙ rowed_shape (young.rows r.call.node);
      }
    where
      rowed_each : (u : ℕ) (o : Option Row) → for_each u (requests (with_a_row (forgotten s r.call.node (r.call.incarnation - 1)) r.call o)) ≡ for_each u (requests (forgotten s r.call.node (r.call.incarnation - 1)))
      rowed_each u None = refl
      rowed_each u (Some row) = refl

      rowed_shape : (o : Option Row) → (with_a_row (forgotten s r.call.node (r.call.incarnation - 1)) r.call o).shape ≡ s.shape
      rowed_shape None = refl
      rowed_shape (Some row) = refl

  abbrev Comes : Message → Option Change → Type 0
  Comes m o = IfSome o (Brings k s m)

  if_brings : (m : Message) (b : Bool) (c : Change) → (b ≡ true → Brings k s m c) → Comes m (if b then Some c else None)
  if_brings m true c each = each refl
  if_brings m false c each = tt

  mapped_brings : (m : Message) (f : Mode → Change) (o : Option Mode) → ((mode : Mode) → o ≡ Some mode → Brings k s m (f mode)) → Comes m (option_map f o)
  mapped_brings m f None each = tt
  mapped_brings m f (Some mode) each = each mode refl

  -- fewer requests are there, and they cost no more
  taken_brings : (file number : ℕ) (call : CallId) → IsAmong k call.node → Fits s (Taken file number call) → Comes (Taken file number call) (taken s number call (row_of_host s (host_of_call call)))
  taken_brings file number call within fits = by (row_of_host s (host_of_call call)) refl
    where
      by : (o : Option Row) → row_of_host s (host_of_call call) ≡ o → Comes (Taken file number call) (taken s number call o)
      by None there = tt
      by (Some row) there = if_brings (Taken file number call) (is_grant number row.outstanding) (ended call next, []) (λ is. record {
        costs_are = (let less = answered_costs k s call.node within row found row.token (filter stays s.active) s.waiting (passing_each (most_of k) stays s.active)
            (λ told. passing_cost k s next stays s.active (all_of (λ (r : TokenRequest). stays r ≡ true → cost_of k next r ≤ cost_of k s r) (each is) s.active)) in omega arith);
        requests_are = λ u.
            let fewer = passing_each u stays s.active in
            let old = each_both u s.active (s.queue ++ s.waiting) in
            let new = each_both u (filter stays s.active) (s.queue ++ s.waiting) in
            omega arith;
        shape_is = refl;
      })
        where
          next : ServerState
          next = acknowledged s call.node row row.token

          stays : TokenRequest → Bool
          stays r = not (is_of_call call r)

          found : s.rows call.node ≡ Some row
          found = (row_found call.incarnation (s.rows call.node) row there).0

          each : is_grant number row.outstanding ≡ true → (r : TokenRequest) → stays r ≡ true → cost_of k next r ≤ cost_of k s r
          each is r other =
              answered_one k s call.node within row found row.token r (λ h. h)
              (λ h for. both_ways (revokes_for r row.outstanding) (grant_alone number r row.outstanding is) for)
              (λ for. both_ways (is_of_call call r) (not-true (is_of_call call r) other) (fits row there is r for))

  conflict_brings : (file number : ℕ) (holder : Host) (call : CallId) (lock : LockInfo) → IsAmong k holder.node → Fits s (Conflict file number holder call lock) → Comes (Conflict file number holder call lock) (in_conflict s number holder call lock (row_of_host s holder))
  conflict_brings file number holder call lock within fits = by (row_of_host s holder) refl
    where
      by : (o : Option Row) → row_of_host s holder ≡ o → Comes (Conflict file number holder call lock) (in_conflict s number holder call lock o)
      by None there = tt
      by (Some row) there = mapped_brings (Conflict file number holder call lock) _ (revoked_mode number row.outstanding) (λ mode is. record {
        costs_are = (let less = answered_costs k s holder.node within row found row.token (filter stays s.active) (s.waiting ++ put_off (request_of call s.active)) (passing_each (most_of k) stays s.active)
            (λ told. passing_cost k s next stays s.active (all_of (λ (r : TokenRequest). stays r ≡ true → cost_of k next r ≤ cost_of k s r) (each mode is) s.active)) in omega arith);
        requests_are = λ u.
            let fewer = put_off_each u call s.active in
            let old = each_both u s.active (s.queue ++ s.waiting) in
            let older = each_both u s.queue s.waiting in
            let new = each_both u (filter stays s.active) (s.queue ++ (s.waiting ++ put_off (request_of call s.active))) in
            let newer = each_both u s.queue (s.waiting ++ put_off (request_of call s.active)) in
            let newest = each_both u s.waiting (put_off (request_of call s.active)) in
            omega arith;
        shape_is = refl;
      })
        where
          next : ServerState
          next = acknowledged s holder.node row row.token

          stays : TokenRequest → Bool
          stays r = not (is_of_call call r)

          found : s.rows holder.node ≡ Some row
          found = (row_found holder.incarnation (s.rows holder.node) row there).0

          each : (mode : Mode) → revoked_mode number row.outstanding ≡ Some mode → (r : TokenRequest) → stays r ≡ true → cost_of k next r ≤ cost_of k s r
          each mode is r other =
              answered_one k s holder.node within row found row.token r (λ h. h)
              (λ h for. both_ways (is_of_call call r) (not-true (is_of_call call r) other) (fits row mode there is r for))
              (λ for. both_ways (grants_for r row.outstanding) (revoke_alone number mode r row.outstanding is) for)

  -- the requests stay
  released_brings : (file number : ℕ) (holder : Host) (call : CallId) (span : Range) → IsAmong k holder.node → Fits s (Released file number holder call span) → Comes (Released file number holder call span) (released s number holder span (row_of_host s holder))
  released_brings file number holder call span within fits = by (row_of_host s holder) refl
    where
      by : (o : Option Row) → row_of_host s holder ≡ o → Comes (Released file number holder call span) (released s number holder span o)
      by None there = tt
      by (Some row) there = mapped_brings (Released file number holder call span) _ (revoked_mode number row.outstanding) (λ mode is. record {
        costs_are = (let less = answered_costs k s holder.node within row found (lowered row.token span mode) s.active s.waiting (omega arith)
            (λ told. all_pass_cost k s (acknowledged s holder.node row (lowered row.token span mode)) s.active (each mode is)) in omega arith);
        requests_are = λ u. omega arith;
        shape_is = refl;
      })
        where
          found : s.rows holder.node ≡ Some row
          found = (row_found holder.incarnation (s.rows holder.node) row there).0

          each : (mode : Mode) → revoked_mode number row.outstanding ≡ Some mode → (r : TokenRequest) → cost_of k (acknowledged s holder.node row (lowered row.token span mode)) r ≤ cost_of k s r
          each mode is r =
              answered_one k s holder.node within row found (lowered row.token span mode) r
              (λ h. row_after-fewer (Relieved span mode) (Some row) r.wanted.required r.mode refl h)
              (λ h for. both_ways (conflicts (lowered row.token span mode) r.wanted.required r.mode) (fits row mode there is r for) h)
              (λ for. both_ways (grants_for r row.outstanding) (revoke_alone number mode r row.outstanding is) for)

  -- before it the server served nothing
  heard_brings : (file number : ℕ) (holder : Host) (runs : List TokenRun) → IsAmong k holder.node → is_within s.shape.nodes holder.node ≡ true → Comes (Report file number holder runs) (heard s number holder runs (row_of_host s holder))
  heard_brings file number holder runs few within = by (row_of_host s holder) refl
    where
      by : (o : Option Row) → row_of_host s holder ≡ o → Comes (Report file number holder runs) (heard s number holder runs o)
      by None there = tt
      by (Some row) there = if_brings (Report file number holder runs) (asks_token number row.outstanding) (acknowledged s holder.node row (reported runs), []) (λ is. record {
        costs_are = (let less = answered_costs k s holder.node few row found (reported runs) s.active s.waiting (omega arith) (λ told. absurd (both_ways (awaits s) told (waits is))) in omega arith);
        requests_are = λ u. omega arith;
        shape_is = refl;
      })
        where
          found : s.rows holder.node ≡ Some row
          found = (row_found holder.incarnation (s.rows holder.node) row there).0

          waits : asks_token number row.outstanding ≡ true → awaits s ≡ true
          waits is =
              let parts = and_parts (nat_le 1 holder.node) (nat_le holder.node s.shape.nodes) within in
              let low = leb-true 1 holder.node parts.0 in
              let high = leb-true holder.node s.shape.nodes parts.1 in
              some_passes-from (λ n. is_awaited (s.rows n)) 1 s.shape.nodes holder.node low (omega arith) (ap is_awaited found ∙ asks_hello number row.outstanding is)

  freed_brings : (file : ℕ) (holder : Host) (o : Option Row) → Brings k s (Freed file holder) (freed s o, [])
  freed_brings file holder None = record { costs_are = omega arith; requests_are = λ u. omega arith; shape_is = refl }
  freed_brings file holder (Some row) = record { costs_are = requeued_costs k s; requests_are = λ u. (let same = requeued_each u s in omega arith); shape_is = refl }

  pub delivered_brings : (m : Message) → IsAmong k (host_of m).node → is_within s.shape.nodes (host_of m).node ≡ true → Fits s m → Comes m (delivered s m)
  delivered_brings (Request file call blocking mode wanted) few within fits = asked_brings (record { call = call; blocking = blocking; mode = mode; wanted = wanted }) (Request file call blocking mode wanted) few refl (λ u. refl)
  delivered_brings (Taken file number call) few within fits = taken_brings file number call few fits
  delivered_brings (Released file number holder call span) few within fits = released_brings file number holder call span few fits
  delivered_brings (Conflict file number holder call lock) few within fits = conflict_brings file number holder call lock few fits
  delivered_brings (Freed file holder) few within fits = freed_brings file holder (row_of_host s holder)
  delivered_brings (Report file number holder runs) few within fits = heard_brings file number holder runs few within
  delivered_brings (Grant file number call mode span) few within fits = tt
  delivered_brings (Revoke file number holder call mode wanted) few within fits = tt
  delivered_brings (Deny file call holder number lock) few within fits = tt
  delivered_brings (Hello file number holder) few within fits = tt
