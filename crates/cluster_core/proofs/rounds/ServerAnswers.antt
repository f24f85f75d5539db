-- An answer that a server is given ends its command: the command is outstanding no longer.
use Rattle.std.specs.Prelude.{nat_le, not, ◌&&◌, option_map, if◌then◌else◌}
use Rattle.std.proofs.Common.{◌≡◌, ℕ, ◌<◌, Bool, true, false, inl, inr, refl, sym, ◌∙◌, ap, subst, arith, [], Option, Some, None, Ok, Err}
use Rattle.std.proofs.lemmas.Bool.{eq-eqb, leb-true}
use Rattle.std.proofs.lemmas.Option.{none-some}
use Rattle.model.specs.declared.call.CallId.{CallId}
use Rattle.model.specs.declared.host.Host.{Host}
use Rattle.model.specs.declared.mode.Mode.{Mode}
use Rattle.model.specs.rule.Owners.{host_of_call}
use Rattle.token_set.specs.rule.Tokens.{Token, lowered}
use Rattle.messages.specs.rule.TokenRuns.{Wants}
use Rattle.messages.specs.rule.Messages.{addressee, host_of, is_within, reported}
use Rattle.messages.specs.declared.actor.Actor.{Actor}
use Rattle.messages.specs.declared.actor.Actor.TheVariants.{Server as AServer}
use Rattle.messages.specs.declared.message.Message.{Message}
use Rattle.messages.specs.declared.message.Message.TheVariants.{Grant, Revoke, Taken, Released, Conflict, Deny, Hello, Report}
use Rattle.messages.specs.declared.event.Event.TheVariants.{Deliver}
use Rattle.messages.specs.declared.entry.Entry.{Entry}
use Rattle.messages.specs.declared.outcome.Outcome.{Outcome}
use Rattle.messages.specs.declared.refusal.StepError.TheVariants.{Stranger}
use Rattle.token_server.specs.declared.event.ServerEvent.TheVariants as server
use Rattle.token_server.specs.rule.Rows.{Row, row_of_incarnation, is_grant, revoked_mode, asks_token}
use Rattle.token_server.specs.rule.State.{ServerState}
use Rattle.token_server.specs.rule.Server.{Change, request_of, acknowledged, ended, postponed, denial, row_of_host, taken, released, in_conflict, heard, delivered, is_server, then_serve, server_rule}
use Rattle.cluster_core.specs.rule.World.{WorldState}
use Rattle.cluster_core.specs.rule.Next.{delivered as routed, next}
use Rattle.cluster_core.specs.rule.Answers.{IsAnswerTo}
use Rattle.cluster_core.specs.rule.Rounds.{IsOutstanding}
use Rattle.cluster_core.specs.rule.Serving.{GoesOn, RowGoesOn}
use Rattle.cluster_core.proofs.common.Choices.{at_number}
use Rattle.cluster_core.proofs.steps.Steps.{next_taken, server_step}
use Rattle.cluster_core.proofs.tokens.Present.{Present}
use Rattle.cluster_core.proofs.tokens.Talks.{IsCommandTo, IsHostOf, same_command}
use Rattle.cluster_core.proofs.rounds.RowsOn.{stays, sent-on}
use Rattle.cluster_core.proofs.rounds.Outstanding.{some-row}

-- the answer to a command goes to the server of its file, and is of the command's host
pub answer_addressee : (file n i k : ℕ) (m a : Message) → IsCommandTo file n i k m → IsAnswerTo m a → addressee a ≡ AServer file
answer_addressee file n i k (Grant f number call mode span) (Taken g l c) to of = ap (λ (x : ℕ). AServer x) (of.0 ∙ to.0)
answer_addressee file n i k (Revoke f number holder call mode wanted) (Released g l h c span) to of = ap (λ (x : ℕ). AServer x) (of.0 ∙ to.0)
answer_addressee file n i k (Revoke f number holder call mode wanted) (Conflict g l h c lock) to of = ap (λ (x : ℕ). AServer x) (of.0 ∙ to.0)
answer_addressee file n i k (Hello f number holder) (Report g l h runs) to of = ap (λ (x : ℕ). AServer x) (of.0 ∙ to.0)
answer_addressee file n i k m a to of = absurd of

answer_host_of : (file n i k : ℕ) (m a : Message) → IsCommandTo file n i k m → IsAnswerTo m a → IsHostOf n i (host_of a)
answer_host_of file n i k (Grant f number call mode span) (Taken g l c) to of = (ap (λ (x : CallId). x.node) of.2 ∙ to.2, ap (λ (x : CallId). x.incarnation) of.2 ∙ to.3)
answer_host_of file n i k (Revoke f number holder call mode wanted) (Released g l h c span) to of = (ap (λ (x : Host). x.node) of.2 ∙ to.2, ap (λ (x : Host). x.incarnation) of.2 ∙ to.3)
answer_host_of file n i k (Revoke f number holder call mode wanted) (Conflict g l h c lock) to of = (ap (λ (x : Host). x.node) of.2 ∙ to.2, ap (λ (x : Host). x.incarnation) of.2 ∙ to.3)
answer_host_of file n i k (Hello f number holder) (Report g l h runs) to of = (ap (λ (x : Host). x.node) of.2 ∙ to.2, ap (λ (x : Host). x.incarnation) of.2 ∙ to.3)
answer_host_of file n i k m a to of = absurd of

-- the row with that token, and no outstanding command
abbrev cleared : Row → Token → Row
cleared row token = record row { token = token; outstanding = None }

module _ (t : ServerState) (file n : ℕ) (row : Row) (m : Message) (there : t.rows n ≡ Some row) (waits : row.outstanding ≡ Some m) where
  -- the change leaves the node's row without an outstanding command
  abbrev Clears : Option Change → Type 0
  Clears o = (changed : Change) × (token : Token) × (o ≡ Some changed) × (changed.0.rows n ≡ Some (cleared row token))

  clears_one : (changed : Change) (token : Token) → changed.0.rows n ≡ Some (cleared row token) → Clears (Some changed)
  clears_one changed token rows = (changed, token, refl, rows)

  row_here : (h : Host) → h.node ≡ n → h.incarnation ≡ row.incarnation → row_of_host t h ≡ Some row
  row_here h at incarnation =
      ap (λ (k : ℕ). row_of_incarnation h.incarnation (t.rows k)) at
      ∙ (ap (λ (o : Option Row). row_of_incarnation h.incarnation o) there
      ∙ ap (λ (b : Bool). if b then Some row else None) (eq-eqb row.incarnation h.incarnation (sym incarnation)))

  put_here : (k : ℕ) (token : Token) → k ≡ n → (acknowledged t k row token).rows n ≡ Some (cleared row token)
  put_here k token at = at_number n k (λ b. (if b then Some (cleared row token) else t.rows n) ≡ Some (cleared row token)) (λ same. refl) (λ other. absurd (other (sym at)))

  waits_as : (x : Message) → x ≡ m → row.outstanding ≡ Some x
  waits_as x same = waits ∙ ap (λ (c : Message). Some c) (sym same)

  -- the row's command is the Revoke of that mode
  revoked : (f k : ℕ) (holder : Host) (call : CallId) (mode : Mode) (wanted : Wants) (l : ℕ) → Revoke f k holder call mode wanted ≡ m → l ≡ k → revoked_mode l row.outstanding ≡ Some mode
  revoked f k holder call mode wanted l same of =
      ap (revoked_mode l) (waits_as (Revoke f k holder call mode wanted) same) ∙ ap (λ (b : Bool). if b then Some mode else None) (eq-eqb k l (sym of))

  clears : (x a : Message) → x ≡ m → IsCommandTo file n row.incarnation row.number x → IsAnswerTo x a → Clears (delivered t a)
  clears (Grant f k call mode span) (Taken g l c) same to of =
      let h = host_of_call c in
      let node : c.node ≡ n = ap (λ (x : CallId). x.node) of.2 ∙ to.2 in
      let found = row_here h node (ap (λ (x : CallId). x.incarnation) of.2 ∙ to.3) in
      let fits : is_grant l row.outstanding ≡ true = ap (is_grant l) (waits_as (Grant f k call mode span) same) ∙ eq-eqb k l (sym of.1) in
      let changed : Change = (ended c (acknowledged t c.node row row.token), []) in
      subst (λ (o : Option Row). Clears (taken t l c o)) (sym found)
      (subst (λ (b : Bool). Clears (if b then Some changed else None)) (sym fits) (clears_one changed row.token (put_here c.node row.token node)))
  clears (Revoke f k holder call mode wanted) (Released g l h c span) same to of =
      let node : h.node ≡ n = ap (λ (x : Host). x.node) of.2 ∙ to.2 in
      let found = row_here h node (ap (λ (x : Host). x.incarnation) of.2 ∙ to.3) in
      let changed : Mode → Change = λ mode. (acknowledged t h.node row (lowered row.token span mode), []) in
      subst (λ (o : Option Row). Clears (released t l h span o)) (sym found)
      (subst (λ (o : Option Mode). Clears (option_map changed o)) (sym (revoked f k holder call mode wanted l same of.1)) (clears_one (changed mode) (lowered row.token span mode) (put_here h.node (lowered row.token span mode) node)))
  clears (Revoke f k holder call mode wanted) (Conflict g l h c lock) same to of =
      let node : h.node ≡ n = ap (λ (x : Host). x.node) of.2 ∙ to.2 in
      let found = row_here h node (ap (λ (x : Host). x.incarnation) of.2 ∙ to.3) in
      let changed : Mode → Change = λ mode. (postponed c (acknowledged t h.node row row.token), denial (Deny t.file c h l lock) (request_of c t.active)) in
      subst (λ (o : Option Row). Clears (in_conflict t l h c lock o)) (sym found)
      (subst (λ (o : Option Mode). Clears (option_map changed o)) (sym (revoked f k holder call mode wanted l same of.1)) (clears_one (changed mode) row.token (put_here h.node row.token node)))
  clears (Hello f k holder) (Report g l h runs) same to of =
      let node : h.node ≡ n = ap (λ (x : Host). x.node) of.2 ∙ to.2 in
      let found = row_here h node (ap (λ (x : Host). x.incarnation) of.2 ∙ to.3) in
      let fits : asks_token l row.outstanding ≡ true = ap (asks_token l) (waits_as (Hello f k holder) same) ∙ eq-eqb k l (sym of.1) in
      let changed : Change = (acknowledged t h.node row (reported runs), []) in
      subst (λ (o : Option Row). Clears (heard t l h runs o)) (sym found)
      (subst (λ (b : Bool). Clears (if b then Some changed else None)) (sym fits) (clears_one changed (reported runs) (put_here h.node (reported runs) node)))
  clears x a same to of = absurd of

  -- the row goes on as one without an outstanding command
  abbrev Ended : ServerState → Type 0
  Ended new = (token : Token) × RowGoesOn (Some (cleared row token)) (new.rows n)

  ends : (a : Message) (new : ServerState) (out : Outcome) → IsCommandTo file n row.incarnation row.number m → IsAnswerTo m a → t.dead (host_of a).node < (host_of a).incarnation → server_rule t (server.Deliver a) ≡ Ok (new, out) → Ended new
  ends a new out to of lives is = by (not (is_server t.file (addressee a) && is_within t.shape.nodes (host_of a).node)) (nat_le (host_of a).incarnation (t.dead (host_of a).node)) refl is
    where
      done : Clears (delivered t a)
      done = clears m a refl to of

      by : (stranger dead : Bool) → nat_le (host_of a).incarnation (t.dead (host_of a).node) ≡ dead → then_serve t (if stranger then Err Stranger else (if dead then Ok None else Ok (delivered t a))) ≡ Ok (new, out) → Ended new
      by true dead known h = absurd (cc)
      by false true known h = absurd (let old = leb-true (host_of a).incarnation (t.dead (host_of a).node) known in omega arith)
      by false false known h =
          let changed = done.0 in
          let serves : then_serve t (Ok (Some changed)) ≡ Ok (new, out) = subst (λ (o : Option Change). then_serve t (Ok o) ≡ Ok (new, out)) done.2 h in
          let on : RowGoesOn (changed.0.rows n) (new.rows n) = sent-on changed.0 changed.0 changed.1 new out (λ k. stays (changed.0.rows k)) serves n in
          (done.1, subst (λ (o : Option Row). RowGoesOn o (new.rows n)) done.3 on)

module _ (w : WorldState) (p : Present w) (file n : ℕ) (m a : Message) (u : IsOutstanding w file n m) (of : IsAnswerTo m a) where
  abbrev t : ServerState
  t = w.servers file

  here : (row : Row) × (t.rows n ≡ Some row) × (row.outstanding ≡ Some m)
  here = some-row (t.rows n) m u.outstanding

  to : IsCommandTo file n here.0.incarnation here.0.number m
  to = (((p.serves file).talks n).waits here.0 m here.1 here.2).1

  -- an older incarnation than the row's is dead
  lives : t.dead (host_of a).node < (host_of a).incarnation
  lives =
      let host = answer_host_of file n here.0.incarnation here.0.number m a to of in
      let aged = ((p.serves file).talks n).aged here.0 here.1 in
      let dead : t.dead (host_of a).node ≡ t.dead n = ap t.dead host.0 in
      let incarnation : (host_of a).incarnation ≡ here.0.incarnation = host.1 in
      omega arith

  abbrev Goes : WorldState × Entry → Type 0
  Goes q = Ended t file n here.0 m here.1 here.2 (q.0.servers file)

  answered : (q : WorldState × Entry) → next w (Deliver a) ≡ Ok q → Goes q
  answered q h =
      let step = (next_taken w (Deliver a) q h).1 in
      let routed_is : routed w a (AServer file) ≡ Ok q = subst (λ (x : Actor). routed w a x ≡ Ok q) (answer_addressee file n here.0.incarnation here.0.number m a to of) step in
      server_step w Goes (Deliver a) file (server_rule t (server.Deliver a)) q
      (λ done is. at_number file file (λ b. Ended t file n here.0 m here.1 here.2 (if b then done.0 else t)) (λ same. ends t file n here.0 m here.1 here.2 a done.0 done.1 to of lives is) (λ other. absurd (other refl))) routed_is

  -- after the server took an answer to it the command is not outstanding
  pub answer_ends : (q : WorldState × Entry) → Present q.0 → next w (Deliver a) ≡ Ok q → IsOutstanding q.0 file n m → ⊥
  answer_ends q after h still =
      let ended = answered q h in
      let later = some-row ((q.0.servers file).rows n) m still.outstanding in
      let again = (((after.serves file).talks n).waits later.0 m later.1 later.2).1 in
      let same = same_command file n here.0.incarnation here.0.number file n later.0.incarnation later.0.number m to again in
      let on : RowGoesOn (Some (cleared here.0 ended.0)) (Some later.0) = subst (λ (o : Option Row). RowGoesOn (Some (cleared here.0 ended.0)) o) later.1 ended.1 in
      let g : GoesOn (cleared here.0 ended.0) later.0 = on (sym same.incarnation_is) in
      elim (g.command m later.2) [
        | inl old ↦ none-some m old.0
        | inr above ↦ let number = same.number_is in absurd (omega arith)
      ]
