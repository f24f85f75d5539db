-- After a run an answer that counts at a server names the call of the command that it ends, and a released span has what the Revoke required.
use Rattle.std.specs.Prelude.{◌==◌, ◌&&◌, nat_le, if◌then◌else◌}
use Rattle.std.proofs.Common.{◌≡◌, ℕ, ◌≤◌, Bool, true, false, refl, sym, ◌∙◌, ap, subst, arith, List, Option, Some, None}
use Rattle.std.proofs.lemmas.Bool.{and_parts, and_from, eqb-true, le-leb}
use Rattle.std.proofs.lemmas.Option.{none-some, same_Some}
use Rattle.intervals.specs.rule.Bytes.{Range, is_in}
use Rattle.model.specs.declared.call.CallId.{CallId}
use Rattle.model.specs.declared.host.Host.{Host}
use Rattle.model.specs.declared.level.Level.{Level}
use Rattle.model.specs.declared.level.Level.TheVariants.{Shared, Exclusive}
use Rattle.model.specs.declared.lock_info.LockInfo.{LockInfo}
use Rattle.model.specs.declared.mode.Mode.{Mode}
use Rattle.model.specs.declared.mode.Mode.TheVariants.{Read, Write}
use Rattle.model.specs.rule.Owners.{same_mode}
use Rattle.token_set.specs.rule.Tokens.{Token, conflicts, level_conflicts, lowered_level, lowered}
use Rattle.token_set.proofs.TokenLaws.{conflicts-none}
use Rattle.messages.specs.rule.Shapes.{ShapeFields, IsShape}
use Rattle.messages.specs.rule.TokenRuns.{Wants}
use Rattle.messages.specs.rule.Messages.{file_of, same_range}
use Rattle.messages.specs.declared.message.Message.{Message}
use Rattle.messages.specs.declared.message.Message.TheVariants.{Request, Grant, Revoke, Taken, Released, Conflict, Deny, Freed, Hello, Report}
use Rattle.messages.specs.declared.entry.Entry.{Entry}
use Rattle.token_server.specs.rule.Requests.{is_of_call}
use Rattle.token_server.specs.rule.Rows.{Row, revoked_mode}
use Rattle.token_server.specs.rule.State.{ServerState}
use Rattle.cluster_core.specs.rule.World.{WorldState, first_world}
use Rattle.cluster_core.specs.rule.Runs.{Leads}
use Rattle.cluster_core.proofs.rounds.Kinds.{every_answer}
use Rattle.cluster_core.proofs.runs.Runs.{good_run}
use Rattle.cluster_core.proofs.steps.ServerRows.{row_found, awaits_taken, revokes}
use Rattle.cluster_core.proofs.tokens.Present.{Was, Present}
use Rattle.cluster_core.proofs.tokens.Talks.{IsCommandTo}
use Rattle.progress.proofs.Brought.{Fits}
use Rattle.progress.proofs.Costs.{revokes_for, grants_for}
use Rattle.progress.proofs.Released.{every_release}

-- what is lowered for a mode is in the way of it no longer
lowered_free : (t : Token) (span s : Range) (mode : Mode) → span.lo ≤ s.lo → s.hi ≤ span.hi → conflicts (lowered t span mode) s mode ≡ false
lowered_free t span s mode starts ends = conflicts-none (lowered t span mode) s mode (λ b above below h. free (t b) mode (sym (at b above below) ∙ h))
  where
    at : (b : ℕ) → s.lo ≤ b → b ≤ s.hi → level_conflicts (lowered t span mode b) mode ≡ level_conflicts (lowered_level (t b) mode) mode
    at b above below =
        let here : is_in span b ≡ true = and_from (nat_le span.lo b) (nat_le b span.hi) (le-leb span.lo b (omega arith)) (le-leb b span.hi (omega arith)) in
        ap (λ (i : Bool). level_conflicts (if i then lowered_level (t b) mode else t b) mode) here

    free : (l : Option Level) (m : Mode) → level_conflicts (lowered_level l m) m ≡ true → ⊥
    free None Read h = absurd (cc)
    free (Some Shared) Read h = absurd (cc)
    free (Some Exclusive) Read h = absurd (cc)
    free l Write h = absurd (cc)

mode_exact : (a b : Mode) → same_mode a b ≡ true → a ≡ b
mode_exact Read Read h = refl
mode_exact Write Write h = refl
mode_exact Read Write h = absurd (cc)
mode_exact Write Read h = absurd (cc)

-- the mode that a Revoke's number tells is the Revoke's
revoked_as : (k : ℕ) (o : Option Message) (file l : ℕ) (holder : Host) (call : CallId) (mode own : Mode) (wanted : Wants) → o ≡ Some (Revoke file l holder call mode wanted) → revoked_mode k o ≡ Some own → own ≡ mode
revoked_as k o file l holder call mode own wanted is h = by (l == k) (ap (revoked_mode k) (sym is) ∙ h)
  where
    by : (b : Bool) → (if b then Some mode else None) ≡ Some own → own ≡ mode
    by true same = sym (same_Some mode own same)
    by false none = absurd (none-some own none)

module _ (shape : ShapeFields) (is : IsShape shape) (past : List Entry) (w : WorldState) (before : Leads (first_world shape) past w) where
  present : Present w
  present = (good_run shape past w is before).1

  module _ (file : ℕ) where
    abbrev s : ServerState
    s = w.servers file

    -- a command of the number to the row's host that was sent is the one that is outstanding
    same_command : (n i k : ℕ) (row : Row) (command m : Message) → s.rows n ≡ Some row → row.incarnation ≡ i → row.outstanding ≡ Some command → ((f j h l : ℕ) → IsCommandTo f j h l command → k ≡ l) → Was w m → IsCommandTo file n i k m → row.outstanding ≡ Some m
    same_command n i k row command m there of waiting numbered sent to =
        let talk = (present.serves file).talks n in
        let waits = talk.waits row command there waiting in
        let number : k ≡ row.number = numbered file n row.incarnation row.number waits.1 in
        let to_row : IsCommandTo file n row.incarnation row.number m = subst (λ (j : ℕ). IsCommandTo file n j row.number m) (sym of) (subst (λ (j : ℕ). IsCommandTo file n i j m) number to) in
        let same : command ≡ m = talk.one_number row.incarnation row.number command m waits.0 sent waits.1 to_row in
        waiting ∙ ap (λ (x : Message). Some x) same

    fits_taken : (number : ℕ) (call : CallId) → Was w (Taken file number call) → Fits s (Taken file number call)
    fits_taken number call sent row there grant r for =
        let found = row_found call.incarnation (s.rows call.node) row there in
        let h = every_answer shape past w (Taken file number call) is before sent in
        let ends = awaits_taken number row.outstanding row.token (Taken file number call) grant in
        let same = same_command call.node call.incarnation number row ends.command (Grant file number call h.0 h.1) found.0 found.1 ends.waiting ends.number h.2 (refl, refl, refl, refl) in
        ap (grants_for r) (sym same) ∙ for

    fits_conflict : (number : ℕ) (holder : Host) (call : CallId) (lock : LockInfo) → Was w (Conflict file number holder call lock) → Fits s (Conflict file number holder call lock)
    fits_conflict number holder call lock sent row mode there revoke r for =
        let found = row_found holder.incarnation (s.rows holder.node) row there in
        let h = every_answer shape past w (Conflict file number holder call lock) is before sent in
        let ends = revokes number mode row.outstanding revoke in
        let same = same_command holder.node holder.incarnation number row ends.command (Revoke file number holder call h.0 h.1) found.0 found.1 ends.waiting ends.number h.2 (refl, refl, refl, refl) in
        (and_parts (is_of_call call r) (same_mode h.0 r.mode && same_range h.1.required r.wanted.required) (ap (revokes_for r) (sym same) ∙ for)).0

    fits_released : (number : ℕ) (holder : Host) (call : CallId) (span : Range) → Was w (Released file number holder call span) → Fits s (Released file number holder call span)
    fits_released number holder call span sent row mode there revoke r for =
        let found = row_found holder.incarnation (s.rows holder.node) row there in
        let h = every_release shape past w file number holder call span is before sent in
        let ended = revokes number mode row.outstanding revoke in
        let same = same_command holder.node holder.incarnation number row ended.command (Revoke file number holder call h.mode h.wanted) found.0 found.1 ended.waiting ended.number h.revoked (refl, refl, refl, refl) in
        let parts = and_parts (is_of_call call r) (same_mode h.mode r.mode && same_range h.wanted.required r.wanted.required) (ap (revokes_for r) (sym same) ∙ for) in
        let more = and_parts (same_mode h.mode r.mode) (same_range h.wanted.required r.wanted.required) parts.1 in
        let bytes = and_parts (h.wanted.required.lo == r.wanted.required.lo) (h.wanted.required.hi == r.wanted.required.hi) more.1 in
        let lo : h.wanted.required.lo ≡ r.wanted.required.lo = eqb-true h.wanted.required.lo r.wanted.required.lo bytes.0 in
        let hi : h.wanted.required.hi ≡ r.wanted.required.hi = eqb-true h.wanted.required.hi r.wanted.required.hi bytes.1 in
        let starts = h.starts in
        let ends = h.ends in
        let own : mode ≡ r.mode = revoked_as number row.outstanding file number holder call h.mode mode h.wanted same revoke ∙ mode_exact h.mode r.mode more.0 in
        subst (λ (m : Mode). conflicts (lowered row.token span m) r.wanted.required r.mode ≡ false) (sym own) (lowered_free row.token span r.wanted.required r.mode (omega arith) (omega arith))

    pub fits : (m : Message) → Was w m → file_of m ≡ file → Fits s m
    fits (Taken f number call) sent of = fits_taken number call (subst (λ (g : ℕ). Was w (Taken g number call)) of sent)
    fits (Released f number holder call span) sent of = fits_released number holder call span (subst (λ (g : ℕ). Was w (Released g number holder call span)) of sent)
    fits (Conflict f number holder call lock) sent of = fits_conflict number holder call lock (subst (λ (g : ℕ). Was w (Conflict g number holder call lock)) of sent)
    fits (Request f call blocking mode wanted) sent of = tt
    fits (Grant f number call mode span) sent of = tt
    fits (Revoke f number holder call mode wanted) sent of = tt
    fits (Deny f call holder number lock) sent of = tt
    fits (Freed f holder) sent of = tt
    fits (Hello f number holder) sent of = tt
    fits (Report f number holder runs) sent of = tt
