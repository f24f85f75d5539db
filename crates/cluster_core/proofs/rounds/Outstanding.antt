-- A command that was answered is never outstanding again.
use Rattle.std.specs.Prelude.{◌≡◌, ℕ, true, [], ◌∷◌, ◌++◌, Option, Some, None, Ok}
use Rattle.std.proofs.Common.{refl, sym, ap, subst, ◌∙◌, inl, inr, arith}
use Rattle.std.proofs.lemmas.Option.{none-some}
use Rattle.std.proofs.lemmas.List.Elements.{All-head, All-tail}
use Rattle.messages.specs.rule.Messages.{is_among}
use Rattle.messages.specs.declared.message.Message.{Message}
use Rattle.messages.specs.declared.entry.Entry.{Entry}
use Rattle.token_server.specs.rule.Rows.{Row, outstanding_of}
use Rattle.cluster_core.specs.rule.Serving.{GoesOn, RowGoesOn}
use Rattle.cluster_core.proofs.rounds.RowsOn.{stays, each_row-goes_on}
use Rattle.cluster_core.specs.rule.World.{WorldState, first_world}
use Rattle.cluster_core.specs.rule.Next.{next}
use Rattle.cluster_core.specs.rule.Rounds.{IsQuiet, IsOutstanding, AnsweredStaysAnswered}
use Rattle.cluster_core.proofs.tokens.Talks.{IsCommandTo, command_host, counted_live}
use Rattle.cluster_core.proofs.tokens.Present.{Present}
use Rattle.cluster_core.proofs.runs.Runs.{good_run}
use Rattle.cluster_core.proofs.runs.JournalRuns.{leads_push}
use Rattle.cluster_core.proofs.rounds.Sent.{sent-stays}
use Rattle.cluster_core.proofs.rounds.Quiet.{quiet-members, quiet-server}

-- a row that has an outstanding command
pub some-row : (o : Option Row) (m : Message) → outstanding_of o ≡ Some m → (row : Row) × (o ≡ Some row) × (row.outstanding ≡ Some m)
some-row None m h = absurd (none-some m h)
some-row (Some row) m h = (row, refl, h)

-- what is outstanding after a quiet step, and was sent before it, was outstanding before it
one-answered : (w : WorldState) (e : Entry) (v : WorldState) (file n : ℕ) (m : Message) → Present w → Present v → next w e.event ≡ Ok (v, e) → IsQuiet e.event → (v.nodes n).incarnation ≡ (w.nodes n).incarnation → is_among w.sent m ≡ true → IsOutstanding v file n m → IsOutstanding w file n m
one-answered w e v file n m pw pv step quiet incarnation sent u =
    let after = some-row ((v.servers file).rows n) m u.outstanding in
    let q = after.0 in
    let to : IsCommandTo file n q.incarnation q.number m = (((pv.serves file).talks n).waits q m after.1 after.2).1 in
    let live : q.incarnation ≡ (w.nodes n).incarnation = sym (command_host file n q.incarnation q.number m to).1 ∙ (u.live ∙ incarnation) in
    let c = counted_live _ file n (w.nodes n).incarnation _ ((w.servers file).rows n) ((w.servers file).dead n) _ ((pw.serves file).talks n) q.number m sent (subst (λ (i : ℕ). IsCommandTo file n i q.number m) live to) in
    let on : RowGoesOn (Some c.counting) (Some q) = subst (λ (o : Option Row). RowGoesOn o (Some q)) c.there (subst (λ (o : Option Row). RowGoesOn ((w.servers file).rows n) o) after.1 (quiet-server file (λ s t. RowGoesOn (s.rows n) (t.rows n)) (λ s. stays (s.rows n)) (λ s event new out made. each_row-goes_on s event new out n made) w e v step quiet)) in
    let g : GoesOn c.counting q = on (live ∙ sym c.of) in
    elim (g.command m after.2) [
      | inl same ↦ record { outstanding = ap outstanding_of c.there ∙ same.0; live = u.live ∙ incarnation }
      | inr above ↦ let up = c.up_to in absurd (omega arith)
    ]

pub answered-stays : AnsweredStaysAnswered
answered-stays shape past [] w v file n m is before leads quiet sent u = subst (λ (x : WorldState). IsOutstanding x file n m) (sym leads) u
answered-stays shape past (e ∷ es) w v file n m is before leads quiet sent u =
    let mid = leads.0 in
    let now : IsQuiet e.event = All-head (λ (x : Entry). IsQuiet x.event) e es quiet in
    let later = leads_push (first_world shape) w mid past e before leads.1 in
    let pw = (good_run shape past w is before).1 in
    let pm = (good_run shape (past ++ e ∷ []) mid is later).1 in
    let rest = answered-stays shape (past ++ e ∷ []) es mid v file n m is later leads.2 (All-tail (λ (x : Entry). IsQuiet x.event) e es quiet) (sent-stays w e.event (mid, e) m leads.1 sent) u in
    one-answered w e mid file n m pw pm leads.1 now ((quiet-members w e mid leads.1 now).incarnation n) sent rest
