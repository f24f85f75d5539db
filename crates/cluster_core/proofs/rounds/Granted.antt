-- A call that leaves the line at its server in a round that answers none, since its grant was taken, is blocked by a lock of its own node.
use Rattle.std.specs.Prelude.{nat_le}
use Rattle.std.proofs.Common.{◌≡◌, ℕ, ◌≤◌, true, false, inl, inr, refl, sym, ◌∙◌, ap, subst, append_assoc, List, ◌∷◌, ◌++◌, Contains, is_some, Option, Some, Ok}
use Rattle.std.proofs.lemmas.Bool.{and_parts, both_ways, cases_Bool, leb-true}
use Rattle.std.proofs.lemmas.Option.{none-some}
use Rattle.std.proofs.lemmas.List.Elements.{All-contains}
use Rattle.intervals.specs.rule.Bytes.{Range}
use Rattle.model.specs.declared.call.CallId.{CallId}
use Rattle.model.specs.declared.mode.Mode.{Mode}
use Rattle.model.specs.declared.reply.Reply.{Reply}
use Rattle.model.specs.rule.Owners.{host_of_call}
use Rattle.messages.specs.rule.Shapes.{ShapeFields, IsShape}
use Rattle.messages.specs.rule.Messages.{addressee, is_among}
use Rattle.messages.specs.declared.message.Message.{Message}
use Rattle.messages.specs.declared.message.Message.TheVariants.{Grant, Taken}
use Rattle.messages.specs.declared.event.Event.TheVariants.{Deliver}
use Rattle.messages.specs.declared.entry.Entry.{Entry}
use Rattle.node_core.specs.declared.open_call.OpenCall.{OpenCall}
use Rattle.node_core.specs.rule.State.{open_call, id_of}
use Rattle.node_core.specs.rule.Commands.{in_epoch, granted}
use Rattle.token_server.specs.rule.Rows.{Row, outstanding_of, is_grant}
use Rattle.token_server.specs.rule.Server.{row_of_host}
use Rattle.token_server.proofs.CareLaws.{All-left}
use Rattle.cluster_core.specs.rule.World.{WorldState, first_world, has_node, is_alive}
use Rattle.cluster_core.specs.rule.Next.{has_actor, next}
use Rattle.cluster_core.specs.rule.Runs.{Leads}
use Rattle.cluster_core.specs.rule.Evidence.{IsAsked}
use Rattle.cluster_core.specs.rule.Rests.{IsBlockedHere}
use Rattle.cluster_core.specs.rule.Rounds.{IsQuiet, IsRound, AnswersNone, IsOutstanding, IsBlockedWait}
use Rattle.cluster_core.specs.rule.Serving.{IsAtRest}
use Rattle.cluster_core.proofs.history.Prefixes.{leads_one}
use Rattle.cluster_core.proofs.history.Witnesses.{IsAskedBy, asked_one}
use Rattle.cluster_core.proofs.history.Worlds.{Good}
use Rattle.cluster_core.proofs.steps.Steps.{next_taken}
use Rattle.cluster_core.proofs.tokens.Talks.{IsCommandTo, command_host}
use Rattle.cluster_core.proofs.tokens.Present.{Present}
use Rattle.cluster_core.proofs.runs.Runs.{good_run, every_grant}
use Rattle.cluster_core.proofs.steps.ServerRows.{row_found, awaits_taken}
use Rattle.cluster_core.proofs.rounds.FirstTaken.{FirstTaken, first_taken}
use Rattle.cluster_core.proofs.rounds.Kinds.{every_answer}
use Rattle.cluster_core.proofs.rounds.NodeTries.{grant-answers}
use Rattle.cluster_core.proofs.rounds.Outstanding.{answered-stays}
use Rattle.cluster_core.proofs.rounds.Leaving.{Leaving}
use Rattle.cluster_core.proofs.rounds.Request.{live, own_then, id_then}
use Rattle.cluster_core.proofs.rounds.RoundRests.{step_as}
use Rattle.cluster_core.proofs.rounds.Silent.{Silent, SilentCut, silent_parts, silent_head, silent_rests, open_then, there_then, here_after}
use Rattle.cluster_core.proofs.rounds.Stretches.{AllQuiet, members_stay, sent_through, FirstSender, first_sender}

-- a message that is delivered was sent
pub delivered_sent : (w : WorldState) (m : Message) (q : WorldState × Entry) → next w (Deliver m) ≡ Ok q → is_among w.sent m ≡ true
delivered_sent w m q h = (and_parts (has_actor w (addressee m)) (is_among w.sent m) (next_taken w (Deliver m) q h).0).1

-- no command that is outstanding in a round was sent before it, if the server was at rest then
pub new_command : (shape : ShapeFields) (past es : List Entry) (w y : WorldState) (file n : ℕ) (m : Message) → IsShape shape → Leads (first_world shape) past w → Leads w es y → AllQuiet es → has_node w n ≡ true → IsAtRest (w.servers file) → IsOutstanding y file n m → is_among w.sent m ≡ true → ⊥
new_command shape past es w y file n m is before leads quiet there rest out sent =
    let was = answered-stays shape past es w y file n m is before leads quiet sent out in
    let present = (good_run shape past w is before).1 in
    let bounds = and_parts (nat_le 1 n) (nat_le n w.shape.nodes) there in
    let most : n ≤ (w.servers file).shape.nodes = subst (λ (x : ShapeFields). n ≤ x.nodes) (sym (present.serves file).shape_is) (leb-true n w.shape.nodes bounds.1) in
    none-some m (sym (rest n (leb-true 1 n bounds.0, most)) ∙ was.outstanding)

module _ (shape : ShapeFields) (is : IsShape shape) (past fs : List Entry) (w v : WorldState) (file : ℕ) (before : Leads (first_world shape) past w) (works : w.working file ≡ true) (round : IsRound file w fs v) (none : AnswersNone fs) (n : ℕ) (c : OpenCall) (alive : is_alive v n ≡ true) (at : Contains (v.nodes n).pending c) (of_file : c.file ≡ file) (at_rest : IsAtRest (w.servers file)) where
  abbrev id : CallId
  id = id_of (v.nodes n) c.number

  whole : Silent shape w fs v
  whole = record { stretch = record { run = past; before = before; leads = round.leads; quiet = round.quiet }; none = none }

  node_is : (u : WorldState) (es : List Entry) → Silent shape u es v → id.node ≡ n
  node_is u es x = ((silent_rests shape u v es x).0.nodes n).node ∙ (good_run shape x.stretch.run u is x.stretch.before).1.named n

  module _ (l : Leaving shape w fs v file id) (k : ℕ) (event_is : l.entry.event ≡ Deliver (Taken file k id)) (row : Row) (there : row_of_host (l.world.servers file) (host_of_call id) ≡ Some row) (fits : is_grant k row.outstanding ≡ true) where
    abbrev y : WorldState
    y = l.world

    abbrev taken : Message
    taken = Taken file k id

    present : Present y
    present = (good_run shape l.rest.stretch.run y is l.rest.stretch.before).1

    its_row : ((y.servers file).rows id.node ≡ Some row) × (row.incarnation ≡ id.incarnation)
    its_row = row_found id.incarnation ((y.servers file).rows id.node) row there

    command : (m : Message) × (row.outstanding ≡ Some m) × (is_among y.sent m ≡ true) × IsCommandTo file id.node row.incarnation row.number m × (k ≡ row.number)
    command =
        let a = awaits_taken k row.outstanding row.token taken fits in
        let sent = ((present.serves file).talks id.node).waits row a.command its_row.0 a.waiting in
        (a.command, a.waiting, sent.0, sent.1, a.number file id.node row.incarnation row.number sent.1)

    out : IsOutstanding y file id.node command.0
    out =
        let same : (v.nodes id.node).incarnation ≡ (y.nodes id.node).incarnation = (members_stay (l.entry ∷ l.after) y v l.rest.stretch.leads l.rest.stretch.quiet).incarnation id.node in
        record {
          outstanding = ap outstanding_of its_row.0 ∙ command.1;
          live = (command_host file id.node row.incarnation row.number command.0 command.3).1 ∙ (its_row.1 ∙ (live shape is past fs w v file before works round none n c alive at of_file ∙ same));
        }

    -- a grant of that number for the call is the command
    its_grant : (mode : Mode) (span : Range) → is_among y.sent (Grant file k id mode span) ≡ true → Grant file k id mode span ≡ command.0
    its_grant mode span sent = ((present.serves file).talks id.node).one_number row.incarnation row.number (Grant file k id mode span) command.0 sent command.2 (refl, command.4, refl, sym its_row.1) command.3

    step : next y (Deliver taken) ≡ Ok (l.rest.stretch.leads.0, l.entry)
    step = step_as y l.entry l.rest.stretch.leads.0 (Deliver taken) event_is l.rest.stretch.leads.1

    -- the answer is new in the round
    unsent : is_among w.sent taken ≡ false
    unsent = elim (cases_Bool (is_among w.sent taken)) [
      | inl old ↦
          let h = every_answer shape past w taken is before old in
          let later = sent_through l.before w y (Grant file k id h.0 h.1) l.first h.2 in
          let quiet = All-left (λ (e : Entry). IsQuiet e.event) l.before (l.entry ∷ l.after) (subst AllQuiet l.split round.quiet) in
          let within = subst (λ (j : ℕ). has_node w j ≡ true) (sym (node_is w fs whole)) (there_then shape is v n c alive at w fs whole) in
          absurd (new_command shape past l.before w y file id.node command.0 is before l.first quiet within at_rest out (subst (λ (z : Message). is_among w.sent z ≡ true) (its_grant h.0 h.1 later) h.2))
      | inr new ↦ new
    ]

    first : FirstSender w l.before y taken
    first = first_sender l.before w y taken l.first unsent (delivered_sent y taken (l.rest.stretch.leads.0, l.entry) step)

    abbrev rest : List Entry
    rest = first.after ++ l.entry ∷ l.after

    cut_there : SilentCut shape w first.before (first.sending ∷ rest) v
    cut_there = silent_parts shape w v first.before fs first.sending rest (l.split ∙ (ap (λ (xs : List Entry). xs ++ l.entry ∷ l.after) first.split ∙ append_assoc first.before (first.sending ∷ first.after) (l.entry ∷ l.after))) whole

    abbrev u : WorldState
    u = cut_there.world

    abbrev run : List Entry
    run = cut_there.rest.stretch.run

    good : Good shape run u × Present u
    good = good_run shape run u is cut_there.rest.stretch.before

    done : FirstTaken u file k id first.sending.event first.sending.reply
    done =
        let same = leads_one w u first.world first.before cut_there.first first.first in
        let new : is_among u.sent taken ≡ false = ap (λ (z : WorldState). is_among z.sent taken) same ∙ first.unsent in
        first_taken u good.1 file k id new (cut_there.rest.stretch.leads.0, first.sending) first.sending.event cut_there.rest.stretch.leads.1 first.sends

    -- the grant is of what the call asks for
    serves : (c.mode ≡ done.mode) × (done.span.lo ≤ c.span.lo) × (c.span.hi ≤ done.span.hi)
    serves =
        let s = u.nodes n in
        let granting = step_as u first.sending cut_there.rest.stretch.leads.0 (Deliver (Grant file k id done.mode done.span)) done.event_is cut_there.rest.stretch.leads.1 in
        let sent = delivered_sent u (Grant file k id done.mode done.span) (cut_there.rest.stretch.leads.0, first.sending) granting in
        let served = every_grant shape run u file k id done.mode done.span is cut_there.rest.stretch.before sent in
        let open_there = open_then shape is v n c alive at u (first.sending ∷ rest) cut_there.rest in
        let own = All-contains (IsAskedBy shape run s) s.pending c (good.0.asked n) open_there in
        let its : IsAsked shape run c.file id c.mode c.span = subst (λ (i : CallId). IsAsked shape run c.file i c.mode c.span) (id_then shape is past fs w v file before works round none n c alive at of_file u (first.sending ∷ rest) cut_there.rest) own in
        let same = asked_one shape run id file c.file done.mode c.mode served.required c.span good.0.one_call served.asked its in
        (sym same.mode_is, subst (λ (r : Range). done.span.lo ≤ r.lo) same.span_is served.starts, subst (λ (r : Range). r.hi ≤ done.span.hi) same.span_is served.ends)

    pub granted_blocks : IsBlockedWait v c
    granted_blocks =
        let at_node = node_is u (first.sending ∷ rest) cut_there.rest in
        let t = in_epoch (u.nodes id.node) file k in
        let e = granted t file k id done.mode done.span in
        let found : open_call t id.number ≡ Some c = subst (λ (j : ℕ). open_call (u.nodes j) c.number ≡ Some c) (sym at_node) (own_then shape is past fs w v file before works round none n c alive at of_file u (first.sending ∷ rest) cut_there.rest).1 in
        let silent = silent_head shape u v first.sending rest cut_there.rest in
        elim (grant-answers t file k id done.mode done.span c found of_file serves.0 serves.1 serves.2) [
          | inl answers ↦ absurd (both_ways (is_some e.reply) (ap (λ (o : Option (CallId × Reply)). is_some o) (sym done.reply_is ∙ silent)) answers)
          | inr b ↦
              let here : IsBlockedHere (u.nodes id.node) c = record { waits = b.waits; lock = b.lock; there = b.there } in
              here_after shape is v n c alive at u (first.sending ∷ rest) cut_there.rest (subst (λ (j : ℕ). IsBlockedHere (u.nodes j) c) at_node here)
        ]
