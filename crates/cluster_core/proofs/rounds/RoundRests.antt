-- After a round about a file its server has no outstanding command.
use Rattle.std.specs.Prelude.{not, nat_le, if◌then◌else◌}
use Rattle.std.proofs.Common.{◌≡◌, ℕ, ◌+◌, ◌-◌, ◌≤◌, Bool, true, false, inl, inr, refl, sym, ◌∙◌, ap, subst, arith, append_assoc, List, ◌∷◌, ◌++◌, Some, None, Ok}
use Rattle.std.proofs.lemmas.Bool.{and_from, and_parts, le-leb, cases_Bool, cases_lt}
use Rattle.std.proofs.lemmas.List.Elements.{All-tail}
use Rattle.model.specs.rule.Limits.{IsNumber}
use Rattle.messages.specs.rule.Shapes.{ShapeFields, IsShape}
use Rattle.messages.specs.rule.Messages.{addressee, file_of, host_of, is_among}
use Rattle.messages.specs.declared.message.Message.{Message}
use Rattle.messages.specs.declared.message.Message.TheVariants.{Grant, Revoke, Taken, Released, Conflict, Hello, Report}
use Rattle.messages.specs.declared.event.Event.{Event}
use Rattle.messages.specs.declared.event.Event.TheVariants.{AtServer, Deliver}
use Rattle.messages.specs.declared.event.ServerInput.TheVariants.{Resend, Learn}
use Rattle.messages.specs.declared.entry.Entry.{Entry}
use Rattle.token_server.specs.declared.event.ServerEvent.TheVariants as server
use Rattle.token_server.specs.rule.Rows.{Row, outstanding_of}
use Rattle.token_server.specs.rule.Server.{server_rule}
use Rattle.cluster_core.specs.rule.World.{WorldState, first_world, has_node}
use Rattle.cluster_core.specs.rule.Next.{is_stopped, next}
use Rattle.cluster_core.specs.rule.Runs.{Leads}
use Rattle.cluster_core.specs.rule.Answers.{IsAnswerTo}
use Rattle.cluster_core.specs.rule.Serving.{IsAtRest}
use Rattle.cluster_core.specs.rule.Rounds.{IsQuiet, Happens, IsRound, IsOutstanding, EachRoundRests}
use Rattle.cluster_core.proofs.common.Choices.{at_number}
use Rattle.cluster_core.proofs.steps.KnownMessages.{sent_now}
use Rattle.cluster_core.proofs.steps.Steps.{next_taken, server_step}
use Rattle.cluster_core.proofs.tokens.Talks.{IsCommandTo, command_host}
use Rattle.cluster_core.proofs.tokens.Present.{begun_as, Present}
use Rattle.cluster_core.proofs.runs.Runs.{good_run}
use Rattle.cluster_core.proofs.rounds.Deaths.{deaths-stay}
use Rattle.cluster_core.proofs.rounds.Kinds.{every_answer}
use Rattle.cluster_core.proofs.rounds.NodeAnswers.{command_addressee, command_answered}
use Rattle.cluster_core.proofs.rounds.Outstanding.{some-row, answered-stays}
use Rattle.cluster_core.proofs.rounds.Resends.{resend_sends}
use Rattle.cluster_core.proofs.rounds.Sent.{next-sent, sent-stays}
use Rattle.cluster_core.proofs.rounds.Serving.{each_server-rests}
use Rattle.cluster_core.proofs.rounds.ServerAnswers.{answer_addressee, answer_ends}
use Rattle.cluster_core.proofs.rounds.Stretches.{Stretch, Cut, cut, after_first, leads_both, members_stay, sent_through, dead_through, Sender, first_sender}

command_file : (file n i k : ℕ) (m : Message) → IsCommandTo file n i k m → file_of m ≡ file
command_file file n i k (Grant f number call mode span) to = to.0
command_file file n i k (Revoke f number holder call mode wanted) to = to.0
command_file file n i k (Hello f number holder) to = to.0
command_file file n i k m to = absurd to

answer_file : (m a : Message) → IsAnswerTo m a → file_of a ≡ file_of m
answer_file (Grant f number call mode span) (Taken g l c) of = of.0
answer_file (Revoke f number holder call mode wanted) (Released g l h c span) of = of.0
answer_file (Revoke f number holder call mode wanted) (Conflict g l h c lock) of = of.0
answer_file (Hello f number holder) (Report g l h runs) of = of.0
answer_file m a of = absurd of

-- the step of an entry whose event is known
pub step_as : (u : WorldState) (e : Entry) (mid : WorldState) (event : Event) → e.event ≡ event → next u e.event ≡ Ok (mid, e) → next u event ≡ Ok (mid, e)
step_as u e mid event is step = subst (λ (x : Event). next u x ≡ Ok (mid, e)) is step

-- after a Learn the server knows of the incarnation
learn_told : (u : WorldState) (file n i : ℕ) (q : WorldState × Entry) → next u (AtServer file (Learn n i)) ≡ Ok q → i ≤ (q.0.servers file).dead n
learn_told u file n i q h =
    server_step u (λ p. i ≤ (p.0.servers file).dead n) (AtServer file (Learn n i)) file (server_rule (u.servers file) (server.Input (Learn n i))) q
    (λ done is. at_number file file (λ b. i ≤ (if b then done.0 else u.servers file).dead n) (λ same. deaths-stay.learnt (u.servers file) n i done.0 done.1 is) (λ other. absurd (other refl)))
    (next_taken u (AtServer file (Learn n i)) q h).1

module _ (shape : ShapeFields) (is : IsShape shape) (past es : List Entry) (w v : WorldState) (file : ℕ) (before : Leads (first_world shape) past w) (works : w.working file ≡ true) (round : IsRound file w es v) where
  whole : Stretch shape w es v
  whole = record { run = past; before = before; leads = round.leads; quiet = round.quiet }

  present_at : (u : WorldState) (fs : List Entry) → Stretch shape u fs v → Present u
  present_at u fs x = (good_run shape x.run u is x.before).1

  present : Present v
  present = (good_run shape (past ++ es) v is (leads_both (first_world shape) w v past es before round.leads)).1

  parts : (u : WorldState) (fs gs : List Entry) (e : Entry) (hs : List Entry) → gs ≡ fs ++ e ∷ hs → Stretch shape u gs v → Cut shape u fs (e ∷ hs) v
  parts u fs gs e hs split x = cut shape u v fs (e ∷ hs) (subst (λ (xs : List Entry). Stretch shape u xs v) split x)

  -- the server was told of the last declared incarnation
  told : (n : ℕ) → has_node v n ≡ true → (v.nodes n).incarnation ≤ (v.servers file).dead n + 1
  told n within = elim (cases_lt 1 (v.nodes n).incarnation) [
    | inl later ↦
        let h : Happens es (AtServer file (Learn n ((v.nodes n).incarnation - 1))) = round.learns n ((v.nodes n).incarnation - 1) within (omega arith) (omega arith) in
        let c = parts w h.before es h.happened h.after h.split whole in
        let step = step_as c.world h.happened c.rest.leads.0 (AtServer file (Learn n ((v.nodes n).incarnation - 1))) h.is c.rest.leads.1 in
        let known : (v.nodes n).incarnation - 1 ≤ (c.rest.leads.0.servers file).dead n = learn_told c.world file n ((v.nodes n).incarnation - 1) (c.rest.leads.0, h.happened) step in
        let grows = dead_through h.after c.rest.leads.0 v file n c.rest.leads.2 (All-tail (λ (x : Entry). IsQuiet x.event) h.happened h.after c.rest.quiet) in
        omega arith
    | inr first ↦ omega arith
  ]

  module _ (n : ℕ) (number : IsNumber (v.servers file).shape.nodes n) (m : Message) (out : outstanding_of ((v.servers file).rows n) ≡ Some m) where
    here : (row : Row) × ((v.servers file).rows n ≡ Some row) × (row.outstanding ≡ Some m)
    here = some-row ((v.servers file).rows n) m out

    waits : (is_among v.sent m ≡ true) × IsCommandTo file n here.0.incarnation here.0.number m
    waits = ((present.serves file).talks n).waits here.0 m here.1 here.2

    few : n ≤ v.shape.nodes
    few = subst (λ (x : ShapeFields). n ≤ x.nodes) (present.serves file).shape_is number.1

    within : has_node v n ≡ true
    within = and_from (nat_le 1 n) (nat_le n v.shape.nodes) (le-leb 1 n number.0) (le-leb n v.shape.nodes few)

    live : here.0.incarnation ≡ (v.nodes n).incarnation
    live =
        let talk = (present.serves file).talks n in
        let aged = talk.aged here.0 here.1 in
        let lives = talk.lives in
        let knows = told n within in
        omega arith

    outstanding_there : IsOutstanding v file n m
    outstanding_there = record { outstanding = out; live = (command_host file n here.0.incarnation here.0.number m waits.1).1 ∙ live }

    alive : v.alive n ≡ true
    alive =
        let name = ((present.serves file).talks n).named here.0 here.1 in
        let begun = begun_as v (host_of name.0) (record { node = n; incarnation = here.0.incarnation }) name.2.0 name.2.1 (present.no_future name.0 name.1) in
        (and_parts (has_node v n) (v.alive n) (begun.1 live)).1

    -- the command was outstanding in each world of the round in which it had been sent
    still : (u : WorldState) (fs : List Entry) → Stretch shape u fs v → is_among u.sent m ≡ true → IsOutstanding u file n m
    still u fs x sent = answered-stays shape x.run fs u v file n m is x.before x.leads x.quiet sent outstanding_there

    -- an entry of the round sends the command
    sender : Sender es m
    sender = elim (cases_Bool (is_among w.sent m)) [
      | inl old ↦
          let h = round.resends in
          let c = parts w h.before es h.happened h.after h.split whole in
          let there = sent_through h.before w c.world m c.first old in
          let out = still c.world (h.happened ∷ h.after) c.rest there in
          let same = members_stay (h.happened ∷ h.after) c.world v c.rest.leads c.rest.quiet in
          let shape_is = ((present_at c.world (h.happened ∷ h.after) c.rest).serves file).shape_is in
          let most : n ≤ (c.world.servers file).shape.nodes = subst (λ (x : ShapeFields). n ≤ x.nodes) (same.shape ∙ sym shape_is) few in
          let step = step_as c.world h.happened c.rest.leads.0 (AtServer file Resend) h.is c.rest.leads.1 in
          record { before = h.before; sending = h.happened; after = h.after; split = h.split; sends = resend_sends c.world file n m (c.rest.leads.0, h.happened) (number.0, most) out step }
      | inr new ↦
          let f = first_sender es w v m round.leads new waits.0 in
          record { before = f.before; sending = f.sending; after = f.after; split = f.split; sends = f.sends }
    ]

    -- the command is delivered after an entry that sent it, and answered; the answer is delivered, and the command is outstanding no longer
    never : ⊥
    never =
        let s = sender in
        let stopped : is_stopped v (addressee m) ≡ false = ap (is_stopped v) (command_addressee file n here.0.incarnation here.0.number m waits.1) ∙ ap not alive in
        let d = round.delivers s.before s.after s.sending m s.split s.sends (command_file file n here.0.incarnation here.0.number m waits.1) stopped in
        let c1 = parts w s.before es s.sending s.after s.split whole in
        let mid1 = c1.rest.leads.0 in
        let grown = next-sent c1.world s.sending.event (mid1, s.sending) c1.rest.leads.1 in
        let sent1 : is_among mid1.sent m ≡ true = ap (λ (ms : List Message). is_among ms m) grown ∙ sent_now c1.world.sent s.sending.sends m s.sends in
        let c2 = parts mid1 d.before s.after d.happened d.after d.split (after_first shape c1.world v s.sending s.after c1.rest) in
        let mid2 = c2.rest.leads.0 in
        let sent2 : is_among c2.world.sent m ≡ true = sent_through d.before mid1 c2.world m c2.first sent1 in
        let out2 = still c2.world (d.happened ∷ d.after) c2.rest sent2 in
        let step2 = step_as c2.world d.happened mid2 (Deliver m) d.is c2.rest.leads.1 in
        let answer = command_answered c2.world (present_at c2.world (d.happened ∷ d.after) c2.rest) (λ x sent. every_answer shape c2.rest.run c2.world x is c2.rest.before sent) file n m out2 (mid2, d.happened) step2 in
        let a = answer.0 in
        let split : es ≡ (s.before ++ s.sending ∷ d.before) ++ d.happened ∷ d.after = s.split ∙ (ap (λ (xs : List Entry). s.before ++ s.sending ∷ xs) d.split ∙ sym (append_assoc s.before (s.sending ∷ d.before) (d.happened ∷ d.after))) in
        let members = members_stay es w v round.leads round.quiet in
        let working : v.working file ≡ true = ap (λ (f : ℕ → Bool). f file) members.working ∙ works in
        let taken : is_stopped v (addressee a) ≡ false = ap (is_stopped v) (answer_addressee file n here.0.incarnation here.0.number m a waits.1 answer.2) ∙ ap not working in
        let g = round.delivers (s.before ++ s.sending ∷ d.before) d.after d.happened a split answer.1 (answer_file m a answer.2 ∙ command_file file n here.0.incarnation here.0.number m waits.1) taken in
        let c3 = parts mid2 g.before d.after g.happened g.after g.split (after_first shape c2.world v d.happened d.after c2.rest) in
        let mid3 = c3.rest.leads.0 in
        let sent3 : is_among c3.world.sent m ≡ true = sent_through g.before mid2 c3.world m c3.first (sent-stays c2.world d.happened.event (mid2, d.happened) m c2.rest.leads.1 sent2) in
        let out3 = still c3.world (g.happened ∷ g.after) c3.rest sent3 in
        let step3 = step_as c3.world g.happened mid3 (Deliver a) g.is c3.rest.leads.1 in
        let last = after_first shape c3.world v g.happened g.after c3.rest in
        let out4 = still mid3 g.after last (sent-stays c3.world g.happened.event (mid3, g.happened) m c3.rest.leads.1 sent3) in
        answer_ends c3.world (present_at c3.world (g.happened ∷ g.after) c3.rest) file n m a out3 answer.2 (mid3, g.happened) (present_at mid3 g.after last) step3 out4

  at_rest : IsAtRest (v.servers file)
  at_rest n number = elim (outstanding_of ((v.servers file).rows n)) as (λ o. outstanding_of ((v.servers file).rows n) ≡ o → o ≡ None) [
    | None ↦ λ there. refl
    | Some m ↦ λ there. absurd (never n number m there)
  ] refl

pub round-rests : EachRoundRests
round-rests shape past es w v file is before works round =
    let rest = at_rest shape is past es w v file before works round in
    let none = each_server-rests shape (past ++ es) v file is (leads_both (first_world shape) w v past es before round.leads) rest in
    (rest, none.0, none.1)

-- after a round the server was told of the last declared incarnation of each node
pub round_told : (shape : ShapeFields) (past es : List Entry) (w v : WorldState) (file : ℕ) → IsShape shape → Leads (first_world shape) past w → w.working file ≡ true → IsRound file w es v → (n : ℕ) → has_node v n ≡ true → (v.nodes n).incarnation ≤ (v.servers file).dead n + 1
round_told shape past es w v file is before works round n within = told shape is past es w v file before works round n within
