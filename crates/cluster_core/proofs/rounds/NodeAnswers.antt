-- A node answers each command that is outstanding to its live incarnation, when the command is delivered.
use Rattle.std.specs.Prelude.{max, nat_le, nat_lt, ◌==◌, ◌&&◌, if◌then◌else◌}
use Rattle.std.proofs.Common.{◌≡◌, ℕ, ◌+◌, ◌≤◌, Bool, true, false, ◌⊎◌, inl, inr, refl, sym, ◌∙◌, ap, subst, arith, List, [], Option, Some, None, Ok}
use Rattle.std.proofs.lemmas.Bool.{and_from, both_ways, eq-eqb, le-leb, ltb-true}
use Rattle.std.proofs.lemmas.Option.{none-some, same_Some}
use Rattle.intervals.specs.rule.Bytes.{Range}
use Rattle.model.specs.declared.call.CallId.{CallId}
use Rattle.model.specs.declared.host.Host.{Host}
use Rattle.model.specs.declared.mode.Mode.{Mode}
use Rattle.token_set.specs.rule.Tokens.{raised, gave_up}
use Rattle.token_set.specs.declared.gave_up.GaveUp.{GaveUp}
use Rattle.token_set.specs.declared.gave_up.GaveUp.TheVariants as gives
use Rattle.messages.specs.rule.TokenRuns.{Wants}
use Rattle.messages.specs.rule.Shapes.{begin_of}
use Rattle.messages.specs.rule.Messages.{addressee, file_of, host_of, is_among, is_within, runs_of}
use Rattle.messages.specs.declared.actor.Actor.{Actor}
use Rattle.messages.specs.declared.actor.Actor.TheVariants.{Node as ANode}
use Rattle.messages.specs.declared.message.Message.{Message}
use Rattle.messages.specs.declared.message.Message.TheVariants.{Grant, Revoke, Taken, Released, Conflict, Hello, Report}
use Rattle.messages.specs.declared.event.Event.TheVariants.{Deliver}
use Rattle.messages.specs.declared.entry.Entry.{Entry}
use Rattle.messages.specs.declared.outcome.Outcome.{Outcome}
use Rattle.messages.specs.declared.refusal.StepError.TheVariants.{Stranger}
use Rattle.node_core.specs.declared.event.NodeEvent.TheVariants as node
use Rattle.node_core.specs.rule.State.{FileState, NodeState, Effect, host, open_call, outcome, quiet, sent}
use Rattle.node_core.specs.rule.Try.{tried_if}
use Rattle.node_core.specs.rule.Commands.{renewed, in_epoch, in_order, after_command, remembered, granted, answer_to, revoked, delivered, is_node}
use Rattle.node_core.specs.rule.Node.{node_rule}
use Rattle.token_server.specs.rule.Rows.{Row, is_hello}
use Rattle.token_server.specs.rule.State.{begin}
use Rattle.cluster_core.specs.rule.World.{WorldState}
use Rattle.cluster_core.specs.rule.Next.{recorded, with_node, delivered as routed, next}
use Rattle.cluster_core.specs.rule.Answers.{HasItsCommand, IsAnswerTo}
use Rattle.cluster_core.specs.rule.Rounds.{IsOutstanding}
use Rattle.cluster_core.proofs.common.Choices.{at_number}
use Rattle.cluster_core.proofs.common.Refusals.{if_ours}
use Rattle.cluster_core.proofs.history.Pasts.{entered_last}
use Rattle.cluster_core.proofs.steps.NodeTokens.{first_among}
use Rattle.cluster_core.proofs.steps.Steps.{next_taken, node_step}
use Rattle.cluster_core.proofs.tokens.Epochs.{begin_of_upto, begin_of_from}
use Rattle.cluster_core.proofs.tokens.Present.{Was, Present}
use Rattle.cluster_core.proofs.tokens.Talks.{IsCommandTo, IsAnswerOf, command_host, owing_nothing, IsDone, States, Talk}
use Rattle.cluster_core.proofs.rounds.Outstanding.{some-row}

-- the command of an answer that was sent
kind_command : (sent : List Message) (file n i k : ℕ) (answer : Message) → HasItsCommand sent answer → IsAnswerOf file n i k answer → (command : Message) × (is_among sent command ≡ true) × IsCommandTo file n i k command × IsAnswerTo command answer
kind_command sent file n i k (Taken f number call) h of = (Grant f number call h.0 h.1, h.2, of, (refl, refl, refl))
kind_command sent file n i k (Released f number holder call span) h of = (Revoke f number holder call h.0 h.1, h.2, of, (refl, refl, refl, refl))
kind_command sent file n i k (Conflict f number holder call lock) h of = (Revoke f number holder call h.0 h.1, h.2, of, (refl, refl, refl, refl))
kind_command sent file n i k (Report f number holder runs) h of = (Hello f number holder, h, of, (refl, refl, refl))
kind_command sent file n i k answer h of = absurd of

pub command_addressee : (file n i k : ℕ) (m : Message) → IsCommandTo file n i k m → addressee m ≡ ANode n
command_addressee file n i k (Grant f number call mode span) to = ap (λ (x : ℕ). ANode x) to.2
command_addressee file n i k (Revoke f number holder call mode wanted) to = ap (λ (x : ℕ). ANode x) to.2
command_addressee file n i k (Hello f number holder) to = ap (λ (x : ℕ). ANode x) to.2
command_addressee file n i k m to = absurd to

-- a node that has done a command of the epoch stays as it is when it hears of the epoch
renewed_same : (f : FileState) (number : ℕ) → begin_of number ≤ f.last → renewed f number ≡ f
renewed_same f number from = elim (nat_lt f.last (begin_of number)) as (λ b. nat_lt f.last (begin_of number) ≡ b → (if b then record f { last = begin_of number; answer = None } else f) ≡ f) [
  | true ↦ λ is. let under = ltb-true f.last (begin_of number) is in absurd (omega arith)
  | false ↦ λ is. refl
] refl

one_number : (a b : ℕ) → a ≤ b → b ≤ a → a ≡ b
one_number a b up down = omega arith

-- an answer to a revoke
revoke_answer : (file number : ℕ) (holder own : Host) (call : CallId) (mode : Mode) (wanted : Wants) (up : GaveUp) → own ≡ holder → IsAnswerTo (Revoke file number holder call mode wanted) (answer_to file number own call up)
revoke_answer file number holder own call mode wanted (gives.Released span) same = (refl, refl, same, refl)
revoke_answer file number holder own call mode wanted (gives.Conflict lock) same = (refl, refl, same, refl)

module _ (w : WorldState) (p : Present w) (kinds : (x : Message) → Was w x → HasItsCommand w.sent x) (file n : ℕ) (m : Message) (row : Row) (there : (w.servers file).rows n ≡ Some row) (waits : row.outstanding ≡ Some m) (live : row.incarnation ≡ (w.nodes n).incarnation) where
  abbrev s : NodeState
  s = w.nodes n

  abbrev known : FileState
  known = owing_nothing (s.files file)

  abbrev start : ℕ
  start = begin (w.servers file)

  abbrev t : NodeState
  t = in_epoch s file row.number

  talk : Talk (Was w) file n s.incarnation known (Some row) ((w.servers file).dead n) start
  talk = subst (λ (o : Option Row). Talk (Was w) file n s.incarnation known o ((w.servers file).dead n) start) there ((p.serves file).talks n)

  was : Was w m
  was = (talk.waits row m refl waits).0

  to : IsCommandTo file n s.incarnation row.number m
  to = subst (λ (i : ℕ). IsCommandTo file n i row.number m) live (talk.waits row m refl waits).1

  epoch_begins : begin_of row.number ≡ start
  epoch_begins =
      let within = talk.numbered row refl in
      one_number (begin_of row.number) start (begin_of_upto row.number (w.servers file).epoch within.1) (begin_of_from row.number (w.servers file).epoch within.0)

  last_is : (t.files file).last ≡ max (s.files file).last start
  last_is = entered_last s file row.number ∙ ap (λ (k : ℕ). max (s.files file).last k) epoch_begins

  same_file : start ≤ (s.files file).last → t.files file ≡ s.files file
  same_file from = at_number file file (λ b. (if b then renewed (s.files file) row.number else s.files file) ≡ s.files file)
      (λ same. renewed_same (s.files file) row.number (subst (λ (k : ℕ). k ≤ (s.files file).last) (sym epoch_begins) from))
      (λ other. absurd (other refl))

  -- the command is the next one, or the last one that was done, or a Hello
  abbrev Stage : Type 0
  Stage =
      ((is_hello (Some m) ≡ false) × (row.number ≡ (t.files file).last + 1))
      ⊎ (((answer : Message) × (is_hello (Some m) ≡ false) × ((t.files file).answer ≡ Some answer) × (row.number ≡ (t.files file).last) × IsAnswerTo m answer)
      ⊎ ((is_hello (Some m) ≡ true) × (row.number ≡ (t.files file).last)))

  last_answer : is_hello (Some m) ≡ false → IsDone known row → (answer : Message) × (is_hello (Some m) ≡ false) × ((t.files file).answer ≡ Some answer) × (row.number ≡ (t.files file).last) × IsAnswerTo m answer
  last_answer plain done =
      let number : row.number ≡ (s.files file).last = done.number in
      let within : start ≤ row.number = (talk.numbered row refl).0 in
      let unchanged = same_file (omega arith) in
      let sure = talk.remembered done.answer done.remembers in
      let kind = kind_command w.sent file n s.incarnation (s.files file).last done.answer (kinds done.answer sure.0) sure.2 in
      let first : kind.0 ≡ m = talk.one_number s.incarnation row.number kind.0 m kind.1 was (subst (λ (k : ℕ). IsCommandTo file n s.incarnation k kind.0) (sym number) kind.2) to in
      (done.answer, plain, ap (λ (x : FileState). x.answer) unchanged ∙ done.remembers, number ∙ ap (λ (x : FileState). x.last) (sym unchanged), subst (λ (c : Message). IsAnswerTo c done.answer) first kind.3)

  stage : Stage
  stage = elim talk.in_step [
    | inl u ↦ absurd (u.none row refl live)
    | inr other ↦ elim other [
      | inl k ↦
          let same : k.known ≡ row = sym (same_Some row k.known k.there) in
          let plain : is_hello (Some m) ≡ false = ap is_hello (sym waits) ∙ (ap (λ (r : Row). is_hello r.outstanding) (sym same) ∙ k.told) in
          elim (subst (λ (r : Row). States start known r) same k.states) [
            | inl i ↦ absurd (none-some m (sym i.outstanding ∙ waits))
            | inr more ↦ elim more [
              | inl way ↦ let number : row.number ≡ max (s.files file).last start + 1 = way.number in let last = last_is in inl (plain, omega arith)
              | inr done ↦ inr (inl (last_answer plain done))
            ]
          ]
      | inr a ↦
          let same : a.known ≡ row = sym (same_Some row a.known a.there) in
          let hello : is_hello (Some m) ≡ true = ap is_hello (sym waits) ∙ (ap (λ (r : Row). is_hello r.outstanding) (sym same) ∙ a.hello) in
          let number : row.number ≡ start = ap (λ (r : Row). r.number) (sym same) ∙ a.number in
          let upto : (s.files file).last ≤ start = a.last in
          let last = last_is in
          inr (inr (hello, omega arith))
    ]
  ]

  -- the effect sends an answer to the message
  abbrev Answers : Message → Effect → Type 0
  Answers x e = (answer : Message) × (is_among e.sends answer ≡ true) × IsAnswerTo x answer

  done_answers : (x : Message) (e : Effect) → x ≡ m → is_hello (Some m) ≡ false → Answers x e → Answers x (in_order t file row.number e)
  done_answers x e same plain own = elim stage [
    | inl next ↦ subst (λ (b : Bool). Answers x (if b then e else others)) (sym (eq-eqb row.number ((t.files file).last + 1) next.1)) own
    | inr more ↦ elim more [
      | inl done ↦
          let number = done.3 in
          at_number row.number ((t.files file).last + 1) (λ b. Answers x (if b then e else others)) (λ ahead. absurd (omega arith)) (λ other. again done.0 done.2 number done.4)
      | inr asked ↦ absurd (both_ways (is_hello (Some m)) plain asked.0)
    ]
  ]
    where
      others : Effect
      others = if (row.number == (t.files file).last) && nat_le 1 row.number then remembered t (t.files file).answer else quiet t

      again : (answer : Message) → (t.files file).answer ≡ Some answer → row.number ≡ (t.files file).last → IsAnswerTo m answer → Answers x others
      again answer remembers number to_it =
          let least : 1 ≤ row.number = (talk.counted s.incarnation row.number m was to).0 in
          let test : ((row.number == (t.files file).last) && nat_le 1 row.number) ≡ true = and_from (row.number == (t.files file).last) (nat_le 1 row.number) (eq-eqb row.number (t.files file).last number) (le-leb 1 row.number least) in
          let repeats : Answers x (remembered t (t.files file).answer) = subst (λ (o : Option Message). Answers x (remembered t o)) (sym remembers) (answer, first_among answer [], subst (λ (c : Message). IsAnswerTo c answer) (sym same) to_it) in
          subst (λ (b : Bool). Answers x (if b then remembered t (t.files file).answer else quiet t)) (sym test) repeats

  own_host : (holder : Host) → holder.node ≡ n → holder.incarnation ≡ s.incarnation → host s ≡ holder
  own_host holder at incarnation = λ i. record { node = (p.named n ∙ sym at) i; incarnation = (sym incarnation) i }

  grant_answers : (call : CallId) (mode : Mode) (span : Range) → Grant file row.number call mode span ≡ m → Answers (Grant file row.number call mode span) (delivered s (Grant file row.number call mode span))
  grant_answers call mode span same =
      let later = after_command t file (raised (t.files file).token span mode) row.number (Taken file row.number call) (t.files file).owes_freed in
      let rest = tried_if later (open_call later call.number) in
      done_answers (Grant file row.number call mode span) (granted t file row.number call mode span) same (ap (λ (c : Message). is_hello (Some c)) (sym same))
      (Taken file row.number call, first_among (Taken file row.number call) rest.sends, (refl, refl, refl))

  revoke_answers : (holder : Host) (call : CallId) (mode : Mode) (wanted : Wants) → holder.node ≡ n → holder.incarnation ≡ s.incarnation → Revoke file row.number holder call mode wanted ≡ m → Answers (Revoke file row.number holder call mode wanted) (delivered s (Revoke file row.number holder call mode wanted))
  revoke_answers holder call mode wanted at incarnation same =
      let up = gave_up (t.table.locks file) t.node t.incarnation mode wanted.required wanted.desired in
      let answer = answer_to file row.number (host t) call up in
      done_answers (Revoke file row.number holder call mode wanted) (revoked t file row.number call mode wanted) same (ap (λ (c : Message). is_hello (Some c)) (sym same))
      (answer, first_among answer [], revoke_answer file row.number holder (host t) call mode wanted up (own_host holder at incarnation))

  hello_answers : (holder : Host) → holder.node ≡ n → holder.incarnation ≡ s.incarnation → Hello file row.number holder ≡ m → Answers (Hello file row.number holder) (delivered s (Hello file row.number holder))
  hello_answers holder at incarnation same =
      let hello : is_hello (Some m) ≡ true = ap (λ (c : Message). is_hello (Some c)) (sym same) in
      elim stage [
        | inl next ↦ absurd (both_ways (is_hello (Some m)) next.0 hello)
        | inr more ↦ elim more [
          | inl done ↦ absurd (both_ways (is_hello (Some m)) done.1 hello)
          | inr asked ↦
              let report = Report file row.number (host t) (runs_of (t.files file).token) in
              subst (λ (b : Bool). Answers (Hello file row.number holder) (if b then sent t report else quiet t)) (sym (eq-eqb row.number (t.files file).last asked.1))
              (report, first_among report [], (refl, refl, own_host holder at incarnation))
        ]
      ]

  delivered_answers : (x : Message) → x ≡ m → IsCommandTo file n s.incarnation row.number x → Answers x (delivered s x)
  delivered_answers (Grant g k call mode span) same of =
      let P : ℕ → ℕ → Type 0 = λ f l. Answers (Grant f l call mode span) (delivered s (Grant f l call mode span)) in
      let its : Grant file row.number call mode span ≡ m = (λ i. Grant (sym of.0 i) (sym of.1 i) call mode span) ∙ same in
      subst (λ (f : ℕ). P f k) (sym of.0) (subst (λ (l : ℕ). P file l) (sym of.1) (grant_answers call mode span its))
  delivered_answers (Revoke g k holder call mode wanted) same of =
      let P : ℕ → ℕ → Type 0 = λ f l. Answers (Revoke f l holder call mode wanted) (delivered s (Revoke f l holder call mode wanted)) in
      let its : Revoke file row.number holder call mode wanted ≡ m = (λ i. Revoke (sym of.0 i) (sym of.1 i) holder call mode wanted) ∙ same in
      subst (λ (f : ℕ). P f k) (sym of.0) (subst (λ (l : ℕ). P file l) (sym of.1) (revoke_answers holder call mode wanted of.2 of.3 its))
  delivered_answers (Hello g k holder) same of =
      let P : ℕ → ℕ → Type 0 = λ f l. Answers (Hello f l holder) (delivered s (Hello f l holder)) in
      let its : Hello file row.number holder ≡ m = (λ i. Hello (sym of.0 i) (sym of.1 i) holder) ∙ same in
      subst (λ (f : ℕ). P f k) (sym of.0) (subst (λ (l : ℕ). P file l) (sym of.1) (hello_answers holder of.2 of.3 its))
  delivered_answers x same of = absurd of

  -- the entry sends an answer to the command
  abbrev Sends : WorldState × Entry → Type 0
  Sends q = (answer : Message) × (is_among q.1.sends answer ≡ true) × IsAnswerTo m answer

  step_answers : (done : NodeState × Outcome) → node_rule s (node.Deliver m) ≡ Ok done → Sends (recorded (with_node w n done.0) (Deliver m) 0 done.1)
  step_answers done is =
      let ours = if_ours (is_node s.node (addressee m)) (is_within s.shape.files (file_of m)) ((host_of m).incarnation == s.incarnation) (outcome None (delivered s m)) (outcome None (quiet s)) done Stranger is in
      elim ours.2 [
        | inl took ↦ subst (λ (d : NodeState × Outcome). (answer : Message) × (is_among d.1.sends answer ≡ true) × IsAnswerTo m answer) took.1 (delivered_answers m refl to)
        | inr passed ↦ absurd (both_ways ((host_of m).incarnation == s.incarnation) passed.0 (eq-eqb (host_of m).incarnation s.incarnation (command_host file n s.incarnation row.number m to).1))
      ]

  delivery_answers : (q : WorldState × Entry) → next w (Deliver m) ≡ Ok q → Sends q
  delivery_answers q h =
      let step = (next_taken w (Deliver m) q h).1 in
      let routed_is : routed w m (ANode n) ≡ Ok q = subst (λ (a : Actor). routed w m a ≡ Ok q) (command_addressee file n s.incarnation row.number m to) step in
      node_step w Sends (Deliver m) n (node_rule s (node.Deliver m)) q step_answers routed_is

-- a node to whose live incarnation a command is outstanding answers it when it is delivered
pub command_answered : (w : WorldState) → Present w → ((x : Message) → Was w x → HasItsCommand w.sent x) → (file n : ℕ) (m : Message) → IsOutstanding w file n m → (q : WorldState × Entry) → next w (Deliver m) ≡ Ok q → (answer : Message) × (is_among q.1.sends answer ≡ true) × IsAnswerTo m answer
command_answered w p kinds file n m u q h =
    let here = some-row ((w.servers file).rows n) m u.outstanding in
    let to = (((p.serves file).talks n).waits here.0 m here.1 here.2).1 in
    delivery_answers w p kinds file n m here.0 here.1 here.2 (sym (command_host file n here.0.incarnation here.0.number m to).1 ∙ u.live) q h
