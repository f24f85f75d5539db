-- Stretches of a run in which nothing fails and nobody calls, and the parts of them.
use Rattle.std.specs.Prelude.{◌||◌}
use Rattle.std.proofs.Common.{◌≡◌, ℕ, ◌≤◌, true, false, inl, inr, refl, sym, ◌∙◌, ap, subst, arith, List, [], ◌∷◌, ◌++◌, All}
use Rattle.std.proofs.lemmas.Bool.{both_ways, cases_Bool}
use Rattle.std.proofs.lemmas.List.Elements.{All-head, All-tail}
use Rattle.messages.specs.rule.Shapes.{ShapeFields}
use Rattle.messages.specs.rule.Messages.{is_among}
use Rattle.messages.specs.declared.message.Message.{Message}
use Rattle.messages.specs.declared.entry.Entry.{Entry}
use Rattle.token_server.specs.rule.State.{ServerState}
use Rattle.token_server.proofs.CareLaws.{All-right}
use Rattle.cluster_core.specs.rule.World.{WorldState, first_world}
use Rattle.cluster_core.specs.rule.Runs.{Leads}
use Rattle.cluster_core.specs.rule.Rounds.{IsQuiet}
use Rattle.cluster_core.proofs.steps.KnownMessages.{is_among-append}
use Rattle.cluster_core.proofs.runs.Checked.{between}
use Rattle.cluster_core.proofs.runs.JournalRuns.{leads_push}
use Rattle.cluster_core.proofs.rounds.Deaths.{deaths-stay}
use Rattle.cluster_core.proofs.rounds.Quiet.{SameMembers, quiet-members, quiet-server}
use Rattle.cluster_core.proofs.rounds.Sent.{next-sent, sent-stays}

abbrev pub AllQuiet : List Entry → Type 0
AllQuiet es = All (λ (e : Entry). IsQuiet e.event) es

-- after a run, these entries lead from this world to that, and are quiet
pub record Stretch (shape : ShapeFields) (u : WorldState) (es : List Entry) (v : WorldState) : Type 0 where
  pub run : List Entry
  pub before : Leads (first_world shape) run u
  pub leads : Leads u es v
  pub quiet : AllQuiet es

-- the two parts of a stretch, and the world between them
pub record Cut (shape : ShapeFields) (u : WorldState) (fs es : List Entry) (v : WorldState) : Type 0 where
  pub world : WorldState
  pub first : Leads u fs world
  pub rest : Stretch shape world es v

pub leads_both : (w u v : WorldState) (es fs : List Entry) → Leads w es u → Leads u fs v → Leads w (es ++ fs) v
leads_both w u v [] fs a b = subst (λ (x : WorldState). Leads x fs v) (sym a) b
leads_both w u v (e ∷ es) fs a b = (a.0, a.1, leads_both a.0 u v es fs a.2 b)

pub cut : (shape : ShapeFields) (u v : WorldState) (fs es : List Entry) → Stretch shape u (fs ++ es) v → Cut shape u fs es v
cut shape u v fs es x =
    let mid = between u v fs es x.leads in
    record {
      world = mid.0;
      first = mid.1;
      rest = record {
        run = x.run ++ fs;
        before = leads_both (first_world shape) u mid.0 x.run fs x.before mid.1;
        leads = mid.2;
        quiet = All-right (λ (e : Entry). IsQuiet e.event) fs es x.quiet;
      };
    }

-- the stretch after its first entry
pub after_first : (shape : ShapeFields) (u v : WorldState) (e : Entry) (es : List Entry) (x : Stretch shape u (e ∷ es) v) → Stretch shape x.leads.0 es v
after_first shape u v e es x = record {
  run = x.run ++ e ∷ [];
  before = leads_push (first_world shape) u x.leads.0 x.run e x.before x.leads.1;
  leads = x.leads.2;
  quiet = All-tail (λ (y : Entry). IsQuiet y.event) e es x.quiet;
}

-- the same members are alive and work, in their incarnations, all through a stretch
pub members_stay : (es : List Entry) (u v : WorldState) → Leads u es v → AllQuiet es → SameMembers u v
members_stay [] u v leads quiet = subst (SameMembers u) leads (record { shape = refl; alive = refl; working = refl; incarnation = λ n. refl })
members_stay (e ∷ es) u v leads quiet =
    let one = quiet-members u e leads.0 leads.1 (All-head (λ (x : Entry). IsQuiet x.event) e es quiet) in
    let rest = members_stay es leads.0 v leads.2 (All-tail (λ (x : Entry). IsQuiet x.event) e es quiet) in
    record { shape = rest.shape ∙ one.shape; alive = rest.alive ∙ one.alive; working = rest.working ∙ one.working; incarnation = λ n. rest.incarnation n ∙ one.incarnation n }

-- what was sent before a stretch was sent after it
pub sent_through : (es : List Entry) (u v : WorldState) (m : Message) → Leads u es v → is_among u.sent m ≡ true → is_among v.sent m ≡ true
sent_through [] u v m leads sent = ap (λ (x : WorldState). is_among x.sent m) (sym leads) ∙ sent
sent_through (e ∷ es) u v m leads sent = sent_through es leads.0 v m leads.2 (sent-stays u e.event (leads.0, e) m leads.1 sent)

-- what a server knows to be dead before a stretch it knows after it
pub dead_through : (es : List Entry) (u v : WorldState) (file n : ℕ) → Leads u es v → AllQuiet es → (u.servers file).dead n ≤ (v.servers file).dead n
dead_through [] u v file n leads quiet = subst (λ (x : WorldState). (u.servers file).dead n ≤ (x.servers file).dead n) leads (omega arith)
dead_through (e ∷ es) u v file n leads quiet =
    let one : (u.servers file).dead n ≤ (leads.0.servers file).dead n =
    quiet-server file (λ (s t : ServerState). s.dead n ≤ t.dead n) (λ s. omega arith) (λ s step new out is. deaths-stay.stay s step new out n is) u e leads.0 leads.1 (All-head (λ (x : Entry). IsQuiet x.event) e es quiet) in
    let rest = dead_through es leads.0 v file n leads.2 (All-tail (λ (x : Entry). IsQuiet x.event) e es quiet) in
    omega arith

-- an entry of the list sends the message
pub record Sender (es : List Entry) (m : Message) : Type 0 where
  pub before : List Entry
  pub sending : Entry
  pub after : List Entry
  pub split : es ≡ before ++ sending ∷ after
  pub sends : is_among sending.sends m ≡ true

-- the entry of a stretch that first sends a message, and the world before it
pub record FirstSender (u : WorldState) (es : List Entry) (v : WorldState) (m : Message) : Type 0 where
  pub before : List Entry
  pub sending : Entry
  pub after : List Entry
  pub split : es ≡ before ++ sending ∷ after
  pub world : WorldState
  pub first : Leads u before world
  pub unsent : is_among world.sent m ≡ false
  pub sends : is_among sending.sends m ≡ true

-- a message that was sent by the end of a stretch, and not before it, is sent by one of its entries
pub first_sender : (es : List Entry) (u v : WorldState) (m : Message) → Leads u es v → is_among u.sent m ≡ false → is_among v.sent m ≡ true → FirstSender u es v m
first_sender [] u v m leads none sent = absurd (both_ways (is_among v.sent m) (ap (λ (x : WorldState). is_among x.sent m) (sym leads) ∙ none) sent)
first_sender (e ∷ es) u v m leads none sent = elim (cases_Bool (is_among e.sends m)) [
  | inl here ↦ record { before = []; sending = e; after = es; split = refl; world = u; first = refl; unsent = none; sends = here }
  | inr other ↦
      let grown : leads.0.sent ≡ u.sent ++ e.sends = next-sent u e.event (leads.0, e) leads.1 in
      let still : is_among leads.0.sent m ≡ false = ap (λ (ms : List Message). is_among ms m) grown ∙ (is_among-append u.sent e.sends m ∙ (λ i. none i || other i)) in
      let rest = first_sender es leads.0 v m leads.2 still sent in
      record { before = e ∷ rest.before; sending = rest.sending; after = rest.after; split = ap (λ (xs : List Entry). e ∷ xs) rest.split; world = rest.world; first = (leads.0, leads.1, rest.first); unsent = rest.unsent; sends = rest.sends }
]
