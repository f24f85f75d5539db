-- Each run has the list of its open calls, and is explained with each of them.
use Rattle.std.proofs.Common.{◌≡◌, ℕ, Bool, true, false, if◌then◌else◌, refl, ◌∙◌, Option, Some, None, ◌+◌, ◌<◌, ◌≤◌, sym, ap, subst, List, [], ◌∷◌, ◌++◌, append-nil, append_assoc, length, drop, get_or, drop-cons, add-one, zero, suc, ◌==◌, ◌&&◌, ◌⊎◌, inl, inr, arith, slice_get, eq-eqb}
use Rattle.model.specs.declared.opened.Opened.{Opened}
use Rattle.model.specs.declared.process.Process.{Process}
use Rattle.model.specs.declared.reply.Reply.{Reply}
use Rattle.model.specs.declared.reply.Reply.TheVariants.{Done, NoProcess}
use Rattle.model.specs.rule.Table.{Table, descriptor, is_running, closed_at, closed_if, after_close, exited, after_exit, empty_table}
use Rattle.model.specs.rule.Step.{Is}
use Rattle.std.specs.Prelude.{map}
use Rattle.std.proofs.lemmas.List.{drop_all}
use Rattle.messages.specs.declared.version.Version.{Version}
use Rattle.messages.specs.declared.entry.Entry.{Entry}
use Rattle.cluster_core.specs.declared.item.Item.{Item}
use Rattle.cluster_core.specs.rule.Histories.{ItemStep, IsLegal, caller, EntryAt, IsCalledAt, IsRepliedAt, HasHistory, EachAtItsPlace}
use Rattle.placement.proofs.Replays.{Follows}
use Rattle.run_clients.specs.declared.answer_time.AnswerTime.TheVariants.{At, Never}
use Rattle.run_clients.specs.declared.file_call.FileCall.{FileCall}
use Rattle.run_clients.specs.rule.Seen.{IsTimed, op_of, item_deeds, call_of, AreSeen, IsLastCall, IsOpenCall, AreOpen, IsSeen, IsAllSeen, AreExplained, lock_deed}
use Rattle.std.proofs.lemmas.Bool.{cases_lt, and_from, and_parts, eqb-true, false≢true}
use Rattle.std.proofs.lemmas.Option.{same_Some, none-some}
use Rattle.model.specs.declared.call.CallId.{CallId}
use Rattle.model.specs.declared.op.Op.{Op}
use Rattle.model.specs.rule.Limits.{IsNumber, IsProcess, most_nodes, most_processes}
use Rattle.messages.specs.declared.event.Event.{Event}
use Rattle.messages.specs.declared.event.Event.TheVariants.{AtNode, AtServer, Deliver, Member}
use Rattle.messages.specs.declared.event.NodeInput.TheVariants.{Call, Interrupt, Retry}
use Rattle.messages.specs.rule.Messages.{same_call}
use Rattle.messages.proofs.SameMessages.{call_exact, call_refl}
use Rattle.run_clients.specs.declared.deed.Deed.{Deed}
use Rattle.run_clients.specs.declared.made_call.MadeCall.{MadeCall}
use Rattle.run_clients.proofs.LastCalls.{one_entry, joined_open, each_open}
use Rattle.messages.specs.rule.Shapes.{ShapeFields, most_regions}
use Rattle.cluster_core.specs.rule.World.{journal_limit}
use Rattle.cluster_core.specs.rule.Union.{union}
use Rattle.run_clients.proofs.Runs.{seen_of, seen_is_explained}

abbrev close_answer : Table → Process → ℕ → Option Opened → Bool → Table × Reply
close_answer t p fd x b = if b then closed_at t p fd x else (t, NoProcess)

abbrev exit_answer : Table → Process → Bool → Table × Reply
exit_answer t p b = if b then (exited t p, Done) else (t, NoProcess)

module _ (t : Table) (p : Process) where
  runs_closing : (fd : ℕ) (x : Option Opened) (b : Bool) → Done ≡ (close_answer t p fd x b).1 → b ≡ true
  runs_closing fd x true h = refl
  runs_closing fd x false h = absurd (cc)

  -- the process of a close that is done runs
  pub close_runs : (fd : ℕ) (next : Table) → Is (after_close t p fd) Done next → is_running t p ≡ true
  close_runs fd next h = runs_closing fd (descriptor t p fd) (is_running t p) h.0

  closed_so : (fd : ℕ) (x : Option Opened) (b : Bool) → Done ≡ (close_answer t p fd x b).1 → closed_if t p fd x ≡ (close_answer t p fd x b).0
  closed_so fd (Some o) true h = refl
  closed_so fd None true h = refl
  closed_so fd x false h = absurd (cc)

  pub close_step : (fd : ℕ) (next new : Table) → Is (after_close t p fd) Done next → new ≡ closed_if t p fd (descriptor t p fd) → Is (after_close t p fd) Done new
  close_step fd next new h is = (h.0, is ∙ closed_so fd (descriptor t p fd) (is_running t p) h.0)

  runs_exiting : (b : Bool) → Done ≡ (exit_answer t p b).1 → b ≡ true
  runs_exiting true h = refl
  runs_exiting false h = absurd (cc)

  -- the process of an exit that is done runs
  pub exit_runs : (next : Table) → Is (after_exit t p) Done next → is_running t p ≡ true
  exit_runs next h = runs_exiting (is_running t p) h.0

  exited_so : (b : Bool) → Done ≡ (exit_answer t p b).1 → exited t p ≡ (exit_answer t p b).0
  exited_so true h = refl
  exited_so false h = absurd (cc)

  pub exit_step : (next new : Table) → Is (after_exit t p) Done next → new ≡ exited t p → Is (after_exit t p) Done new
  exit_step next new h is = (h.0, is ∙ exited_so (is_running t p) h.0)

-- the calls seen so far, and those that will be seen from this table on, are all that are seen from the first
abbrev pub SeenSoFar : List Entry → Table → List Item → Table → List Item → List FileCall → Type 0
SeenSoFar es first items t rest seen = (more : List FileCall) (last : Table) → AreSeen es t rest more last → AreSeen es first items (seen ++ more) last

first_is_next : (items : List Item) (k : ℕ) (i : Item) → k < length items → i ≡ get_or items k i → drop k items ≡ i ∷ drop (k + 1) items
first_is_next items k i lt is = drop-cons items k i lt ∙ rw (← is, add-one) refl

-- the table allows the item that comes next
pub may_follow : (version : Version) (items : List Item) (k : ℕ) (i : Item) (t : Table) → k < length items → i ≡ get_or items k i → IsLegal version items → Follows version items (drop k items) t → (next : Table) × ItemStep t i next
may_follow version items k i t lt is legal follows =
    let P : List Item → Type 0 = λ rest. Follows version items rest t in
    let from = (subst P (first_is_next items k i lt is) follows).back legal in
    (from.1.0, from.1.1)

pub seen_start : (es : List Entry) (first t : Table) (items xs : List Item) (seen : List FileCall) → t ≡ first → xs ≡ items → seen ≡ [] → SeenSoFar es first items t xs seen
seen_start es first t items xs seen here same none =
    subst (λ (u : Table). SeenSoFar es first items u xs seen) (sym here)
    (subst (λ (ys : List Item). SeenSoFar es first items first ys seen) (sym same)
    (subst (λ (ss : List FileCall). SeenSoFar es first items first items ss) (sym none) (λ more last h. h)))

pub seen_more : (es : List Entry) (first t u : Table) (items : List Item) (k : ℕ) (i : Item) (begin end : ℕ) (seen next : List FileCall) → k < length items → i ≡ get_or items k i → ItemStep t i u → IsTimed es i begin end → next ≡ seen ++ map (call_of (op_of i) begin (At end)) (item_deeds t i) → SeenSoFar es first items t (drop k items) seen → SeenSoFar es first items u (drop (k + 1) items) next
seen_more es first t u items k i begin end seen next lt is step timed added so_far more last h =
    let these = map (call_of (op_of i) begin (At end)) (item_deeds t i) in
    let all : AreSeen es first items (seen ++ (these ++ more)) last = so_far (these ++ more) last (subst (λ (rest : List Item). AreSeen es t rest (these ++ more) last) (sym (first_is_next items k i lt is)) (u, begin, end, more, step, timed, refl, h)) in
    let joined : next ++ more ≡ seen ++ (these ++ more) = ap (λ (ss : List FileCall). ss ++ more) added ∙ append_assoc seen these more in
    subst (λ (ss : List FileCall). AreSeen es first items ss last) (sym joined) all

pub seen_whole : (es : List Entry) (first t : Table) (items : List Item) (k : ℕ) (seen : List FileCall) → length items ≤ k → SeenSoFar es first items t (drop k items) seen → AreSeen es first items seen t
seen_whole es first t items k seen all so_far =
    let whole : AreSeen es first items (seen ++ []) t = so_far [] t (subst (λ (rest : List Item). AreSeen es t rest [] t) (sym (drop_all k items all)) (refl, refl)) in
    subst (λ (ss : List FileCall). AreSeen es first items ss t) (append-nil seen) whole

-- some element is so at its place, or none is
found_or_none : (P : ℕ → Entry → Type 0) → ((k : ℕ) (e : Entry) → P k e ⊎ (P k e → ⊥)) → (es : List Entry) → ((k : ℕ) × (e : Entry) × (slice_get es k ≡ Some e) × P k e) ⊎ ((k : ℕ) (e : Entry) → slice_get es k ≡ Some e → P k e → ⊥)
found_or_none P decide [] = inr (λ k e h. absurd (none-some e h))
found_or_none P decide (x ∷ es) = by (decide 0 x) (found_or_none (λ k e. P (suc k) e) (λ k e. decide (suc k) e) es)
  where
    none_here : (P 0 x → ⊥) → ((k : ℕ) (e : Entry) → slice_get es k ≡ Some e → P (suc k) e → ⊥) → (k : ℕ) (e : Entry) → slice_get (x ∷ es) k ≡ Some e → P k e → ⊥
    none_here other none zero e h is = other (subst (λ (y : Entry). P 0 y) (sym (same_Some x e h)) is)
    none_here other none (suc k) e h is = none k e h is

    by : P 0 x ⊎ (P 0 x → ⊥) → ((k : ℕ) × (e : Entry) × (slice_get es k ≡ Some e) × P (suc k) e) ⊎ ((k : ℕ) (e : Entry) → slice_get es k ≡ Some e → P (suc k) e → ⊥) → ((k : ℕ) × (e : Entry) × (slice_get (x ∷ es) k ≡ Some e) × P k e) ⊎ ((k : ℕ) (e : Entry) → slice_get (x ∷ es) k ≡ Some e → P k e → ⊥)
    by (inl here) rest = inl (0, x, refl, here)
    by (inr other) (inl found) = inl (suc found.0, found.1, found.2, found.3)
    by (inr other) (inr none) = inr (none_here other none)

true_or_not : (b : Bool) → (b ≡ true) ⊎ (b ≡ true → ⊥)
true_or_not true = inl refl
true_or_not false = inr (λ h. false≢true h)

-- the call has a reply, or it has none
abbrev answers_by : CallId → Option (CallId × Reply) → Bool
answers_by id None = false
answers_by id (Some r) = same_call r.0 id

replied_or_not : (es : List Entry) (id : CallId) → ((reply : Reply) × (k : ℕ) × IsRepliedAt es id reply k) ⊎ ((reply : Reply) (k : ℕ) → IsRepliedAt es id reply k → ⊥)
replied_or_not es id = elim (found_or_none (λ k e. answers_by id e.reply ≡ true) (λ k e. true_or_not (answers_by id e.reply)) es) [
  | inl found ↦
      let told = answer (found.1).reply found.3 in
      inl (told.0, found.0 + 1, record { replying = found.1; there = (found.0, refl, found.2); is_reply = told.1 })
  | inr none ↦ inr (λ reply k h. none h.there.0 h.replying h.there.2 (ap (answers_by id) h.is_reply ∙ call_refl id))
]
  where
    answer : (x : Option (CallId × Reply)) → answers_by id x ≡ true → (reply : Reply) × (x ≡ Some (id, reply))
    answer None h = absurd (false≢true h)
    answer (Some r) h = (r.1, ap (λ (i : CallId). Some (i, r.1)) (call_exact r.0 id h))

-- the call that an event makes, which takes this name of the event's node
abbrev if_its : Bool → MadeCall → Option MadeCall
if_its b made = if b then Some made else None

abbrev named_by : Event → Option CallId → Option MadeCall
named_by (AtNode node (Call pid op)) (Some id) = if_its (id.node == node) (record { id = id; pid = pid; op = op })
named_by _ _ = None

named_so : (event : Event) (call : Option CallId) (made : MadeCall) → named_by event call ≡ Some made → (event ≡ AtNode made.id.node (Call made.pid made.op)) × (call ≡ Some made.id)
named_so (AtNode node (Call pid op)) (Some id) made is = by (id.node == node) refl is
  where
    here : MadeCall
    here = record { id = id; pid = pid; op = op }

    by : (b : Bool) → (id.node == node) ≡ b → if_its b here ≡ Some made → (AtNode node (Call pid op) ≡ AtNode made.id.node (Call made.pid made.op)) × (Some id ≡ Some made.id)
    by true same is =
        let this : here ≡ made = same_Some here made is in (
          ap (λ (n : ℕ). AtNode n (Call pid op)) (sym (eqb-true id.node node same)) ∙ ap (λ (m : MadeCall). AtNode m.id.node (Call m.pid m.op)) this,
          ap (λ (m : MadeCall). Some m.id) this,
        )
    by false other is = absurd (none-some made is)
named_so (AtNode node (Call pid op)) None made is = absurd (none-some made is)
named_so (AtNode node (Interrupt pid)) call made is = absurd (none-some made is)
named_so (AtNode node (Retry pid)) call made is = absurd (none-some made is)
named_so (AtServer file input) call made is = absurd (none-some made is)
named_so (Deliver m) call made is = absurd (none-some made is)
named_so (Member event) call made is = absurd (none-some made is)

so_named : (es : List Entry) (at : ℕ) (e : Entry) → EntryAt es at e → (id : CallId) (pid : ℕ) (op : Op) → IsCalledAt es id pid op at → named_by e.event e.call ≡ Some (record { id = id; pid = pid; op = op })
so_named es at e there id pid op is =
    let same : is.calling ≡ e = one_entry es at is.calling e is.there there in
    let event : e.event ≡ AtNode id.node (Call pid op) = ap (λ (d : Entry). d.event) (sym same) ∙ is.is_call in
    let named : e.call ≡ Some id = ap (λ (d : Entry). d.call) (sym same) ∙ is.named in
    ap (λ (v : Event). named_by v e.call) event ∙ (ap (named_by (AtNode id.node (Call pid op))) named ∙ ap (λ (b : Bool). if_its b (record { id = id; pid = pid; op = op })) (eq-eqb id.node id.node refl))

-- the process makes a call behind the position, or it makes none
abbrev same_process : Process → Process → Bool
same_process p q = (p.node == q.node) && ((p.incarnation == q.incarnation) && (p.pid == q.pid))

process_exact : (p q : Process) → same_process p q ≡ true → p ≡ q
process_exact p q h =
    let first = and_parts _ _ h in
    let second = and_parts _ _ first.1 in
    let nodes = eqb-true _ _ first.0 in
    let incarnations = eqb-true _ _ second.0 in
    let pids = eqb-true _ _ second.1 in
    λ i. record { node = nodes i; incarnation = incarnations i; pid = pids i }

process_refl : (p : Process) → same_process p p ≡ true
process_refl p = and_from _ _ (eq-eqb p.node p.node refl) (and_from _ _ (eq-eqb p.incarnation p.incarnation refl) (eq-eqb p.pid p.pid refl))

abbrev is_by : Process → Option MadeCall → Bool
is_by p None = false
is_by p (Some made) = same_process (caller made.id made.pid) p

record HasLater (es : List Entry) (p : Process) (at : ℕ) : Type 0 where
  made : MadeCall
  k : ℕ
  behind : at < k
  its : caller made.id made.pid ≡ p
  called : IsCalledAt es made.id made.pid made.op k

abbrev IsBehindBy : Process → ℕ → ℕ → Entry → Type 0
IsBehindBy p at k e = (at < k + 1) × (is_by p (named_by e.event e.call) ≡ true)

behind_or_not : (p : Process) (at k : ℕ) (e : Entry) → IsBehindBy p at k e ⊎ (IsBehindBy p at k e → ⊥)
behind_or_not p at k e = elim (cases_lt at (k + 1)) [
  | inr before ↦ inr (λ is. let behind = is.0 in omega arith)
  | inl behind ↦ elim (true_or_not (is_by p (named_by e.event e.call))) [ inl its ↦ inl (behind, its) | inr other ↦ inr (λ is. other is.1) ]
]

later_or_none : (es : List Entry) (id : CallId) (pid at : ℕ) → HasLater es (caller id pid) at ⊎ IsLastCall es id pid at
later_or_none es id pid at = elim (found_or_none (IsBehindBy (caller id pid) at) (behind_or_not (caller id pid) at) es) [
  | inl found ↦ inl (later found.0 found.1 found.2 found.3.0 (named_by (found.1).event (found.1).call) refl found.3.1)
  | inr none ↦ inr (λ other op k same called. elim (cases_lt at k) [
    | inl behind ↦
        let place = called.there.1 in
        let its : is_by (caller id pid) (named_by called.calling.event called.calling.call) ≡ true = ap (is_by (caller id pid)) (so_named es k called.calling called.there other pid op called) ∙ (ap (λ (p : Process). same_process p (caller id pid)) same ∙ process_refl (caller id pid)) in
        absurd (none called.there.0 called.calling called.there.2 (omega arith, its))
    | inr before ↦ before
  ])
]
  where
    later : (k : ℕ) (e : Entry) → slice_get es k ≡ Some e → at < k + 1 → (x : Option MadeCall) → named_by e.event e.call ≡ x → is_by (caller id pid) x ≡ true → HasLater es (caller id pid) at
    later k e there behind None is its = absurd (false≢true its)
    later k e there behind (Some made) is its =
        let so = named_so e.event e.call made is in
        record { made = made; k = k + 1; behind = behind; its = process_exact (caller made.id made.pid) (caller id pid) its; called = record { calling = e; there = (k, refl, there); is_call = so.0; named = so.1 } }

number_or_not : (most n : ℕ) → IsNumber most n ⊎ (IsNumber most n → ⊥)
number_or_not most n = elim (cases_lt n 1) [
  | inl none ↦ inr (λ is. let least = is.0 in omega arith)
  | inr some ↦ elim (cases_lt most n) [
    | inl past ↦ inr (λ is. let up = is.1 in omega arith)
    | inr up ↦ inl (some, up)
  ]
]

process_or_not : (p : Process) → IsProcess p ⊎ (IsProcess p → ⊥)
process_or_not p = elim (number_or_not most_nodes p.node) [
  | inr strange ↦ inr (λ is. strange is.host.node_in)
  | inl node ↦ elim (number_or_not 65535 p.incarnation) [
    | inr strange ↦ inr (λ is. strange is.host.incarnation_in)
    | inl incarnation ↦ elim (number_or_not most_processes p.pid) [
      | inr strange ↦ inr (λ is. strange is.pid_in)
      | inl pid ↦ inl (record { host = record { node_in = node; incarnation_in = incarnation }; pid_in = pid })
    ]
  ]
]

-- the open call that an entry makes, if it makes one
module _ (es : List Entry) (last : Table) (at before : ℕ) (e : Entry) (there : EntryAt es at e) (next : at ≡ before + 1) where
  abbrev Found : Type 0
  Found = (ss : List FileCall) × AreOpen es last before (at + 1) ss

  none_there : ((s : FileCall) → IsOpenCall es last s → s.begin ≡ at → ⊥) → Found
  none_there none = ([], λ s o lo hi. let follows = next in none s o (omega arith))

  named_there : (s : FileCall) (o : IsOpenCall es last s) → s.begin ≡ at → named_by e.event e.call ≡ Some (record { id = o.id; pid = o.pid; op = s.op })
  named_there s o here = so_named es at e there o.id o.pid s.op (subst (IsCalledAt es o.id o.pid s.op) here o.called)

  module _ (made : MadeCall) (is : named_by e.event e.call ≡ Some made) where
    same_made : (s : FileCall) (o : IsOpenCall es last s) → s.begin ≡ at → (let one : MadeCall = record { id = o.id; pid = o.pid; op = s.op } in made ≡ one)
    same_made s o here = same_Some made (record { id = o.id; pid = o.pid; op = s.op }) (sym is ∙ named_there s o here)

    by_deed : ((reply : Reply) (k : ℕ) → IsRepliedAt es made.id reply k → ⊥) → IsLastCall es made.id made.pid at → IsProcess (caller made.id made.pid) → (x : Option Deed) → lock_deed last (caller made.id made.pid) made.op Done ≡ x → Found
    by_deed none last_one process None does = none_there (λ s o here. none-some o.deed (sym does ∙ (ap (λ (m : MadeCall). lock_deed last (caller m.id m.pid) m.op Done) (same_made s o here) ∙ o.does)))
    by_deed none last_one process (Some d) does =
        let so = named_so e.event e.call made is in
        let follows = next in
        let one : IsOpenCall es last (call_of made.op at Never d) = record {
          id = made.id;
          pid = made.pid;
          process = process;
          called = record { calling = e; there = there; is_call = so.0; named = so.1 };
          unanswered = none;
          last_call = last_one;
          deed = d;
          does = does;
          is = refl;
        } in
        (call_of made.op at Never d ∷ [], (one, omega arith, omega arith, λ s o lo hi. omega arith, λ s o lo hi. omega arith))

    by_process : ((reply : Reply) (k : ℕ) → IsRepliedAt es made.id reply k → ⊥) → IsLastCall es made.id made.pid at → IsProcess (caller made.id made.pid) ⊎ (IsProcess (caller made.id made.pid) → ⊥) → Found
    by_process none last_one (inl process) = by_deed none last_one process (lock_deed last (caller made.id made.pid) made.op Done) refl
    by_process none last_one (inr strange) = none_there (λ s o here. strange (subst (λ (m : MadeCall). IsProcess (caller m.id m.pid)) (sym (same_made s o here)) o.process))

    by_later : ((reply : Reply) (k : ℕ) → IsRepliedAt es made.id reply k → ⊥) → HasLater es (caller made.id made.pid) at ⊎ IsLastCall es made.id made.pid at → Found
    by_later none (inr last_one) = by_process none last_one (process_or_not (caller made.id made.pid))
    by_later none (inl later) = none_there (λ s o here.
        let same = later.its ∙ ap (λ (m : MadeCall). caller m.id m.pid) (same_made s o here) in
        let its : later.made.pid ≡ o.pid = ap (λ (p : Process). p.pid) same in
        let called = subst (λ (n : ℕ). IsCalledAt es later.made.id n later.made.op later.k) its later.called in
        let up = o.last_call later.made.id later.made.op later.k (subst (λ (n : ℕ). caller later.made.id n ≡ caller o.id o.pid) its same) called in
        let behind = later.behind in
        omega arith)

    by_reply : ((reply : Reply) × (k : ℕ) × IsRepliedAt es made.id reply k) ⊎ ((reply : Reply) (k : ℕ) → IsRepliedAt es made.id reply k → ⊥) → Found
    by_reply (inl found) = none_there (λ s o here. o.unanswered found.0 found.1 (subst (λ (m : MadeCall). IsRepliedAt es m.id found.0 found.1) (same_made s o here) found.2))
    by_reply (inr none) = by_later none (later_or_none es made.id made.pid at)

  one_of : (x : Option MadeCall) → named_by e.event e.call ≡ x → Found
  one_of None is = none_there (λ s o here. none-some (record { id = o.id; pid = o.pid; op = s.op }) (sym is ∙ named_there s o here))
  one_of (Some made) is = by_reply made is (replied_or_not es made.id)

  found_there : Found
  found_there = one_of (named_by e.event e.call) refl

entry_there : (es : List Entry) (k : ℕ) → k < length es → (e : Entry) × (slice_get es k ≡ Some e)
entry_there [] k lt = absurd (omega arith)
entry_there (x ∷ es) zero lt = (x, refl)
entry_there (x ∷ es) (suc k) lt = entry_there es k (omega arith)

-- the open calls of the entries up to a position
pub open_calls_up_to : (es : List Entry) (last : Table) (n : ℕ) → n ≤ length es → (ss : List FileCall) × AreOpen es last 0 (n + 1) ss
open_calls_up_to es last zero le = ([], λ s o lo hi. omega arith)
open_calls_up_to es last (suc n) le =
    let before = open_calls_up_to es last n (omega arith) in
    let entry = entry_there es n (omega arith) in
    let at : suc n ≡ n + 1 = omega arith in
    let one = found_there es last (suc n) n entry.0 (n, at, entry.1) at in
    (before.0 ++ one.0, joined_open es last 0 n (suc n + 1) before.0 one.0 (omega arith) (omega arith) before.1 one.1)

pub run_is_explained : (shape : ShapeFields) (es : List Entry) → length es ≤ journal_limit → (h : List Item) → HasHistory shape es h → EachAtItsPlace es h → (seen : List FileCall) × IsAllSeen shape es seen × AreExplained seen
run_is_explained shape es few h is_history at_places =
    let first = empty_table (most_regions shape.version) in
    let last = union is_history.world in
    let found = seen_of es first last h is_history.fits.placed is_history.legal in
    let opened = open_calls_up_to es last (length es) (omega arith) in
    let s : IsSeen shape es (found.0 ++ opened.0) = record {
      history = h;
      is_history = is_history;
      at_places = at_places;
      answered = found.0;
      last = last;
      calls = found.1;
      unanswered = opened.0;
      open_calls = each_open es last 0 (length es + 1) opened.0 opened.1;
      are = refl;
    } in
    (found.0 ++ opened.0, (s, opened.1), seen_is_explained shape es (found.0 ++ opened.0) few s)
