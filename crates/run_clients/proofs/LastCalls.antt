-- The last call of each process and the open calls, noted entry by entry.
use Rattle.std.proofs.Common.{◌≡◌, ℕ, ◌+◌, ◌≤◌, Bool, true, false, cond, inl, inr, refl, sym, ◌∙◌, ap, subst, arith, List, [], length, slice_get, Option, Some, None, if◌then◌else◌, ◌<◌, ◌∷◌, ◌++◌, append-nil, append_assoc}
use Rattle.std.proofs.lemmas.Bool.{cases_eq, both_ways, cases_lt, false≢true}
use Rattle.std.proofs.lemmas.Grind.{common_steps}
use Rattle.std.proofs.lemmas.Option.{same_Some, none-some}
use Rattle.std.specs.Map.{lookup}
use Rattle.model.specs.declared.call.CallId.{CallId}
use Rattle.model.specs.declared.op.Op.{Op}
use Rattle.model.specs.declared.process.Process.{Process}
use Rattle.messages.specs.declared.event.Event.{Event}
use Rattle.messages.specs.declared.event.Event.TheVariants.{AtNode, AtServer, Deliver, Member}
use Rattle.messages.specs.declared.event.NodeInput.TheVariants.{Call, Interrupt, Retry}
use Rattle.messages.specs.declared.entry.Entry.{Entry}
use Rattle.messages.specs.rule.Entries.{NamesItsCall}
use Rattle.cluster_core.specs.rule.Histories.{caller, EntryAt, IsCalledAt, IsRepliedAt, IsOpenAt, IsPlaced, OneCall, OneReply}
use Rattle.run_clients.specs.contracts.made_call.ProcessNamePartialEq.TheImpl as derived
use Rattle.run_clients.specs.declared.made_call.MadeCall.{MadeCall}
use Rattle.run_clients.specs.declared.made_call.ProcessName.{ProcessName}
use Rattle.run_clients.specs.rule.Seen.{IsLastCall, IsTimed, call_of, IsOpenCall, NoneIsOpen, AreOpen, HasOpened, listed, lock_deed}
use Rattle.run_clients.specs.code.Times.{made_by, name_of, LastCalls, last_of, NotesLast, IsCallBy, IsUpTo, AreLast, Positions, position_of_call, Notes, IsMade, IsAnswered, AreFound, AreTimes, IsKnown, IsKept}
use Rattle.run_clients.proofs.Runs.{within}
use Rattle.std.specs.Prelude.{IsSome, is_some, map}
use Rattle.model.specs.declared.reply.Reply.{Reply}
use Rattle.messages.specs.rule.Messages.{same_call}
use Rattle.messages.proofs.SameMessages.{call_exact, call_refl}
use Rattle.cluster_core.specs.declared.item.Item.{Item}
use Rattle.cluster_core.specs.declared.item.Item.TheVariants.{Answered, Gone}
use Rattle.run_clients.specs.declared.call_times.CallTimes.{CallTimes}
use Rattle.std.specs.List.{AllByRecursion}
use Rattle.model.specs.declared.reply.Reply.TheVariants.{Done}
use Rattle.model.specs.rule.Limits.{IsNumber, IsProcess, most_processes}
use Rattle.model.specs.rule.Table.{Table}
use Rattle.run_clients.specs.declared.answer_time.AnswerTime.TheVariants.{Never}
use Rattle.run_clients.specs.declared.deed.Deed.{Deed}
use Rattle.run_clients.specs.declared.file_call.FileCall.{FileCall}

-- a list has one entry at a position
pub one_entry : (es : List Entry) (at : ℕ) (e d : Entry) → EntryAt es at e → EntryAt es at d → e ≡ d
one_entry es at e d one two =
    let here = one.1 in
    let there = two.1 in
    let same : one.0 ≡ two.0 = omega arith in
    same_Some e d (sym one.2 ∙ (ap (slice_get es) same ∙ two.2))

pub after_first : (es : List Entry) (at : ℕ) (e : Entry) → EntryAt es at e → 1 ≤ at
after_first es at e there =
    let is = there.1 in
    omega arith

name_exact : (a b : ProcessName) → derived.ghosts.eq a b ≡ true → a ≡ b
name_exact a b h = grind (arith, common_steps)

abbrev of_name : ProcessName → Process
of_name a = record { node = a.node; incarnation = a.incarnation; pid = a.pid }

name_refl : (a : ProcessName) → derived.ghosts.eq a a ≡ true
name_refl a = grind (arith, common_steps)

-- what an event makes that takes this name
pub called_so : (event : Event) (call : Option CallId) (made : MadeCall) → made_by event call ≡ Some made → NamesItsCall event call → (event ≡ AtNode made.id.node (Call made.pid made.op)) × (call ≡ Some made.id)
called_so (AtNode node (Call pid op)) (Some id) made is its =
    let here : MadeCall = record { id = id; pid = pid; op = op } in
    let same : here ≡ made = same_Some here made is in (
      ap (λ (n : ℕ). AtNode n (Call pid op)) (sym its) ∙ ap (λ (m : MadeCall). AtNode m.id.node (Call m.pid m.op)) same,
      ap (λ (m : MadeCall). Some m.id) same,
    )
called_so (AtNode node (Call pid op)) None made is its = absurd its
called_so (AtNode node (Interrupt pid)) call made is its = absurd (none-some made is)
called_so (AtNode node (Retry pid)) call made is its = absurd (none-some made is)
called_so (AtServer file input) call made is its = absurd (none-some made is)
called_so (Deliver m) call made is its = absurd (none-some made is)
called_so (Member event) call made is its = absurd (none-some made is)

-- before the first entry no call is noted
pub none_last : (es : List Entry) (kept : LastCalls) → kept.entries ≡ [] → AreLast es kept 0
none_last es kept empty = record {
  sound = λ p at there. absurd (none-some at (ap (λ (es : List (ProcessName × ℕ)). lookup (derived.ghosts.eq (name_of p)) es) (sym empty) ∙ there));
  upper = λ p at called le.
      let up = after_first es at called.3.calling called.3.there in
      absurd (omega arith);
}

module _ (es : List Entry) (at : ℕ) (e : Entry) (there : EntryAt es at e) where
  -- a call that stands there is the one that the entry makes
  pub made_there : (id : CallId) (pid : ℕ) (op : Op) → IsCalledAt es id pid op at → made_by e.event e.call ≡ Some (record { id = id; pid = pid; op = op })
  made_there id pid op is =
      let same : is.calling ≡ e = one_entry es at is.calling e is.there there in
      let event : e.event ≡ AtNode id.node (Call pid op) = ap (λ (d : Entry). d.event) (sym same) ∙ is.is_call in
      let named : e.call ≡ Some id = ap (λ (d : Entry). d.call) (sym same) ∙ is.named in
      ap (λ (v : Event). made_by v e.call) event ∙ ap (made_by (AtNode id.node (Call pid op))) named

  -- the process of the call that the entry makes
  process_there : (made : MadeCall) → made_by e.event e.call ≡ Some made → (p : Process) → IsCallBy es p at → name_of (caller made.id made.pid) ≡ name_of p
  process_there made is p called =
      let one : MadeCall = record { id = called.0; pid = p.pid; op = called.1 } in
      let same : made ≡ one = same_Some made one (sym is ∙ made_there called.0 p.pid called.1 called.3) in
      ap (λ (m : MadeCall). name_of (caller m.id m.pid)) same ∙ ap name_of called.2

  module _ (old : LastCalls) (before : ℕ) (next : at ≡ before + 1) (are : AreLast es old before) where
    pub last_noted : (new : LastCalls) (made : MadeCall) → NotesLast old (name_of (caller made.id made.pid)) at new → made_by e.event e.call ≡ Some made → NamesItsCall e.event e.call → AreLast es new at
    last_noted new made notes is its = record {
      sound = λ p k noted. sound_if p k (derived.ghosts.eq (name_of (caller made.id made.pid)) (name_of p)) refl noted;
      upper = λ p k called le. by p k called le (derived.ghosts.eq (name_of (caller made.id made.pid)) (name_of p)) refl;
    }
      where
        name : ProcessName
        name = name_of (caller made.id made.pid)

        taken : (p : Process) (b : Bool) → derived.ghosts.eq name (name_of p) ≡ b → last_of new (name_of p) ≡ cond b (Some at) (last_of old (name_of p))
        taken p b same = notes (name_of p) ∙ ap (λ (c : Bool). cond c (Some at) (last_of old (name_of p))) same

        sound_if : (p : Process) (k : ℕ) (b : Bool) → derived.ghosts.eq name (name_of p) ≡ b → last_of new (name_of p) ≡ Some k → IsCallBy es p k
        sound_if p k true same noted =
            let so = called_so e.event e.call made is its in
            let mine : IsCallBy es (caller made.id made.pid) at = (made.id, made.op, refl, record { calling = e; there = there; is_call = so.0; named = so.1 }) in
            let this : caller made.id made.pid ≡ p = ap of_name (name_exact name (name_of p) same) in
            let here : at ≡ k = same_Some at k (sym (taken p true same) ∙ noted) in
            subst (IsCallBy es p) here (subst (λ (q : Process). IsCallBy es q at) this mine)
        sound_if p k false other noted = are.sound p k (sym (taken p false other) ∙ noted)

        by : (p : Process) (k : ℕ) → IsCallBy es p k → k ≤ at → (b : Bool) → derived.ghosts.eq name (name_of p) ≡ b → IsUpTo k (last_of new (name_of p))
        by p k called le true same = (at, taken p true same, le)
        by p k called le false other = elim (cases_eq k at) [
          | inl here ↦
              let this = process_there made is p (subst (IsCallBy es p) here called) in
              absurd (both_ways (derived.ghosts.eq name (name_of p)) other (ap (derived.ghosts.eq name) (sym this) ∙ name_refl name))
          | inr apart ↦
              let follows = next in
              let found = are.upper p k called (omega arith) in
              (found.0, taken p false other ∙ found.1, found.2)
        ]

    pub last_unnoted : made_by e.event e.call ≡ None → AreLast es old at
    last_unnoted none = record {
      sound = are.sound;
      upper = λ p k called le. elim (cases_eq k at) [
        | inl here ↦
            let this = subst (IsCallBy es p) here called in
            absurd (none-some (record { id = this.0; pid = p.pid; op = this.1 }) (sym none ∙ made_there this.0 p.pid this.1 this.3))
        | inr apart ↦ let follows = next in are.upper p k called (omega arith)
      ];
    }

-- the noted position is that of the last call of the process
pub is_last_call : (es : List Entry) (kept : LastCalls) → AreLast es kept (length es) → (id : CallId) (pid at last : ℕ) → last_of kept (name_of (caller id pid)) ≡ Some last → last ≤ at → IsLastCall es id pid at
is_last_call es kept are id pid at last is le = λ later op k same called.
    let found = are.upper (caller id pid) k (later, op, same, called) (within es k called.calling called.there) in
    let noted : found.0 ≡ last = same_Some found.0 last (sym found.1 ∙ is) in
    let up = found.2 in
    omega arith

module _ (IsSo : CallId → ℕ → Type 0) (old : Positions) (before at : ℕ) (next : at ≡ before + 1) (found : AreFound IsSo old before) where
  pub noted : (new : Positions) (id : CallId) → Notes old id at new → IsSo id at → ((x : CallId) → IsSo x at → x ≡ id) → AreFound IsSo new at
  noted new id notes so only = record {
    sound = λ x k there. sound_if x k (same_call x id) refl (sym (notes x) ∙ there);
    complete = λ x k is le. subst (λ (o : Option ℕ). IsSome o) (sym (notes x)) (complete_if x k (same_call x id) refl is le);
  }
    where
      sound_if : (x : CallId) (k : ℕ) (b : Bool) → same_call x id ≡ b → (if b then Some at else position_of_call old x) ≡ Some k → IsSo x k
      sound_if x k true same there = subst (λ (y : CallId). IsSo y k) (sym (call_exact x id same)) (subst (IsSo id) (same_Some at k there) so)
      sound_if x k false other there = found.sound x k there

      complete_if : (x : CallId) (k : ℕ) (b : Bool) → same_call x id ≡ b → IsSo x k → k ≤ at → IsSome (if b then Some at else position_of_call old x)
      complete_if x k true same is le = refl
      complete_if x k false other is le = elim (cases_eq k at) [
        | inl same ↦
            let this = only x (subst (IsSo x) same is) in
            absurd (both_ways (same_call x id) other (subst (λ (y : CallId). same_call x y ≡ true) this (call_refl x)))
        | inr apart ↦ let follows = next in found.complete x k is (omega arith)
      ]

  pub unnoted : ((x : CallId) → IsSo x at → ⊥) → AreFound IsSo old at
  unnoted none = record {
    sound = found.sound;
    complete = λ x k is le. elim (cases_eq k at) [
      | inl same ↦ absurd (none x (subst (IsSo x) same is))
      | inr apart ↦ let follows = next in found.complete x k is (omega arith)
    ];
  }

-- before the first entry no call and no reply is noted
pub none_found : (IsSo : CallId → ℕ → Type 0) (kept : Positions) → kept.entries ≡ [] → ((id : CallId) (at : ℕ) → IsSo id at → 1 ≤ at) → AreFound IsSo kept 0
none_found IsSo kept empty first = record {
  sound = λ id at there. absurd (none-some at (ap (λ (es : List (CallId × ℕ)). lookup (same_call id) es) (sym empty) ∙ there));
  complete = λ id at is le.
      let up = first id at is in
      absurd (omega arith);
}

pub times_at_first : (es : List Entry) (times : CallTimes) → times.begins.entries ≡ [] → times.ends.entries ≡ [] → times.lasts.entries ≡ [] → AreTimes es times 0
times_at_first es times begins ends lasts = record {
  begins = none_found (IsMade es) times.begins begins (λ id at is. after_first es at is.2.calling is.2.there);
  ends = none_found (IsAnswered es) times.ends ends (λ id at is. after_first es at is.1.replying is.1.there);
  lasts = none_last es times.lasts lasts;
}

module _ (es : List Entry) (at : ℕ) (e : Entry) (there : EntryAt es at e) where
  -- the entry makes the call
  made_event : (id : CallId) (event : Event) → e.event ≡ event → e.call ≡ Some id → NamesItsCall event (Some id) → (pid : ℕ) × (op : Op) × IsCalledAt es id pid op at
  made_event id (AtNode node (Call pid op)) is named its = (pid, op, record { calling = e; there = there; is_call = is ∙ ap (λ (n : ℕ). AtNode n (Call pid op)) (sym its); named = named })
  made_event id (AtNode node (Interrupt pid)) is named its = absurd (none-some id (sym its))
  made_event id (AtNode node (Retry pid)) is named its = absurd (none-some id (sym its))
  made_event id (AtServer file input) is named its = absurd (none-some id (sym its))
  made_event id (Deliver m) is named its = absurd (none-some id (sym its))
  made_event id (Member event) is named its = absurd (none-some id (sym its))

  pub made_here : (id : CallId) → e.call ≡ Some id → NamesItsCall e.event (Some id) → IsMade es id at
  made_here id named its = made_event id e.event refl named its

  pub made_once : (id : CallId) → e.call ≡ Some id → (x : CallId) → IsMade es x at → x ≡ id
  made_once id named x is =
      let same = one_entry es at is.2.calling e is.2.there there in
      same_Some x id (sym is.2.named ∙ (ap (λ (d : Entry). d.call) same ∙ named))

  pub made_never : e.call ≡ None → (x : CallId) → IsMade es x at → ⊥
  made_never none x is =
      let same = one_entry es at is.2.calling e is.2.there there in
      none-some x (sym none ∙ (ap (λ (d : Entry). d.call) (sym same) ∙ is.2.named))

  -- the entry answers the call
  pub answered_here : (id : CallId) (reply : Reply) → e.reply ≡ Some (id, reply) → IsAnswered es id at
  answered_here id reply is = (reply, record { replying = e; there = there; is_reply = is })

  pub answered_once : (id : CallId) (reply : Reply) → e.reply ≡ Some (id, reply) → (x : CallId) → IsAnswered es x at → x ≡ id
  answered_once id reply named x is =
      let same = one_entry es at is.1.replying e is.1.there there in
      ap (λ (r : CallId × Reply). r.0) (same_Some (x, is.0) (id, reply) (sym is.1.is_reply ∙ (ap (λ (d : Entry). d.reply) same ∙ named)))

  pub answered_never : e.reply ≡ None → (x : CallId) → IsAnswered es x at → ⊥
  answered_never none x is =
      let same = one_entry es at is.1.replying e is.1.there there in
      none-some (x, is.0) (sym none ∙ (ap (λ (d : Entry). d.reply) (sym same) ∙ is.1.is_reply))

-- the positions that an item of a history needs are noted
module _ (es : List Entry) (times : CallTimes) (are : AreTimes es times (length es)) where
  place_within : (at : ℕ) (e : Entry) → EntryAt es at e → at ≤ length es
  place_within at e there = within es at e there

  pub item_known : (i : Item) → IsPlaced (IsOpenAt es) es i → IsKnown times i
  item_known (Answered at id pid op reply) placed = (
    are.begins.complete id placed.call_at (pid, op, placed.called) (place_within placed.call_at placed.called.calling placed.called.there),
    are.ends.complete id placed.reply_at (reply, placed.replied) (place_within placed.reply_at placed.replied.replying placed.replied.there),
  )
  item_known (Gone at node incarnation) placed = tt

  pub item_timed : OneCall es → OneReply es → (i : Item) (begin end : ℕ) → IsPlaced (IsOpenAt es) es i → IsKept times i begin end → IsTimed es i begin end
  item_timed one_call one_reply (Answered at id pid op reply) begin end placed kept =
      let made = are.begins.sound id begin kept.0 in
      let answered = are.ends.sound id end kept.1 in
      let begins : placed.call_at ≡ begin = one_call id pid made.0 op made.1 placed.call_at begin placed.called made.2 in
      let ends : placed.reply_at ≡ end = one_reply id reply answered.0 placed.reply_at end placed.replied answered.1 in
      (subst (IsCalledAt es id pid op) begins placed.called, subst (IsRepliedAt es id reply) ends placed.replied, subst (λ (n : ℕ). n ≤ at) begins placed.after, subst (λ (n : ℕ). at ≤ n) ends placed.before)
  item_timed one_call one_reply (Gone at node incarnation) begin end placed kept = (placed, kept.0, kept.1)

some_of : (x : Option ℕ) → is_some x ≡ true → (n : ℕ) × (x ≡ Some n)
some_of None h = absurd (false≢true h)
some_of (Some n) h = (n, refl)

-- the open calls up to a position, and then those from there on
module _ (es : List Entry) (last : Table) where
  none_joined : (from mid below : ℕ) → NoneIsOpen es last from (mid + 1) → NoneIsOpen es last mid below → NoneIsOpen es last from below
  none_joined from mid below one two = λ s o lo hi. elim (cases_lt s.begin (mid + 1)) [
    | inl early ↦ one s o lo early
    | inr late ↦ two s o (omega arith) hi
  ]

  pub joined_open : (from mid below : ℕ) (xs ys : List FileCall) → from ≤ mid → mid < below → AreOpen es last from (mid + 1) xs → AreOpen es last mid below ys → AreOpen es last from below (xs ++ ys)
  joined_open from mid below [] [] up lt one two = none_joined from mid below one two
  joined_open from mid below [] (y ∷ ys) up lt one two =
      let behind = two.1 in
      (two.0, omega arith, two.2, none_joined from mid y.begin one two.3, two.4)
  joined_open from mid below (x ∷ xs) ys up lt one two =
      let before = one.2 in
      (one.0, one.1, omega arith, one.3, joined_open x.begin mid below xs ys (omega arith) lt one.4 two)

  pub each_open : (from below : ℕ) (xs : List FileCall) → AreOpen es last from below xs → AllByRecursion (IsOpenCall es last) xs
  each_open from below [] h = tt
  each_open from below (x ∷ xs) h = (h.0, each_open x.begin below xs h.4)

  pub opened_none : (seen : List FileCall) → HasOpened es last 0 (0 + 1) seen seen
  opened_none seen = ([], sym (append-nil seen), λ s o lo hi. omega arith)

  pub opened_more : (from mid below : ℕ) (old seen new : List FileCall) → from ≤ mid → mid < below → HasOpened es last from (mid + 1) old seen → HasOpened es last mid below seen new → HasOpened es last from below old new
  opened_more from mid below old seen new up lt before after =
      (before.0 ++ after.0, after.1 ∙ (ap (λ (ss : List FileCall). ss ++ after.0) before.1 ∙ append_assoc old before.0 after.0), joined_open from mid below before.0 after.0 up lt before.2 after.2)

-- the open call of the entry at a position, if it makes one
module _ (es : List Entry) (last : Table) (times : CallTimes) (at before : ℕ) (e : Entry) (there : EntryAt es at e) (next : at ≡ before + 1) (are : AreTimes es times (length es)) where
  none_opened : ((s : FileCall) → IsOpenCall es last s → s.begin ≡ at → ⊥) → (old : List FileCall) → HasOpened es last before (at + 1) old old
  none_opened none old = ([], sym (append-nil old), λ s o lo hi. let follows = next in none s o (omega arith))

  its_call : (s : FileCall) (o : IsOpenCall es last s) → s.begin ≡ at → made_by e.event e.call ≡ Some (record { id = o.id; pid = o.pid; op = s.op })
  its_call s o here = made_there es at e there o.id o.pid s.op (subst (IsCalledAt es o.id o.pid s.op) here o.called)

  pub opened_unmade : made_by e.event e.call ≡ None → (old : List FileCall) → HasOpened es last before (at + 1) old old
  opened_unmade none old = none_opened (λ s o here. none-some (record { id = o.id; pid = o.pid; op = s.op }) (sym none ∙ its_call s o here)) old

  module _ (made : MadeCall) (is : made_by e.event e.call ≡ Some made) where
    same_made : (s : FileCall) (o : IsOpenCall es last s) → s.begin ≡ at → (let one : MadeCall = record { id = o.id; pid = o.pid; op = s.op } in made ≡ one)
    same_made s o here = same_Some made (record { id = o.id; pid = o.pid; op = s.op }) (sym is ∙ its_call s o here)

    pub opened_answered : is_some (position_of_call times.ends made.id) ≡ true → (old : List FileCall) → HasOpened es last before (at + 1) old old
    opened_answered found old =
        let noted = some_of (position_of_call times.ends made.id) found in
        let answered = are.ends.sound made.id noted.0 noted.1 in
        none_opened (λ s o here. o.unanswered answered.0 noted.0 (subst (λ (m : MadeCall). IsRepliedAt es m.id answered.0 noted.0) (same_made s o here) answered.1)) old

    pub opened_unnoted : last_of times.lasts (name_of (caller made.id made.pid)) ≡ None → (old : List FileCall) → HasOpened es last before (at + 1) old old
    opened_unnoted none old = none_opened (λ s o here.
        let found = are.lasts.upper (caller o.id o.pid) s.begin (o.id, s.op, refl, o.called) (within es s.begin o.called.calling o.called.there) in
        none-some found.0 (sym none ∙ (ap (λ (m : MadeCall). last_of times.lasts (name_of (caller m.id m.pid))) (same_made s o here) ∙ found.1))) old

    pub opened_followed : (noted : ℕ) → last_of times.lasts (name_of (caller made.id made.pid)) ≡ Some noted → at < noted → (old : List FileCall) → HasOpened es last before (at + 1) old old
    opened_followed noted is_noted behind old = none_opened (λ s o here.
        let later = subst (λ (m : MadeCall). IsCallBy es (caller m.id m.pid) noted) (same_made s o here) (are.lasts.sound (caller made.id made.pid) noted is_noted) in
        let up = o.last_call later.0 later.1 noted later.2 later.3 in
        omega arith) old

    pub opened_stranger : (IsNumber most_processes made.pid → ⊥) → (old : List FileCall) → HasOpened es last before (at + 1) old old
    opened_stranger strange old = none_opened (λ s o here. strange (subst (λ (m : MadeCall). IsNumber most_processes m.pid) (sym (same_made s o here)) o.process.pid_in)) old

    module _ (its : NamesItsCall e.event e.call) (none : is_some (position_of_call times.ends made.id) ≡ false) (noted : ℕ) (is_noted : last_of times.lasts (name_of (caller made.id made.pid)) ≡ Some noted) (up : noted ≤ at) (process : IsProcess (caller made.id made.pid)) where
      one_opened : (d : Deed) → lock_deed last (caller made.id made.pid) made.op Done ≡ Some d → IsOpenCall es last (call_of made.op at Never d)
      one_opened d does =
          let so = called_so e.event e.call made is its in
          record {
            id = made.id;
            pid = made.pid;
            process = process;
            called = record { calling = e; there = there; is_call = so.0; named = so.1 };
            unanswered = λ reply k h. both_ways (is_some (position_of_call times.ends made.id)) none (are.ends.complete made.id k (reply, h) (within es k h.replying h.there));
            last_call = is_last_call es times.lasts are.lasts made.id made.pid at noted is_noted up;
            deed = d;
            does = does;
            is = refl;
          }

      all_opened : (x : Option Deed) → lock_deed last (caller made.id made.pid) made.op Done ≡ x → AreOpen es last before (at + 1) (map (call_of made.op at Never) (listed x))
      all_opened None does = λ s o lo hi.
          let follows = next in
          let here : s.begin ≡ at = omega arith in
          none-some o.deed (sym does ∙ (ap (λ (m : MadeCall). lock_deed last (caller m.id m.pid) m.op Done) (same_made s o here) ∙ o.does))
      all_opened (Some d) does =
          let follows = next in
          (one_opened d does, omega arith, omega arith, λ s o lo hi. omega arith, λ s o lo hi. omega arith)

      pub opened : (p : Process) (deeds : List Deed) (old new : List FileCall) → p ≡ caller made.id made.pid → deeds ≡ [] ++ listed (lock_deed last p made.op Done) → new ≡ old ++ map (call_of made.op at Never) deeds → HasOpened es last before (at + 1) old new
      opened p deeds old new same all added =
          let x = lock_deed last (caller made.id made.pid) made.op Done in
          let these : deeds ≡ listed x = all ∙ ap (λ (q : Process). listed (lock_deed last q made.op Done)) same in
          (map (call_of made.op at Never) (listed x), added ∙ ap (λ (ds : List Deed). old ++ map (call_of made.op at Never) ds) these, all_opened x refl)
