-- The slots of a run, as it goes on.
use Rattle.std.proofs.Common.{◌≡◌, ℕ, zero, suc, ◌+◌, ◌<◌, ◌≤◌, Bool, true, false, not, cond, ◌⊎◌, inl, inr, refl, sym, ◌∙◌, ap, subst, arith, List, [], ◌∷◌, ◌++◌, length, length-append, append-nil, append_assoc, slice_get, slice_set, position, nat_lt, Option, Some, None}
use Rattle.std.specs.Prelude.{⊤}
use Rattle.std.specs.List.{position_or_len}
use Rattle.std.proofs.lemmas.Option.{slice_get_within, none-some, same_Some}
use Rattle.std.proofs.lemmas.List.{length-set}
use Rattle.std.proofs.lemmas.Bool.{cases_eq, cases_order, both_ways}
use Rattle.std.proofs.lemmas.Bool.Decides.{nat_tests}
use Rattle.model.specs.declared.call.CallId.{CallId}
use Rattle.model.specs.declared.host.Host.{Host}
use Rattle.model.specs.declared.lock_info.LockInfo.{LockInfo}
use Rattle.model.specs.declared.op.Op.{Op}
use Rattle.model.specs.declared.reply.Reply.{Reply}
use Rattle.model.specs.rule.Replay.{NamesNoLock}
use Rattle.model.specs.rule.Table.{Table, empty_table}
use Rattle.messages.specs.rule.Shapes.{most_regions, ShapeFields}
use Rattle.messages.specs.declared.message.Message.TheVariants.{Conflict, Deny}
use Rattle.messages.specs.declared.event.Event.{Event}
use Rattle.messages.specs.declared.event.Event.TheVariants.{Deliver, Member}
use Rattle.messages.specs.declared.event.MemberEvent.TheVariants.{Declare}
use Rattle.messages.specs.declared.entry.Entry.{Entry}
use Rattle.cluster_core.specs.declared.item.Item.{Item}
use Rattle.cluster_core.specs.declared.item.Item.TheVariants.{Answered, Gone}
use Rattle.cluster_core.specs.rule.Histories.{position_of, call_id, ItemStep, Legal, Rising, EntryAt, IsRepliedAt, IsOpenAt, IsPlaced, Fits, FitsBy, OneReply, IsRevokedAt, IsPlaceOf, IsAtItsPlace, EachAtItsPlace, names_conflict, IsDeclaredAt}
use Rattle.cluster_core.specs.rule.World.{WorldState, first_world}
use Rattle.cluster_core.specs.rule.Runs.{Leads}
use Rattle.cluster_core.specs.rule.Union.{union}
use Rattle.cluster_core.specs.code.Calls.{Slots, slots_after, slots_from, slots_of, items_in}
use Rattle.cluster_core.proofs.common.Places.{slice_get-keeps, slice_get-last, slice_get-push}
use Rattle.cluster_core.proofs.history.Entries.{entry_at-keeps, entry_at-push, entry_at-within, called_at-keeps, replied_at-keeps, replied_at-push, none_replied}
use Rattle.cluster_core.proofs.history.Unions.{union_first}
use Rattle.cluster_core.proofs.history.Prefixes.{table_at, table_at-is, table_at-keeps, after_all}

-- the slots of a run with one more entry
slots_from-push : (past : List Entry) (slots : Slots) (es : List Entry) (e : Entry) → slots_from past slots (es ++ e ∷ []) ≡ slots_after (past ++ es) (slots_from past slots es) e e.reply
slots_from-push past slots [] e = ap (λ (p : List Entry). slots_after p slots e e.reply) (sym (append-nil past))
slots_from-push past slots (d ∷ ds) e =
    let first = slots_after past slots d d.reply in
    slots_from-push (past ++ d ∷ []) first ds e
    ∙ ap (λ (p : List Entry). slots_after p (slots_from (past ++ d ∷ []) first ds) e e.reply) (append_assoc past (d ∷ []) ds)

pub slots_of-push : (es : List Entry) (e : Entry) → slots_of (es ++ e ∷ []) ≡ slots_after es (slots_of es) e e.reply
slots_of-push es e = slots_from-push [] [] es e

-- a slot that is set
pub slice_get-set : {A : Type 0} (xs : List A) (k : ℕ) (x : A) → k < length xs → slice_get (slice_set xs k x) k ≡ Some x
slice_get-set [] k x lt = absurd (omega arith)
slice_get-set (y ∷ ys) zero x lt = refl
slice_get-set (y ∷ ys) (suc k) x lt = slice_get-set ys k x (omega arith)

pub slice_get-other : {A : Type 0} (xs : List A) (k q : ℕ) (x : A) → (q ≡ k → ⊥) → slice_get (slice_set xs k x) q ≡ slice_get xs q
slice_get-other [] k q x other = refl
slice_get-other (y ∷ ys) zero zero x other = absurd (other refl)
slice_get-other (y ∷ ys) zero (suc q) x other = refl
slice_get-other (y ∷ ys) (suc k) zero x other = refl
slice_get-other (y ∷ ys) (suc k) (suc q) x other = slice_get-other ys k q x (λ same. other (ap suc same))

-- the first element that passes
module _ {A : Type 0} (p : A → Bool) (x : A) (passes : p x ≡ true) where
  first_at : (ys : List A) (n : ℕ) → slice_get ys n ≡ Some x → ((j : ℕ) (y : A) → j < n → slice_get ys j ≡ Some y → p y ≡ false) → position_or_len p ys ≡ n
  first_at [] n h none = absurd (none-some x h)
  first_at (y ∷ ys) zero h none = let same = same_Some y x h in ap (λ (b : Bool). cond (not b) (1 + position_or_len p ys) 0) (ap p same ∙ passes)
  first_at (y ∷ ys) (suc n) h none =
      ap (λ (b : Bool). cond (not b) (1 + position_or_len p ys) 0) (none zero y (omega arith) refl)
      ∙ (ap (λ (m : ℕ). 1 + m) (first_at ys n h (λ j z lt g. none (suc j) z (omega arith) g)) ∙ omega arith)

  pub position-first : (xs : List A) (k : ℕ) → slice_get xs k ≡ Some x → ((j : ℕ) (y : A) → j < k → slice_get xs j ≡ Some y → p y ≡ false) → position p xs ≡ Some k
  position-first xs k at first =
      let lt = slice_get_within xs k x at in
      let within : nat_lt k (length xs) ≡ true = grind (arith, nat_tests) in
      ap (λ (n : ℕ). cond (nat_lt n (length xs)) (Some n) None) (first_at xs k at first) ∙ ap (λ (b : Bool). cond b (Some k) None) within

-- the item of a slot leads from one table to the next; an empty slot leaves the table
abbrev pub SlotStep : Table → Option Item → Table → Type 0
SlotStep t None u = t ≡ u
SlotStep t (Some i) u = ItemStep t i u

-- the items in the slots lead from the first table to the last
pub legal_slots : (slots : Slots) (tables : ℕ → Table) → ((k : ℕ) (o : Option Item) → slice_get slots k ≡ Some o → SlotStep (tables k) o (tables (suc k))) → Legal (tables zero) (items_in slots) (tables (length slots))
legal_slots [] tables steps = refl
legal_slots (None ∷ os) tables steps =
    let P : Table → Type 0 = λ t. Legal t (items_in os) (tables (suc (length os))) in
    subst P (sym (steps zero None refl)) (legal_slots os (λ k. tables (suc k)) (λ k o h. steps (suc k) o h))
legal_slots (Some i ∷ os) tables steps = (tables (suc zero), steps zero (Some i) refl, legal_slots os (λ k. tables (suc k)) (λ k o h. steps (suc k) o h))

-- from the empty table to the union after a run, where the slots lead from each union to the next
pub legal_union : (shape : ShapeFields) (es : List Entry) (slots : Slots) → length slots ≡ length es → ((k : ℕ) (o : Option Item) → slice_get slots k ≡ Some o → SlotStep (table_at shape es k) o (table_at shape es (suc k))) → (w : WorldState) → Leads (first_world shape) es w → Legal (empty_table (most_regions shape.version)) (items_in slots) (union w)
legal_union shape es slots long steps w l =
    let P : Table → Type 0 = λ t. Legal t (items_in slots) (union w) in
    let Q : Table → Type 0 = λ t. Legal (table_at shape es zero) (items_in slots) t in
    let first : table_at shape es zero ≡ empty_table (most_regions shape.version) = table_at-is shape es zero (first_world shape) refl ∙ sym (union_first shape) in
    let last : table_at shape es (length slots) ≡ union w = table_at-is shape es (length slots) w (after_all shape es (length slots) w (omega arith) l) in
    subst P first (subst Q last (legal_slots slots (table_at shape es) steps))

-- each item is that of a slot
pub in_slot : (slots : Slots) (k : ℕ) (i : Item) → slice_get (items_in slots) k ≡ Some i → (q : ℕ) × (slice_get slots q ≡ Some (Some i))
in_slot [] k i h = absurd (cc)
in_slot (None ∷ os) k i h = let later = in_slot os k i h in (suc later.0, later.1)
in_slot (Some j ∷ os) zero i h = (zero, ap Some h)
in_slot (Some j ∷ os) (suc k) i h = let later = in_slot os k i h in (suc later.0, later.1)

pub slot_in : (slots : Slots) (q : ℕ) (i : Item) → slice_get slots q ≡ Some (Some i) → (k : ℕ) × (slice_get (items_in slots) k ≡ Some i)
slot_in [] q i h = absurd (cc)
slot_in (None ∷ os) zero i h = absurd (cc)
slot_in (Some j ∷ os) zero i h = (zero, same_Some (Some j) (Some i) h)
slot_in (None ∷ os) (suc q) i h = slot_in os q i h
slot_in (Some j ∷ os) (suc q) i h = let later = slot_in os q i h in (suc later.0, later.1)

-- each item has the position of its slot, where the first is that after `from`
abbrev pub ArePositions : ℕ → Slots → Type 0
ArePositions from slots = (q : ℕ) (i : Item) → slice_get slots q ≡ Some (Some i) → position_of i ≡ from + q + 1

later_positions : (from : ℕ) (o : Option Item) (os : Slots) → ArePositions from (o ∷ os) → ArePositions (suc from) os
later_positions from o os are q i h = let is = are (suc q) i h in omega arith

pub rising_slots : (from : ℕ) (slots : Slots) → ArePositions from slots → (j k : ℕ) (a b : Item) → j < k → slice_get (items_in slots) j ≡ Some a → slice_get (items_in slots) k ≡ Some b → position_of a < position_of b
rising_slots from [] are j k a b lt x y = absurd (none-some a x)
rising_slots from (None ∷ os) are j k a b lt x y = rising_slots (suc from) os (later_positions from None os are) j k a b lt x y
rising_slots from (Some i ∷ os) are j zero a b lt x y = absurd (omega arith)
rising_slots from (Some i ∷ os) are zero (suc k) a b lt x y =
    let at = in_slot os k b y in
    let first = are zero i refl in
    let second = are (suc at.0) b at.1 in
    let same = ap position_of (same_Some i a x) in
    omega arith
rising_slots from (Some i ∷ os) are (suc j) (suc k) a b lt x y = rising_slots (suc from) os (later_positions from (Some i) os are) j k a b (omega arith) x y

-- the reason why the item of a call stands at an entry: the entry answers the call, or sends the conflict for which it is denied
abbrev pub IsMark : Entry → CallId → Type 0
IsMark e id = ((reply : Reply) × (e.reply ≡ Some (id, reply))) ⊎ ((file : ℕ) × (holder : Host) × (number : ℕ) × (lock : LockInfo) × (e.sends ≡ Conflict file number holder id lock ∷ []))

pub record IsStanding (es : List Entry) (id : CallId) (pid : ℕ) (op : Op) (reply : Reply) (at : ℕ) : Type 0 where
  pub interval : IsOpenAt es id pid op reply at
  pub place : IsAtItsPlace es id pid op reply at
  pub plain : NamesNoLock reply → IsRepliedAt es id reply at
  pub marking : Entry
  pub there : EntryAt es at marking
  pub mark : IsMark marking id

abbrev pub Stands : List Entry → ℕ → Item → Type 0
Stands es q (Answered at id pid op reply) = (at ≡ q + 1) × IsStanding es id pid op reply at
Stands es q (Gone at node incarnation) = (at ≡ q + 1) × IsDeclaredAt es node incarnation at

-- a slot has the call
abbrev pub HasSlot : Slots → CallId → Reply → Type 0
HasSlot slots id reply = (q : ℕ) × (at : ℕ) × (pid : ℕ) × (op : Op) × (slice_get slots q ≡ Some (Some (Answered at id pid op reply)))

-- each declared failure has its slot
abbrev pub AllGone : List Entry → Slots → Type 0
AllGone es slots = (node incarnation at : ℕ) → IsDeclaredAt es node incarnation at → (q : ℕ) × (slice_get slots q ≡ Some (Some (Gone at node incarnation)))

-- each declared failure has a slot, what stands in the slots stands where it may, and each slot leads from one union to the next
pub record Slotted (shape : ShapeFields) (es : List Entry) (slots : Slots) : Type 0 where
  pub long : length slots ≡ length es
  pub stands : (q : ℕ) (i : Item) → slice_get slots q ≡ Some (Some i) → Stands es q i
  pub steps : (k : ℕ) (o : Option Item) → slice_get slots k ≡ Some o → SlotStep (table_at shape es k) o (table_at shape es (suc k))
  pub failures : AllGone es slots

abbrev pub AllSlotted : List Entry → Slots → Type 0
AllSlotted es slots = (id : CallId) (reply : Reply) (at : ℕ) → IsRepliedAt es id reply at → HasSlot slots id reply

-- an item that stands in a run stands in the longer run
abbrev pub revoked-keeps : (es : List Entry) (e : Entry) (file : ℕ) (holder : Host) (number at : ℕ) → IsRevokedAt es file holder number at → IsRevokedAt (es ++ e ∷ []) file holder number at
revoked-keeps es e file holder number at r = record {
  revoking = r.revoking;
  there = entry_at-keeps es (e ∷ []) at r.revoking r.there;
  names = r.names;
  first = λ k d lt h. elim (entry_at-push es e d k h) [
    | inl old ↦ r.first k d lt old
    | inr new ↦ absurd (let within = entry_at-within es at r.revoking r.there in let last = new.0 in omega arith)
  ];
}

place-keeps : (es : List Entry) (e : Entry) (event : Event) (reply_at at : ℕ) → IsPlaceOf es event reply_at at → IsPlaceOf (es ++ e ∷ []) event reply_at at
place-keeps es e (Deliver (Deny file call holder number lock)) reply_at at r = revoked-keeps es e file holder number at r
place-keeps es e event reply_at at same = same

pub stands_at-keeps : (es : List Entry) (e : Entry) (id : CallId) (pid : ℕ) (op : Op) (reply : Reply) (at : ℕ) → IsAtItsPlace es id pid op reply at → IsAtItsPlace (es ++ e ∷ []) id pid op reply at
stands_at-keeps es e id pid op reply at s = record {
  reply_at = s.reply_at;
  replying = s.replying;
  there = entry_at-keeps es (e ∷ []) s.reply_at s.replying s.there;
  is_reply = s.is_reply;
  place = place-keeps es e s.replying.event s.reply_at at s.place;
}

declared_at-keeps : (es : List Entry) (e : Entry) (node incarnation at : ℕ) → IsDeclaredAt es node incarnation at → IsDeclaredAt (es ++ e ∷ []) node incarnation at
declared_at-keeps es e node incarnation at d = record { declaring = d.declaring; there = entry_at-keeps es (e ∷ []) at d.declaring d.there; is_declare = d.is_declare; of = d.of }

-- a failure that is declared was declared before, or is declared now
pub declared_at-push : (es : List Entry) (e : Entry) (node incarnation at : ℕ) → IsDeclaredAt (es ++ e ∷ []) node incarnation at → IsDeclaredAt es node incarnation at ⊎ ((at ≡ length es + 1) × (e.event ≡ Member (Declare node)) × (e.incarnation ≡ incarnation))
declared_at-push es e node incarnation at d = elim (entry_at-push es e d.declaring at d.there) [
  | inl old ↦ inl (record { declaring = d.declaring; there = old; is_declare = d.is_declare; of = d.of })
  | inr last ↦ inr (last.0, ap (λ (x : Entry). x.event) last.1 ∙ d.is_declare, ap (λ (x : Entry). x.incarnation) last.1 ∙ d.of)
]

standing-keeps : (es : List Entry) (e : Entry) (q : ℕ) (i : Item) → Stands es q i → Stands (es ++ e ∷ []) q i
standing-keeps es e q (Answered at id pid op reply) s =
    let o = s.1.interval in (
      s.0,
      record {
        interval = record {
          call_at = o.call_at;
          reply_at = o.reply_at;
          called = called_at-keeps es (e ∷ []) id pid op o.call_at o.called;
          replied = replied_at-keeps es (e ∷ []) id reply o.reply_at o.replied;
          after = o.after;
          before = o.before;
        };
        place = stands_at-keeps es e id pid op reply at s.1.place;
        plain = λ none. replied_at-keeps es (e ∷ []) id reply at (s.1.plain none);
        marking = s.1.marking;
        there = entry_at-keeps es (e ∷ []) at s.1.marking s.1.there;
        mark = s.1.mark;
      },
    )
standing-keeps es e q (Gone at node incarnation) s = (s.0, declared_at-keeps es e node incarnation at s.1)

pub step_between : (t u v w : Table) (o : Option Item) → v ≡ t → w ≡ u → SlotStep t o u → SlotStep v o w
step_between t u v w o first last step = subst (λ (x : Table). SlotStep x o w) (sym first) (subst (λ (x : Table). SlotStep t o x) (sym last) step)

-- one more entry, with its slot
module _ (shape : ShapeFields) (es : List Entry) (slots : Slots) (e : Entry) (o : Option Item) where
  pub slotted-push : ((i : Item) → o ≡ Some i → Stands (es ++ e ∷ []) (length es) i) → SlotStep (table_at shape es (length es)) o (table_at shape (es ++ e ∷ []) (suc (length es))) → ((node : ℕ) → e.event ≡ Member (Declare node) → o ≡ Some (Gone (length es + 1) node e.incarnation)) → Slotted shape es slots → Slotted shape (es ++ e ∷ []) (slots ++ o ∷ [])
  slotted-push stand step declares s = record {
    failures = λ node incarnation at d. elim (declared_at-push es e node incarnation at d) [
      | inl old ↦ let there = s.failures node incarnation at old in (there.0, slice_get-keeps slots (o ∷ []) there.0 (Some (Gone at node incarnation)) there.1)
      | inr new ↦ (length slots, slice_get-last slots o ∙ ap Some (declares node new.1 ∙ (λ j. Some (Gone (sym new.0 j) node (new.2 j)))))
    ];
    long = let a = length-append slots (o ∷ []) in let b = length-append es (e ∷ []) in let l = s.long in omega arith;
    stands = λ q i h. elim (slice_get-push slots o q (Some i) h) [
      | inl old ↦ standing-keeps es e q i (s.stands q i old)
      | inr new ↦ subst (λ (n : ℕ). Stands (es ++ e ∷ []) n i) (sym (new.0 ∙ s.long)) (stand i new.1)
    ];
    steps = λ k p h. elim (slice_get-push slots o k p h) [
      | inl old ↦
          let lt = slice_get_within slots k p old in
          let l = s.long in
          let first : k ≤ length es = omega arith in
          let second : suc k ≤ length es = omega arith in
          step_between (table_at shape es k) (table_at shape es (suc k)) (table_at shape (es ++ e ∷ []) k) (table_at shape (es ++ e ∷ []) (suc k)) p (table_at-keeps shape es (e ∷ []) k first) (table_at-keeps shape es (e ∷ []) (suc k) second) (s.steps k p old)
      | inr new ↦
          let last = new.0 ∙ s.long in
          let P : ℕ → Type 0 = λ n. SlotStep (table_at shape (es ++ e ∷ []) n) p (table_at shape (es ++ e ∷ []) (suc n)) in
          let here = step_between (table_at shape es (length es)) (table_at shape (es ++ e ∷ []) (suc (length es))) (table_at shape (es ++ e ∷ []) (length es)) (table_at shape (es ++ e ∷ []) (suc (length es))) o (table_at-keeps shape es (e ∷ []) (length es) (omega arith)) refl step in
          subst P (sym last) (subst (λ (x : Option Item). SlotStep (table_at shape (es ++ e ∷ []) (length es)) x (table_at shape (es ++ e ∷ []) (suc (length es)))) new.1 here)
    ];
  }

-- an empty slot is filled
module _ (shape : ShapeFields) (es : List Entry) (slots : Slots) (p : ℕ) (i : Item) (empty : slice_get slots p ≡ Some None) where
  within : p < length slots
  within = slice_get_within slots p None empty

  pub slotted-fill : Stands es p i → ItemStep (table_at shape es (suc p)) i (table_at shape es (suc p)) → Slotted shape es slots → Slotted shape es (slice_set slots p (Some i))
  slotted-fill stand step s = record {
    failures = λ node incarnation at d.
        let there = s.failures node incarnation at d in
        elim (cases_eq there.0 p) [
          | inl same ↦ absurd (none-some (Gone at node incarnation) (same_Some None (Some (Gone at node incarnation)) (sym empty ∙ (ap (slice_get slots) (sym same) ∙ there.1))))
          | inr other ↦ (there.0, slice_get-other slots p there.0 (Some i) other ∙ there.1)
        ];
    long = length-set slots p (Some i) ∙ s.long;
    stands = λ q j h. elim (cases_eq q p) [
      | inl same ↦ subst (λ (n : ℕ). Stands es n j) (sym same) (subst (Stands es p) (item_there q j same h) stand)
      | inr other ↦ s.stands q j (sym (slice_get-other slots p q (Some i) other) ∙ h)
    ];
    steps = λ k o h. elim (cases_eq k p) [
      | inl same ↦
          let P : ℕ → Type 0 = λ n. SlotStep (table_at shape es n) o (table_at shape es (suc n)) in
          let there : Some (Some i) ≡ Some o = sym (slice_get-set slots p (Some i) within) ∙ (ap (λ (n : ℕ). slice_get (slice_set slots p (Some i)) n) (sym same) ∙ h) in
          let unchanged : table_at shape es p ≡ table_at shape es (suc p) = s.steps p None empty in
          let here : SlotStep (table_at shape es p) (Some i) (table_at shape es (suc p)) = subst (λ (t : Table). ItemStep t i (table_at shape es (suc p))) (sym unchanged) step in
          subst P (sym same) (subst (λ (x : Option Item). SlotStep (table_at shape es p) x (table_at shape es (suc p))) (same_Some (Some i) o there) here)
      | inr other ↦ s.steps k o (sym (slice_get-other slots p k (Some i) other) ∙ h)
    ];
  }
    where
      item_there : (q : ℕ) (j : Item) → q ≡ p → slice_get (slice_set slots p (Some i)) q ≡ Some (Some j) → i ≡ j
      item_there q j same h =
          let there : Some (Some i) ≡ Some (Some j) = sym (slice_get-set slots p (Some i) within) ∙ (ap (λ (n : ℕ). slice_get (slice_set slots p (Some i)) n) (sym same) ∙ h) in
          same_Some i j (same_Some (Some i) (Some j) there)

  -- the other slots stay as they are
  pub has_slot-set : (id : CallId) (reply : Reply) → HasSlot slots id reply → HasSlot (slice_set slots p (Some i)) id reply
  has_slot-set id reply s = elim (cases_eq s.0 p) [
    | inl same ↦ absurd (full_or_not (sym s.4 ∙ (ap (slice_get slots) same ∙ empty)))
    | inr other ↦ (s.0, s.1, s.2, s.3, slice_get-other slots p s.0 (Some i) other ∙ s.4)
  ]
    where
      full_or_not : ◌≡◌ {A = Option (Option Item)} (Some (Some (Answered s.1 id s.2 s.3 reply))) (Some None) → ⊥
      full_or_not h = none-some (Answered s.1 id s.2 s.3 reply) (sym (same_Some (Some (Answered s.1 id s.2 s.3 reply)) None h))

pub has_slot-keeps : (slots more : Slots) (id : CallId) (reply : Reply) → HasSlot slots id reply → HasSlot (slots ++ more) id reply
has_slot-keeps slots more id reply s = (s.0, s.1, s.2, s.3, slice_get-keeps slots more s.0 (Some (Answered s.1 id s.2 s.3 reply)) s.4)

pub all_slotted-push : (es : List Entry) (slots later : Slots) (e : Entry) → AllSlotted es slots → ((id : CallId) (reply : Reply) → HasSlot slots id reply → HasSlot later id reply) → ((id : CallId) (reply : Reply) → e.reply ≡ Some (id, reply) → HasSlot later id reply) → AllSlotted (es ++ e ∷ []) later
all_slotted-push es slots later e all kept new id reply at r = elim (replied_at-push es e id reply at r) [ inl old ↦ kept id reply (all id reply at old) | inr last ↦ new id reply last.1 ]

-- the slots before the first entry
pub slotted_first : (shape : ShapeFields) → Slotted shape [] []
slotted_first shape = record {
  long = refl;
  stands = λ q i h. absurd (none-some (Some i) h);
  steps = λ k o h. absurd (none-some o h);
  failures = λ node incarnation at d. absurd (none-some d.declaring d.there.2);
}

pub all_slotted_first : AllSlotted [] []
all_slotted_first id reply at r = absurd (none_replied id reply at r)

-- one entry stands at a position, and a call has one place
pub entry_at-one : (es : List Entry) (at : ℕ) (e d : Entry) → EntryAt es at e → EntryAt es at d → e ≡ d
entry_at-one es at e d x y =
    let a = x.1 in
    let b = y.1 in
    let same : x.0 ≡ y.0 = omega arith in
    same_Some e d (sym x.2 ∙ (ap (slice_get es) same ∙ y.2))

pub revoked_one : (es : List Entry) (file : ℕ) (holder : Host) (number at to : ℕ) → IsRevokedAt es file holder number at → IsRevokedAt es file holder number to → at ≡ to
revoked_one es file holder number at to a b = elim (cases_order at to) [
  | inl same ↦ same
  | inr apart ↦ elim apart [
    | inl lt ↦ absurd (both_ways (names_conflict file holder number a.revoking) (b.first at a.revoking lt a.there) a.names)
    | inr gt ↦ absurd (both_ways (names_conflict file holder number b.revoking) (a.first to b.revoking gt b.there) b.names)
  ]
]

place_one : (es : List Entry) (event : Event) (reply_at at to : ℕ) → IsPlaceOf es event reply_at at → IsPlaceOf es event reply_at to → at ≡ to
place_one es (Deliver (Deny file call holder number lock)) reply_at at to a b = revoked_one es file holder number at to a b
place_one es event reply_at at to a b = a ∙ sym b

place_of_call : (es : List Entry) (id : CallId) (n m : ℕ) (o u : Op) (r q : Reply) (at to : ℕ) → OneReply es → IsAtItsPlace es id n o r at → IsAtItsPlace es id m u q to → at ≡ to
place_of_call es id n m o u r q at to one a b =
    let first : IsRepliedAt es id r a.reply_at = record { replying = a.replying; there = a.there; is_reply = a.is_reply } in
    let second : IsRepliedAt es id q b.reply_at = record { replying = b.replying; there = b.there; is_reply = b.is_reply } in
    let same = one id r q a.reply_at b.reply_at first second in
    let entries = entry_at-one es b.reply_at a.replying b.replying (subst (λ (k : ℕ). EntryAt es k a.replying) same a.there) b.there in
    let P : ℕ → Type 0 = λ k. IsPlaceOf es a.replying.event k at in
    let Q : Entry → Type 0 = λ e. IsPlaceOf es e.event b.reply_at at in
    place_one es b.replying.event b.reply_at at to (subst Q entries (subst P same a.place)) b.place

one_position : (es : List Entry) (j k : ℕ) (a b : Item) (id : CallId) → OneReply es → Stands es j a → Stands es k b → call_id a ≡ Some id → call_id b ≡ Some id → position_of a ≡ position_of b
one_position es j k (Answered at c pid op r) (Answered to d qid oq q) id one x y e f =
    let same : d ≡ c = same_Some d c (f ∙ sym e) in
    place_of_call es c pid qid op oq r q at to one x.1.place (subst (λ (n : CallId). IsAtItsPlace es n qid oq q to) same y.1.place)
one_position es j k (Answered at c pid op r) (Gone to node incarnation) id one x y e f = absurd (none-some id f)
one_position es j k (Gone at node incarnation) b id one x y e f = absurd (none-some id e)

pub stands_position : (es : List Entry) (q : ℕ) (i : Item) → Stands es q i → position_of i ≡ 0 + q + 1
stands_position es q (Answered at id pid op reply) s = let is = s.0 in omega arith
stands_position es q (Gone at node incarnation) s = let is = s.0 in omega arith

stands_placed : (es : List Entry) (q : ℕ) (i : Item) → Stands es q i → IsPlaced (IsOpenAt es) es i
stands_placed es q (Answered at id pid op reply) s = s.1.interval
stands_placed es q (Gone at node incarnation) s = s.1

stands_at_place : (es : List Entry) (q : ℕ) (i : Item) → Stands es q i → IsPlaced (IsAtItsPlace es) es i
stands_at_place es q (Answered at id pid op reply) s = s.1.place
stands_at_place es q (Gone at node incarnation) s = s.1

-- the items in the slots fit the run by `Place`, if each stands where that allows it
module _ (es : List Entry) (slots : Slots) (stands : (q : ℕ) (i : Item) → slice_get slots q ≡ Some (Some i) → Stands es q i) where
  stands_in : (k : ℕ) (i : Item) → slice_get (items_in slots) k ≡ Some i → (q : ℕ) × Stands es q i
  stands_in k i h = let at = in_slot slots k i h in (at.0, stands at.0 i at.1)

  items_rise : Rising (items_in slots)
  items_rise j k a b lt x y = rising_slots 0 slots (λ q i h. stands_position es q i (stands q i h)) j k a b lt x y

  pub items_fit : (Place : CallId → ℕ → Op → Reply → ℕ → Type 0) (IsKept : Reply → Type 0) → ((q : ℕ) (i : Item) → slice_get slots q ≡ Some (Some i) → IsPlaced Place es i) → ((id : CallId) (reply : Reply) (at : ℕ) → IsRepliedAt es id reply at → IsKept reply → HasSlot slots id reply) → AllGone es slots → OneReply es → FitsBy Place IsKept es (items_in slots)
  items_fit Place IsKept placed answered failures one = record {
    rising = items_rise;
    placed = λ k i h. let at = in_slot slots k i h in placed at.0 i at.1;
    answered = λ id reply at r is_kept.
        let there = answered id reply at r is_kept in
        let place = slot_in slots there.0 (Answered there.1 id there.2 there.3 reply) there.4 in
        (place.0, there.1, there.2, there.3, place.1);
    gone = λ node incarnation at d.
        let there = failures node incarnation at d in
        slot_in slots there.0 (Gone at node incarnation) there.1;
    once = λ j k a b id x y e f.
        let first = stands_in j a x in
        let second = stands_in k b y in
        let same = one_position es first.0 second.0 a b id one first.1 second.1 e f in
        elim (cases_order j k) [
          | inl equal ↦ equal
          | inr apart ↦ elim apart [
            | inl lt ↦ absurd (let rises = items_rise j k a b lt x y in omega arith)
            | inr gt ↦ absurd (let rises = items_rise k j b a gt y x in omega arith)
          ]
        ];
  }

-- the items of the slots are a history that fits, is legal, and has each call at its place
module _ (shape : ShapeFields) (es : List Entry) (slots : Slots) (s : Slotted shape es slots) where
  pub slots_at_their_places : OneReply es → AllSlotted es slots → EachAtItsPlace es (items_in slots)
  slots_at_their_places one all = items_fit es slots s.stands (IsAtItsPlace es) (λ reply. ⊤) (λ q i h. stands_at_place es q i (s.stands q i h)) (λ id reply at r kept. all id reply at r) s.failures one

  pub slots_fit : OneReply es → AllSlotted es slots → Fits es (items_in slots)
  slots_fit one all = items_fit es slots s.stands (IsOpenAt es) (λ reply. ⊤) (λ q i h. stands_placed es q i (s.stands q i h)) (λ id reply at r kept. all id reply at r) s.failures one

  pub slots_legal : (w : WorldState) → Leads (first_world shape) es w → Legal (empty_table (most_regions shape.version)) (items_in slots) (union w)
  slots_legal w l = legal_union shape es slots s.long s.steps w l
