-- The slots of a run, as it goes on by one entry.
use Rattle.std.proofs.Common.{◌≡◌, ℕ, zero, suc, ◌+◌, ◌<◌, ◌≤◌, refl, sym, ◌∙◌, ap, subst, arith, List, [], ◌∷◌, ◌++◌, length, length-append, take, get_or, slice_get, slice_set, All, Option, Some, None, is_some}
use Rattle.std.specs.HashMap.{get}
use Rattle.std.specs.List.{cons_option}
use Rattle.std.proofs.Math.Seq.{set-append_seam}
use Rattle.std.proofs.lemmas.List.{take_more, take_all, length-take-le, length-set}
use Rattle.std.proofs.lemmas.List.Elements.{filter_map-append}
use Rattle.std.proofs.lemmas.Option.{slice_get-get_or}
use Rattle.model.specs.declared.call.CallId.{CallId}
use Rattle.model.specs.declared.reply.Reply.{Reply}
use Rattle.messages.specs.declared.message.Message.TheVariants.{Deny}
use Rattle.messages.specs.declared.event.Event.{Event}
use Rattle.messages.specs.declared.event.Event.TheVariants.{Deliver}
use Rattle.messages.specs.declared.entry.Entry.{Entry}
use Rattle.cluster_core.specs.declared.item.Item.{Item}
use Rattle.cluster_core.specs.code.Calls.{Slots, find_call, item_of, filled, placed_by, slots_after, slots_from, slots_of, items_in, gone_at}
use Rattle.cluster_core.proofs.history.Slots.{slots_of-push}
use Rattle.placement.specs.declared.slot.Slot.{Slot}
use Rattle.placement.specs.declared.slot.Slot.TheVariants.{Empty}
use Rattle.placement.specs.declared.revoke_id.RevokeId.{RevokeId}
use Rattle.placement.specs.declared.call_index.CallIndex.{CallIndex}
use Rattle.placement.specs.code.Indexes.{entry_of, Conflicts, Indexes, KnowsDenial, Locates, AreBefore, same_revoke, told_at, slot_of, call_at, answered_so, answered_by, stands, standing}
use Rattle.placement.proofs.Index.{denial_known, located_before, located_none, indexes_start}

own_slot : (slots : Slots) (n : ℕ) (item : ℕ → Option Item) → n ≡ length slots → slots ++ item (n + 1) ∷ [] ≡ slice_set (slots ++ None ∷ []) (length slots) (item (length slots + 1))
own_slot slots n item same = ap (λ (k : ℕ). slots ++ item (k + 1) ∷ []) same ∙ sym (set-append_seam slots None [] (item (length slots + 1)))

-- an answer fills one slot
placed_by-is : (es : List Entry) (slots : Slots) (event : Event) (item : ℕ → Option Item) → length es ≡ length slots → placed_by es slots event item ≡ filled (slots ++ None ∷ []) (slot_of es (length slots) event) item
placed_by-is es slots (Deliver (Deny file call holder number lock)) item same = refl
placed_by-is es slots event item same = own_slot slots (length es) item same

module _ (es : List Entry) (slots : Slots) (e : Entry) (id : CallId) (reply : Reply) (own : ℕ) (event : Event) (long : length es ≡ length slots) (is_reply : e.reply ≡ Some (id, reply)) (own_is : own ≡ length slots) (event_is : event ≡ e.event) where
  abbrev item_at : ℕ → Option Item
  item_at at = item_of at id reply (find_call (es ++ e ∷ []) id)

  slots_filled : (found : Option ℕ) → found ≡ slot_of es own event → slots_after es slots e e.reply ≡ filled (slots ++ None ∷ []) found item_at
  slots_filled found is =
      ap (slots_after es slots e) is_reply
      ∙ (placed_by-is es slots e.event item_at long
      ∙ (ap (λ (v : Event). filled (slots ++ None ∷ []) (slot_of es (length slots) v) item_at) (sym event_is)
      ∙ (ap (λ (n : ℕ). filled (slots ++ None ∷ []) (slot_of es n event) item_at) (sym own_is)
      ∙ ap (λ (o : Option ℕ). filled (slots ++ None ∷ []) o item_at) (sym is))))

  answer_placed : (wide : Slots) (found : Option ℕ) (index : ℕ) (item : Option Item) → wide ≡ slots ++ None ∷ [] → found ≡ slot_of es own event → found ≡ Some index → item ≡ item_at (index + 1) → slice_set wide index item ≡ slots_after es slots e e.reply
  answer_placed wide found index item wider is some made =
      ap (λ (w : Slots). slice_set w index item) wider
      ∙ (ap (λ (i : Option Item). slice_set (slots ++ None ∷ []) index i) made
      ∙ sym (slots_filled (Some index) (sym some ∙ is)))

  answer_unplaced : (wide : Slots) (found : Option ℕ) → wide ≡ slots ++ None ∷ [] → found ≡ slot_of es own event → found ≡ None → wide ≡ slots_after es slots e e.reply
  answer_unplaced wide found wider is none = wider ∙ sym (slots_filled None (sym none ∙ is))

-- the items of one slot more, and of another in the place of one
standing-push : (all : List Entry) (k : ℕ) (slots : List Slot) (s : Slot) → standing all k (slots ++ s ∷ []) ≡ standing all k slots ++ stands all (k + length slots) s ∷ []
standing-push all k [] s =
    let here : k ≡ k + 0 = omega arith in
    ap (λ (n : ℕ). stands all n s ∷ []) here
standing-push all k (d ∷ ds) s =
    let place : k + 1 + length ds ≡ k + length (d ∷ ds) = omega arith in
    ap (λ (os : List (Option Item)). stands all k d ∷ os) (standing-push all (k + 1) ds s ∙ ap (λ (n : ℕ). standing all (k + 1) ds ++ stands all n s ∷ []) place)

standing-set : (all : List Entry) (k : ℕ) (slots : List Slot) (i : ℕ) (s : Slot) → standing all k (slice_set slots i s) ≡ slice_set (standing all k slots) i (stands all (k + i) s)
standing-set all k [] i s = refl
standing-set all k (d ∷ ds) zero s =
    let here : k ≡ k + 0 = omega arith in
    ap (λ (n : ℕ). stands all n s ∷ standing all (k + 1) ds) here
standing-set all k (d ∷ ds) (suc i) s =
    let place : k + 1 + i ≡ k + suc i = omega arith in
    ap (λ (os : List (Option Item)). stands all k d ∷ os) (standing-set all (k + 1) ds i s ∙ ap (λ (n : ℕ). slice_set (standing all (k + 1) ds) i (stands all n s)) place)

length-standing : (all : List Entry) (k : ℕ) (slots : List Slot) → length (standing all k slots) ≡ length slots
length-standing all k [] = refl
length-standing all k (s ∷ ss) =
    let rest = length-standing all (k + 1) ss in
    omega arith

-- of a run from its first entry on
pushed_from_first : (all : List Entry) (slots : List Slot) (s : Slot) → standing all 0 (slots ++ s ∷ []) ≡ standing all 0 slots ++ stands all (length slots) s ∷ []
pushed_from_first all slots s =
    let place : 0 + length slots ≡ length slots = omega arith in
    standing-push all 0 slots s ∙ ap (λ (n : ℕ). standing all 0 slots ++ stands all n s ∷ []) place

-- a call of the index that an entry answers
pub slot_answers : (all es : List Entry) (calls : CallIndex) (at k : ℕ) (e : Entry) (r : CallId × Reply) (found : Option ℕ) → Indexes all calls es → found ≡ entry_of calls r.0 → slice_get all k ≡ Some e → e.reply ≡ Some r → answered_by at (call_at all found) (slice_get all k) ≡ item_of at r.0 r.1 (find_call es r.0)
slot_answers all es calls at k e r found indexed got there replies =
    ap (answered_by at (call_at all found)) there
    ∙ (ap (answered_so at (call_at all found)) replies
    ∙ ap (item_of at r.0 r.1) (ap (call_at all) got ∙ indexed.found r.0))

-- an entry that answers a call
module _ (all es : List Entry) (slots wide : List Slot) (e : Entry) (r : CallId × Reply) (own : ℕ) (event : Event) (found : Option ℕ) (long : length es ≡ length slots) (replies : e.reply ≡ Some r) (own_is : own ≡ length slots) (event_is : event ≡ e.event) (wider : wide ≡ slots ++ Empty ∷ []) (is : found ≡ slot_of es own event) where
  many : length slots ≡ length (standing all 0 slots)
  many = sym (length-standing all 0 slots)

  grown : standing all 0 wide ≡ standing all 0 slots ++ None ∷ []
  grown = ap (standing all 0) wider ∙ pushed_from_first all slots Empty

  pub answers_some : (index : ℕ) (s : Slot) → found ≡ Some index → stands all index s ≡ item_of (index + 1) r.0 r.1 (find_call (es ++ e ∷ []) r.0) → standing all 0 (slice_set wide index s) ≡ slots_after es (standing all 0 slots) e e.reply
  answers_some index s some made =
      let here : 0 + index ≡ index = omega arith in
      standing-set all 0 wide index s
      ∙ (ap (λ (n : ℕ). slice_set (standing all 0 wide) index (stands all n s)) here
      ∙ answer_placed es (standing all 0 slots) e r.0 r.1 own event (long ∙ many) replies (own_is ∙ many) event_is (standing all 0 wide) found index (stands all index s) grown is some made)

  pub answers_nowhere : found ≡ None → standing all 0 wide ≡ slots_after es (standing all 0 slots) e e.reply
  answers_nowhere none =
      answer_unplaced es (standing all 0 slots) e r.0 r.1 own event (long ∙ many) replies (own_is ∙ many) event_is (standing all 0 wide) found grown is none

-- an entry that answers no call
pub answers_none : (all es : List Entry) (slots wide : List Slot) (s : Slot) (e : Entry) (own : ℕ) → length es ≡ length slots → e.reply ≡ None → own ≡ length slots → stands all own s ≡ gone_at (own + 1) e.incarnation e.event → wide ≡ slots ++ s ∷ [] → standing all 0 wide ≡ slots_after es (standing all 0 slots) e e.reply
answers_none all es slots wide s e own long none own_is stood wider =
    ap (standing all 0) wider
    ∙ (pushed_from_first all slots s
    ∙ (ap (λ (n : ℕ). standing all 0 slots ++ stands all n s ∷ []) (sym own_is)
    ∙ (ap (λ (o : Option Item). standing all 0 slots ++ o ∷ []) (stood ∙ ap (λ (n : ℕ). gone_at (n + 1) e.incarnation e.event) (own_is ∙ sym long))
    ∙ ap (slots_after es (standing all 0 slots) e) (sym none))))

-- one element more
length-push : {A : Type 0} (xs : List A) (x : A) → length (xs ++ x ∷ []) ≡ length xs + 1
length-push xs x = length-append xs (x ∷ [])

length-filled : (slots : Slots) (found : Option ℕ) (item : ℕ → Option Item) → length (filled slots found item) ≡ length slots
length-filled slots None item = refl
length-filled slots (Some k) item = length-set slots k (item (k + 1))

length-placed_by : (past : List Entry) (slots : Slots) (event : Event) (item : ℕ → Option Item) → length (placed_by past slots event item) ≡ length slots + 1
length-placed_by past slots (Deliver (Deny file call holder number lock)) item = length-filled (slots ++ None ∷ []) (slot_of past 0 (Deliver (Deny file call holder number lock))) item ∙ length-push slots None
length-placed_by past slots event item = length-push slots (item (length past + 1))

length-slots_after : (past : List Entry) (slots : Slots) (e : Entry) (answer : Option (CallId × Reply)) → length (slots_after past slots e answer) ≡ length slots + 1
length-slots_after past slots e None = length-push slots (gone_at (length past + 1) e.incarnation e.event)
length-slots_after past slots e (Some r) = length-placed_by past slots e.event (λ at. item_of at r.0 r.1 (find_call (past ++ e ∷ []) r.0))

length-slots_from : (past : List Entry) (slots : Slots) (es : List Entry) → length (slots_from past slots es) ≡ length slots + length es
length-slots_from past slots [] = omega arith
length-slots_from past slots (e ∷ es) =
    let one = length-slots_after past slots e e.reply in
    let rest = length-slots_from (past ++ e ∷ []) (slots_after past slots e e.reply) es in
    omega arith

-- the indexes and the slots so far, of a run with all these entries
pub record Placing (all past : List Entry) (calls : CallIndex) (conflicts : Conflicts) (slots : List Slot) : Type 0 where
  pub indexed : Indexes all calls past
  pub located : Locates conflicts past
  pub known : All (λ e. KnowsDenial conflicts e.event) all
  pub placed : standing all 0 slots ≡ slots_of past

pub length-placed : (all past : List Entry) (slots : List Slot) → standing all 0 slots ≡ slots_of past → length slots ≡ length past
length-placed all past slots placed =
    let whole = length-slots_from [] [] past in
    let long : length slots ≡ length (slots_of past) = sym (length-standing all 0 slots) ∙ ap length placed in
    omega arith

length-placing : (all past : List Entry) (calls : CallIndex) (conflicts : Conflicts) (slots : List Slot) → Placing all past calls conflicts slots → length slots ≡ length past
length-placing all past calls conflicts slots p = length-placed all past slots p.placed

pub placing_empty : (all : List Entry) (calls : CallIndex) (conflicts : Conflicts) (slots : List Slot) → ((id : CallId) → entry_of calls id ≡ None) → ((r : RevokeId) → told_at (get same_revoke conflicts r) ≡ None) → All (λ e. KnowsDenial conflicts e.event) all → slots ≡ [] → Placing all [] calls conflicts slots
placing_empty all calls conflicts slots none untold known empty = record { indexed = indexes_start all calls none; located = located_none conflicts untold; known = known; placed = ap (λ (ss : List Slot). standing all 0 ss) empty }

-- one entry more of the run
module _ (es : List Entry) (i : ℕ) (e : Entry) (calls : CallIndex) (conflicts : Conflicts) (slots : List Slot) (lt : i < length es) (p : Placing es (take i es) calls conflicts slots) where
  length-take : length (take i es) ≡ i
  length-take = length-take-le i es (omega arith)

  pub as_many : length slots ≡ i
  as_many = length-placing es (take i es) calls conflicts slots p ∙ length-take

  pub all_before : AreBefore conflicts (length slots)
  all_before = subst (AreBefore conflicts) (sym (length-placing es (take i es) calls conflicts slots p)) (located_before conflicts (take i es) p.located)

  pub known_here : e ≡ get_or es i e → KnowsDenial conflicts e.event
  known_here is = subst (λ (d : Entry). KnowsDenial conflicts d.event) (sym is) (p.known i e lt)

  pub placing_more : (next : CallIndex) (told : Conflicts) (more : List Slot) → e ≡ get_or es i e → ((all past : List Entry) → slice_get all i ≡ Some e → Indexes all calls past → Indexes all next (past ++ e ∷ [])) → ((all past : List Entry) → slice_get all (length slots) ≡ Some e → length past ≡ length slots → Indexes all next (past ++ e ∷ []) → Locates conflicts past → standing all 0 more ≡ slots_after past (standing all 0 slots) e e.reply) → ((past : List Entry) → length past ≡ i → Locates conflicts past → Locates told (past ++ e ∷ [])) → ((r : RevokeId) → is_some (get same_revoke told r) ≡ is_some (get same_revoke conflicts r)) → Placing es (take (i + 1) es) next told more
  placing_more next told more is indexes answers locates keeps =
      let past = take i es in
      let there : slice_get es i ≡ Some e = slice_get-get_or es i e lt ∙ ap (λ (x : Entry). Some x) (sym is) in
      let grown : take (i + 1) es ≡ past ++ e ∷ [] = take_more es i e lt ∙ ap (λ (x : Entry). past ++ x ∷ []) (sym is) in
      let indexed = indexes es past there p.indexed in
      let placed = answers es past (ap (slice_get es) as_many ∙ there) (sym (length-placing es (take i es) calls conflicts slots p)) indexed p.located in
      let P : List Entry → Type 0 = λ xs. Placing es xs next told more in
      subst P (sym grown) (record {
        indexed = indexed;
        located = locates past length-take p.located;
        known = λ k d within. denial_known conflicts told keeps (get_or es k d).event (p.known k d within);
        placed = placed ∙ (ap (λ (s : Slots). slots_after past s e e.reply) p.placed ∙ sym (slots_of-push past e));
      })

-- all entries of the run
pub placing_whole : (es : List Entry) (i : ℕ) (calls : CallIndex) (conflicts : Conflicts) (slots : List Slot) → length es ≤ i → Placing es (take i es) calls conflicts slots → standing es 0 slots ≡ slots_of es
placing_whole es i calls conflicts slots all p = p.placed ∙ ap slots_of (take_all i es all)

-- one slot more is read
pub standing_more : (all : List Entry) (slots : List Slot) (i : ℕ) (d : Slot) → i < length slots → standing all 0 (take (i + 1) slots) ≡ standing all 0 (take i slots) ++ stands all i (get_or slots i d) ∷ []
standing_more all slots i d lt =
    let past = take i slots in
    ap (standing all 0) (take_more slots i d lt)
    ∙ (pushed_from_first all past (get_or slots i d)
    ∙ ap (λ (n : ℕ). standing all 0 past ++ stands all n (get_or slots i d) ∷ []) (length-take-le i slots (omega arith)))

-- the items in the slots, with one slot more
pub items_more : (all : List Entry) (slots : List Slot) (i : ℕ) (d : Slot) (items : List Item) (o : Option Item) → i < length slots → o ≡ stands all i (get_or slots i d) → items ≡ items_in (standing all 0 (take i slots)) → items ++ cons_option o [] ≡ items_in (standing all 0 (take (i + 1) slots))
items_more all slots i d items o lt stood so_far =
    let past = standing all 0 (take i slots) in
    ap (λ (xs : List Item). xs ++ cons_option o []) so_far
    ∙ (ap (λ (x : Option Item). items_in past ++ cons_option x []) stood
    ∙ (sym (filter_map-append (λ (slot : Option Item). slot) past (stands all i (get_or slots i d) ∷ []))
    ∙ ap items_in (sym (standing_more all slots i d lt))))

pub items_all : (all : List Entry) (slots : List Slot) (i : ℕ) (items : List Item) → length slots ≤ i → items ≡ items_in (standing all 0 (take i slots)) → items ≡ items_in (standing all 0 slots)
items_all all slots i items past so_far = so_far ∙ ap (λ (ss : List Slot). items_in (standing all 0 ss)) (take_all i slots past)
