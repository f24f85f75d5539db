-- What the clients of a run saw is explained.
use Rattle.std.proofs.Common.{◌≡◌, ℕ, zero, suc, ◌<◌, ◌≤◌, true, false, if◌then◌else◌, ◌==◌, refl, sym, ◌∙◌, subst, arith, List, [], ◌∷◌, ◌++◌, slice_get, Some, None, Bool, ◌&&◌, inl, inr, ap, Option, ◌+◌, length}
use Rattle.std.specs.Prelude.{map, ⊤}
use Rattle.std.specs.List.{cons_option, AllByRecursion}
use Rattle.std.proofs.lemmas.Option.{same_Some, none-some}
use Rattle.client_history.specs.declared.client_call.ClientCall.{ClientCall}
use Rattle.client_history.specs.rule.Explained.{EndsBefore, the_file, Leads, IsAt, IsExplainedBy, always, ActStep}
use Rattle.run_clients.specs.declared.deed.Deed.{Deed}
use Rattle.run_clients.specs.declared.answer_time.AnswerTime.TheVariants.{At}
use Rattle.run_clients.specs.declared.file_call.FileCall.{FileCall}
use Rattle.model.specs.declared.op.Op.{Op}
use Rattle.run_clients.specs.rule.Seen.{call_of, client_call, calls_about, indexes_from, IsTimed, op_of, item_deeds, end_of, AreSeen, IsOpenCall, IsSeen, about, AreExplained, DeedsLead, exits_to}
use Rattle.std.proofs.lemmas.Bool.{cases_eq, eqb-true, eq-eqb, ne_eqb, false≢true}
use Rattle.intervals.specs.rule.Bytes.{nothing, put}
use Rattle.model.specs.declared.mode.Mode.{Mode}
use Rattle.model.specs.declared.owner.Owner.{Owner}
use Rattle.model.specs.rule.Owners.{same_owner}
use Rattle.model.specs.rule.Locks.{Locks, no_locks, replace}
use Rattle.client_history.specs.declared.act.Act.{Act}
use Rattle.client_history.specs.declared.act.Act.TheVariants.{Locks as Takes, IsDenied, IsFree, Frees, Drops}
use Rattle.run_clients.specs.declared.answer_time.AnswerTime.{AnswerTime}
use Rattle.std.proofs.lemmas.List.Elements.{filter_map-append}
use Rattle.model.specs.rule.Limits.{most_processes}
use Rattle.model.specs.rule.Table.{Table, empty_table}
use Rattle.messages.specs.rule.Shapes.{ShapeFields, most_regions}
use Rattle.messages.specs.declared.entry.Entry.{Entry}
use Rattle.cluster_core.specs.rule.World.{journal_limit}
use Rattle.cluster_core.specs.declared.item.Item.{Item}
use Rattle.cluster_core.specs.declared.item.Item.TheVariants.{Answered, Gone}
use Rattle.cluster_core.specs.rule.Histories.{caller, position_of, ItemStep, Rising, EntryAt, IsPlaced, IsOpenAt, Legal}
use Rattle.run_clients.specs.code.Times.{AreAnchored}
use Rattle.run_clients.proofs.Calls.{step_leads, calls_keep_anchored}
use Rattle.run_clients.proofs.Drops.{exits_lead, empty_anchored, gone_keeps}

-- the call has a reply, stands at a place between its begin and its end, is no exit and follows no other
pub record IsAtPlace (low at most : ℕ) (c : ClientCall) : Type 0 where
  pub end : ℕ
  pub ends : c.end ≡ Some end
  pub low_at : low ≤ at
  pub begins : c.begin ≤ at
  pub at_end : at ≤ end
  pub within : end ≤ most
  pub goes_on : c.is_last ≡ false
  pub alone : c.follows ≡ None

-- the calls stand at places from this one on, each no earlier than the one before
abbrev pub ArePlaced : ℕ → ℕ → List ClientCall → Type 0
ArePlaced most low [] = ⊤
ArePlaced most low (c ∷ cs) = (at : ℕ) × IsAtPlace low at most c × ArePlaced most at cs

-- the calls about files stand at places from this one on, each no earlier than the one before
abbrev pub AllPlaced : ℕ → ℕ → List FileCall → Type 0
AllPlaced most low [] = ⊤
AllPlaced most low (s ∷ ss) = (at : ℕ) × IsAtPlace low at most (client_call s) × AllPlaced most at ss

module _ (most : ℕ) where
  lower : (low at : ℕ) (c : ClientCall) (below : ℕ) → below ≤ low → IsAtPlace low at most c → IsAtPlace below at most c
  lower low at c below le p =
      let up = p.low_at in
      record { end = p.end; ends = p.ends; low_at = omega arith; begins = p.begins; at_end = p.at_end; within = p.within; goes_on = p.goes_on; alone = p.alone }

  pub placed_lower : (low below : ℕ) (cs : List ClientCall) → below ≤ low → ArePlaced most low cs → ArePlaced most below cs
  placed_lower low below [] le h = h
  placed_lower low below (c ∷ cs) le h = (h.0, lower low h.0 c below le h.1, h.2)

  pub all_lower : (low below : ℕ) (ss : List FileCall) → below ≤ low → AllPlaced most low ss → AllPlaced most below ss
  all_lower low below [] le h = h
  all_lower low below (s ∷ ss) le h = (h.0, lower low h.0 (client_call s) below le h.1, h.2)

  -- the calls about one file stand at places as well
  pub placed_about : (file low : ℕ) (ss : List FileCall) → AllPlaced most low ss → ArePlaced most low (calls_about file ss)
  placed_about file low [] h = h
  placed_about file low (s ∷ ss) h = elim (s.file == file) as (λ b. ArePlaced most low (cons_option (if b then Some (client_call s) else None) (calls_about file ss))) [
    | true ↦ (h.0, h.1, placed_about file h.0 ss h.2)
    | false ↦ placed_lower h.0 low (calls_about file ss) h.1.low_at (placed_about file h.0 ss h.2)
  ]

  -- all deeds of an item stand at its place
  pub item_placed : (low at begin end : ℕ) (op : Op) (ds : List Deed) (ss : List FileCall) → low ≤ at → begin ≤ at → at ≤ end → end ≤ most → AllPlaced most at ss → AllPlaced most low (map (call_of op begin (At end)) ds ++ ss)
  item_placed low at begin end op [] ss up begins ends within h = all_lower at low ss up h
  item_placed low at begin end op (d ∷ ds) ss up begins ends within h =
      (at, record { end = end; ends = refl; low_at = up; begins = begins; at_end = ends; within = within; goes_on = refl; alone = refl }, item_placed at at begin end op ds ss (omega arith) begins ends within h)

  -- each call stands at a place
  pub one_placed : (low : ℕ) (cs : List ClientCall) (k : ℕ) (c : ClientCall) → ArePlaced most low cs → slice_get cs k ≡ Some c → (at : ℕ) × IsAtPlace low at most c
  one_placed low [] k c h there = absurd (none-some c there)
  one_placed low (x ∷ cs) zero c h there = subst (λ (y : ClientCall). (at : ℕ) × IsAtPlace low at most y) (same_Some x c there) (h.0, h.1)
  one_placed low (x ∷ cs) (suc k) c h there =
      let one = one_placed h.0 cs k c h.2 there in
      (one.0, lower h.0 one.0 c low h.1.low_at one.1)

  -- no call ended before one that stands earlier began
  pub placed_in_time : (low : ℕ) (cs : List ClientCall) (j k : ℕ) (a b : ClientCall) → ArePlaced most low cs → j < k → slice_get cs j ≡ Some a → slice_get cs k ≡ Some b → EndsBefore b a.begin → ⊥
  placed_in_time low [] j k a b h lt at_j at_k ends = none-some a at_j
  placed_in_time low (x ∷ cs) zero zero a b h lt at_j at_k ends = omega arith
  placed_in_time low (x ∷ cs) (suc j) zero a b h lt at_j at_k ends = omega arith
  placed_in_time low (x ∷ cs) zero (suc k) a b h lt at_j at_k ends =
      let one = one_placed h.0 cs k b h.2 at_k in
      let first : a.begin ≤ h.0 = subst (λ (y : ClientCall). y.begin ≤ h.0) (same_Some x a at_j) h.1.begins in
      let same : ends.0 ≡ one.1.end = same_Some ends.0 one.1.end (sym ends.1 ∙ one.1.ends) in
      let up = one.1.low_at in
      let after = one.1.at_end in
      let before = ends.2 in
      omega arith
  placed_in_time low (x ∷ cs) (suc j) (suc k) a b h lt at_j at_k ends = placed_in_time h.0 cs j k a b h.2 (omega arith) at_j at_k ends

-- calls about files, one after the other, lead from the old locks to the new ones
abbrev pub CallsLead : Locks → List FileCall → Locks → Type 0
CallsLead old [] new = old ≡ new
CallsLead old (s ∷ ss) new = (mid : Locks) × ActStep s.file old s.owner s.act mid × CallsLead mid ss new

-- calls about one file, one after the other, lead from the old locks to the new ones
abbrev pub LeadAlone : Locks → List ClientCall → Locks → Type 0
LeadAlone old [] new = old ≡ new
LeadAlone old (c ∷ cs) new = (mid : Locks) × ActStep the_file old c.owner c.act mid × LeadAlone mid cs new

pub deeds_call : (op : Op) (begin : ℕ) (end : AnswerTime) (a b c : Locks) (ds : List Deed) (ss : List FileCall) → DeedsLead a ds b → CallsLead b ss c → CallsLead a (map (call_of op begin end) ds ++ ss) c
deeds_call op begin end a b c [] ss one two = subst (λ (h : Locks). CallsLead h ss c) (sym one) two
deeds_call op begin end a b c (d ∷ ds) ss one two = (one.0, one.1, deeds_call op begin end one.0 b c ds ss one.2 two)

-- the locks of the file, as those of the file that is judged
abbrev pub alone : ℕ → Locks → Locks
alone file h f owner = if f == the_file then h file owner else nothing

pub alone_at_first : (file : ℕ) → alone file no_locks ≡ no_locks
alone_at_first file = λ j f owner. none (f == the_file) j
  where
    none : (b : Bool) → (let bytes : ℕ → Option Mode = if b then nothing else nothing in bytes ≡ nothing)
    none true = refl
    none false = refl

mirrored : (a b : ℕ) → (a == b) ≡ (b == a)
mirrored a b = elim (cases_eq a b) [
  | inl same ↦ eq-eqb a b same ∙ sym (eq-eqb b a (sym same))
  | inr other ↦ ne_eqb a b other ∙ sym (ne_eqb b a (λ e. other (sym e)))
]

abbrev Bytes : Type 0
Bytes = ℕ → Option Mode

chosen : (x s : Bool) (bytes old : Bytes) → (let found : Bytes = if x then (if s then bytes else old) else nothing in found ≡ (if x && s then bytes else (if x then old else nothing)))
chosen true s bytes old = refl
chosen false s bytes old = refl

chosen_so : (x y z s : Bool) (bytes old : Bytes) → y ≡ true → z ≡ x → (let found : Bytes = if x then (if y && s then bytes else old) else nothing in found ≡ (if z && s then bytes else (if x then old else nothing)))
chosen_so x y z s bytes old here same =
    subst (λ (v : Bool). let found : Bytes = if x then (if v && s then bytes else old) else nothing in found ≡ (if z && s then bytes else (if x then old else nothing))) (sym here)
    (subst (λ (v : Bool). let found : Bytes = if x then (if s then bytes else old) else nothing in found ≡ (if v && s then bytes else (if x then old else nothing))) (sym same) (chosen x s bytes old))

-- a change of the file's locks
replaced : (h : Locks) (file : ℕ) (owner : Owner) (bytes : Bytes) → alone file (replace h file owner bytes) ≡ replace (alone file h) the_file owner bytes
replaced h file owner bytes = λ j f o. chosen_so (f == the_file) (file == file) (the_file == f) (same_owner owner o) bytes (h file o) (eq-eqb file file refl) (mirrored the_file f) j

-- a change of another file's locks leaves those of the file
stays : (h : Locks) (file other : ℕ) (owner : Owner) (bytes : Bytes) → (other == file) ≡ false → alone file (replace h other owner bytes) ≡ alone file h
stays h file other owner bytes apart = λ j f o. ap (λ (v : Bool). let found : Bytes = if f == the_file then (if v && same_owner owner o then bytes else h file o) else nothing in found) apart j

-- an act on the file is the same act on its locks alone
same_act : (file : ℕ) (old new : Locks) (owner : Owner) (act : Act) → ActStep file old owner act new → ActStep the_file (alone file old) owner act (alone file new)
same_act file old new owner (Takes mode span) h = (h.0, ap (alone file) h.1 ∙ replaced old file owner (put (old file owner) span (Some mode)))
same_act file old new owner (IsDenied mode span told) h = (record { lock = h.0.lock; blocks = h.0.blocks; named = h.0.named }, ap (alone file) h.1)
same_act file old new owner (IsFree mode span) h = (h.0, ap (alone file) h.1)
same_act file old new owner (Frees span) h = ap (alone file) h ∙ replaced old file owner (put (old file owner) span None)
same_act file old new owner Drops h = ap (alone file) h ∙ replaced old file owner nothing

-- an act on another file leaves the locks of the file
other_act : (file other : ℕ) (old new : Locks) (owner : Owner) (act : Act) → (other == file) ≡ false → ActStep other old owner act new → alone file new ≡ alone file old
other_act file other old new owner (Takes mode span) apart h = ap (alone file) h.1 ∙ stays old file other owner (put (old other owner) span (Some mode)) apart
other_act file other old new owner (IsDenied mode span told) apart h = ap (alone file) h.1
other_act file other old new owner (IsFree mode span) apart h = ap (alone file) h.1
other_act file other old new owner (Frees span) apart h = ap (alone file) h ∙ stays old file other owner (put (old other owner) span None) apart
other_act file other old new owner Drops apart h = ap (alone file) h ∙ stays old file other owner nothing apart

-- the calls about the file lead on its locks alone
module _ (file : ℕ) where
  pub lead_alone : (old new : Locks) (ss : List FileCall) → CallsLead old ss new → LeadAlone (alone file old) (calls_about file ss) (alone file new)
  lead_alone old new [] h = ap (alone file) h
  lead_alone old new (s ∷ ss) h = elim (s.file == file) as (λ b. (s.file == file) ≡ b → LeadAlone (alone file old) (cons_option (if b then Some (client_call s) else None) (calls_about file ss)) (alone file new)) [
    | true ↦ λ same.
        (alone file h.0, same_act file old h.0 s.owner s.act (subst (λ (f : ℕ). ActStep f old s.owner s.act h.0) (eqb-true s.file file same) h.1), lead_alone h.0 new ss h.2)
    | false ↦ λ apart. subst (λ (x : Locks). LeadAlone x (calls_about file ss) (alone file new)) (other_act file s.file old h.0 s.owner s.act apart h.1) (lead_alone h.0 new ss h.2)
  ] refl

-- the index at a place of a row of indexes
index_at : (from n k i : ℕ) → slice_get (indexes_from from n) k ≡ Some i → (i ≡ from + k) × (k < n)
index_at from zero k i h = absurd (none-some i h)
index_at from (suc n) zero i h = let e = same_Some from i h in (sym e ∙ omega arith, omega arith)
index_at from (suc n) (suc k) i h =
    let rest = index_at (from + 1) n k i h in
    let is = rest.0 in
    let lt = rest.1 in
    (omega arith, omega arith)

stands_at : (from n k : ℕ) → k < n → slice_get (indexes_from from n) k ≡ Some (from + k)
stands_at from zero k lt = absurd (omega arith)
stands_at from (suc n) zero lt = ap Some (omega arith)
stands_at from (suc n) (suc k) lt = stands_at (from + 1) n k (omega arith) ∙ ap Some (omega arith)

-- the first part of two lists has the elements of the first
in_front : (cs os : List ClientCall) (k : ℕ) (c : ClientCall) → k < length cs → slice_get (cs ++ os) k ≡ Some c → slice_get cs k ≡ Some c
in_front [] os k c lt h = absurd (omega arith)
in_front (x ∷ cs) os zero c lt h = h
in_front (x ∷ cs) os (suc k) c lt h = in_front cs os k c (omega arith) h

from_front : (cs os : List ClientCall) (k : ℕ) (c : ClientCall) → slice_get cs k ≡ Some c → slice_get (cs ++ os) k ≡ Some c
from_front [] os k c h = absurd (none-some c h)
from_front (x ∷ cs) os zero c h = h
from_front (x ∷ cs) os (suc k) c h = from_front cs os k c h

-- no call behind the front has a reply
abbrev pub IsUnanswered : ClientCall → Type 0
IsUnanswered c = c.end ≡ None

answered_in_front : (cs os : List ClientCall) (k : ℕ) (c : ClientCall) → AllByRecursion IsUnanswered os → slice_get (cs ++ os) k ≡ Some c → (end : ℕ) → c.end ≡ Some end → k < length cs
answered_in_front [] [] k c none h end ends = absurd (none-some c h)
answered_in_front [] (o ∷ os) zero c none h end ends = absurd (none-some end (sym (subst IsUnanswered (same_Some o c h) none.0) ∙ ends))
answered_in_front [] (o ∷ os) (suc k) c none h end ends =
    let lt = answered_in_front [] os k c none.1 h end ends in
    absurd (omega arith)
answered_in_front (x ∷ cs) os zero c none h end ends = omega arith
answered_in_front (x ∷ cs) os (suc k) c none h end ends =
    let lt = answered_in_front cs os k c none h end ends in
    omega arith

-- calls that stand among all from a place on lead on by their indexes
leads_by_index : (all cs : List ClientCall) (from : ℕ) (old new : Locks) → ((k : ℕ) (c : ClientCall) → slice_get cs k ≡ Some c → slice_get all (from + k) ≡ Some c) → LeadAlone old cs new → Leads all old (indexes_from from (length cs)) new
leads_by_index all [] from old new are h = h
leads_by_index all (c ∷ cs) from old new are h =
    let first : from + 0 ≡ from = omega arith in (
      c,
      h.0,
      subst (λ (i : ℕ). slice_get all i ≡ Some c) first (are 0 c refl),
      h.1,
      leads_by_index all cs (from + 1) h.0 new (λ k x there.
          let next : from + suc k ≡ from + 1 + k = omega arith in
          subst (λ (i : ℕ). slice_get all i ≡ Some x) next (are (suc k) x there)) h.2,
    )

module _ (cs os : List ClientCall) (last : Locks) (leads : LeadAlone no_locks cs last) (placed : ArePlaced always 0 cs) (none : AllByRecursion IsUnanswered os) where
  abbrev all : List ClientCall
  all = cs ++ os

  abbrev order : List ℕ
  order = indexes_from 0 (length cs)

  its_place : (k i : ℕ) → slice_get order k ≡ Some i → (i ≡ k) × (k < length cs)
  its_place k i h =
      let at = index_at 0 (length cs) k i h in
      let is = at.0 in
      (omega arith, at.1)

  -- the call at a place of the order
  stands_there : (k : ℕ) (c : ClientCall) → IsAt all order k c → slice_get cs k ≡ Some c
  stands_there k c is =
      let at = its_place k is.index is.at in
      in_front cs os k c at.1 (subst (λ (i : ℕ). slice_get all i ≡ Some c) at.0 is.there)

  goes_on : (k : ℕ) (c : ClientCall) → IsAt all order k c → c.is_last ≡ true → ⊥
  goes_on k c is exits = false≢true (sym (one_placed always 0 cs k c placed (stands_there k c is)).1.goes_on ∙ exits)

  pub explained_in_order : IsExplainedBy always all order
  explained_in_order = record {
    legal = (last, leads_by_index all cs 0 no_locks last (λ k c there. subst (λ (i : ℕ). slice_get all i ≡ Some c) (omega arith) (from_front cs os k c there)) leads);
    once = λ j k i at_j at_k. sym (its_place j i at_j).0 ∙ (its_place k i at_k).0;
    begun = λ k c is.
        let one = (one_placed always 0 cs k c placed (stands_there k c is)).1 in
        let a = one.begins in
        let b = one.at_end in
        let d = one.within in
        omega arith;
    answered = λ i c there ended.
        let lt = answered_in_front cs os i c none there ended.0 ended.1 in
        (i, stands_at 0 (length cs) i lt ∙ ap Some (omega arith));
    in_time = λ j k a b lt at_j at_k ends. placed_in_time always 0 cs j k a b placed lt (stands_there j a at_j) (stands_there k b at_k) ends;
    last = λ j k a b lt at_j at_k exits. absurd (goes_on j a at_j exits);
    whole = λ k i a b at_k exits there same answered. absurd (goes_on k a at_k exits);
    behind = λ k first c is follows. absurd (none-some first (sym (one_placed always 0 cs k c placed (stands_there k c is)).1.alone ∙ follows));
  }

-- the deeds of an item lead from the locks before to those after
item_leads : (t u : Table) (i : Item) → AreAnchored t → ItemStep t i u → DeedsLead t.locks (item_deeds t i) u.locks
item_leads t u (Answered at id pid op reply) a h = step_leads t u (caller id pid) (a.anchored id.node id.incarnation) op reply h.1
item_leads t u (Gone at node incarnation) a h = subst (λ (x : Table). DeedsLead t.locks (exits_to t node incarnation most_processes) x.locks) (sym h) (exits_lead node incarnation t most_processes (a.anchored node incarnation)).leads

-- after an item no lock outlives its descriptors
pub item_keeps : (t u : Table) (i : Item) → AreAnchored t → ItemStep t i u → AreAnchored u
item_keeps t u (Answered at id pid op reply) a h = calls_keep_anchored t (caller id pid) h.0.host a u op reply h.0.pid_in h.1
item_keeps t u (Gone at node incarnation) a h = subst AreAnchored (sym h) (gone_keeps t node incarnation a)

-- the calls of a history lead from the locks before to those after
seen_lead : (es : List Entry) (t last : Table) (is : List Item) (seen : List FileCall) → AreAnchored t → AreSeen es t is seen last → CallsLead t.locks seen last.locks
seen_lead es t last [] seen a h = subst (λ (ss : List FileCall). CallsLead t.locks ss last.locks) (sym h.1) (ap (λ (x : Table). x.locks) h.0)
seen_lead es t last (i ∷ is) seen a (next, begin, end, rest, step, timed, are, more) =
    subst (λ (ss : List FileCall). CallsLead t.locks ss last.locks) (sym are)
    (deeds_call (op_of i) begin (At end) t.locks next.locks last.locks (item_deeds t i) rest (item_leads t next i a step) (seen_lead es next last is rest (item_keeps t next i a step) more))

-- an entry is one of the journal's
entry_within : (es : List Entry) (k : ℕ) (e : Entry) → slice_get es k ≡ Some e → k + 1 ≤ length es
entry_within [] k e h = absurd (none_there e h)
  where
    none_there : (e : Entry) → (let x : Option Entry = None in x ≡ Some e) → ⊥
    none_there e h = cc
entry_within (x ∷ es) zero e h = omega arith
entry_within (x ∷ es) (suc k) e h =
    let rest = entry_within es k e h in
    omega arith

pub within : (es : List Entry) (at : ℕ) (e : Entry) → EntryAt es at e → at ≤ length es
within es at e h = subst (λ (x : ℕ). x ≤ length es) (sym h.1) (entry_within es h.0 e h.2)

-- the item stands between begin and end, which is within the journal
pub record AreTimes (es : List Entry) (i : Item) (begin end : ℕ) : Type 0 where
  pub begins : begin ≤ position_of i
  pub ends : position_of i ≤ end
  pub within : end ≤ length es

item_times : (es : List Entry) (i : Item) (begin end : ℕ) → IsTimed es i begin end → AreTimes es i begin end
item_times es (Answered at id pid op reply) begin end (called, replied, begins, ends) = record { begins = begins; ends = ends; within = within es end replied.replying replied.there }
item_times es (Gone at node incarnation) begin end (declared, begins, ends) =
    let last = within es at declared.declaring declared.there in
    record { begins = omega arith; ends = omega arith; within = omega arith }

-- each item stands at this position or later
abbrev IsFrom : ℕ → List Item → Type 0
IsFrom low is = (k : ℕ) (i : Item) → slice_get is k ≡ Some i → low ≤ position_of i

seen_placed : (es : List Entry) (t last : Table) (is : List Item) (seen : List FileCall) (low most : ℕ) → length es ≤ most → IsFrom low is → Rising is → AreSeen es t is seen last → AllPlaced most low seen
seen_placed es t last [] seen low most few from rising h = subst (AllPlaced most low) (sym h.1) tt
seen_placed es t last (i ∷ is) seen low most few from rising (next, begin, end, rest, step, timed, are, more) =
    let at = position_of i in
    let times = item_times es i begin end timed in
    let ends = times.within in
    let later : IsFrom at is = λ k j there.
    let above = rising 0 (suc k) i j (omega arith) refl there in
    omega arith in
    let rises : Rising is = λ j k a b lt at_j at_k. rising (suc j) (suc k) a b (omega arith) at_j at_k in
    subst (AllPlaced most low) (sym are)
    (item_placed most low at begin end (op_of i) (item_deeds t i) rest (from 0 i refl) times.begins times.ends (omega arith) (seen_placed es next last is rest at most few later rises more))

-- calls without a reply about a file are without a reply
unanswered_about : (es : List Entry) (last : Table) (file : ℕ) (ss : List FileCall) → AllByRecursion (IsOpenCall es last) ss → AllByRecursion IsUnanswered (calls_about file ss)
unanswered_about es last file [] h = h
unanswered_about es last file (s ∷ ss) h =
    let rest = unanswered_about es last file ss h.1 in
    elim (s.file == file) as (λ b. AllByRecursion IsUnanswered (cons_option (if b then Some (client_call s) else None) (calls_about file ss))) [
      | true ↦ (ap (λ (x : FileCall). end_of x.end) h.0.is, rest)
      | false ↦ rest
    ]

-- what the clients of a run saw is explained
pub seen_is_explained : (shape : ShapeFields) (es : List Entry) (seen : List FileCall) → length es ≤ journal_limit → IsSeen shape es seen → AreExplained seen
seen_is_explained shape es seen few s file =
    let first = empty_table (most_regions shape.version) in
    let cs = calls_about file s.answered in
    let os = calls_about file s.unanswered in
    let leads = seen_lead es first s.last s.history s.answered (empty_anchored (most_regions shape.version)) s.calls in
    let led : LeadAlone no_locks cs (alone file s.last.locks) = subst (λ (x : Locks). LeadAlone x cs (alone file s.last.locks)) (alone_at_first file) (lead_alone file no_locks s.last.locks s.answered leads) in
    let placed = placed_about always file 0 s.answered (seen_placed es first s.last s.history s.answered 0 always (omega arith) (λ k i there. omega arith) s.is_history.fits.rising s.calls) in
    let both : calls_about file seen ≡ cs ++ os = ap (calls_about file) s.are ∙ filter_map-append (about file) s.answered s.unanswered in
    (length cs, subst (λ (all : List ClientCall). IsExplainedBy always all (indexes_from 0 (length cs))) (sym both) (explained_in_order cs os (alone file s.last.locks) led placed (unanswered_about es s.last file s.unanswered s.open_calls)))

-- when the call of an item was made and answered
times_of : (es : List Entry) (i : Item) → IsPlaced (IsOpenAt es) es i → (begin : ℕ) × (end : ℕ) × IsTimed es i begin end
times_of es (Answered at id pid op reply) placed = (placed.call_at, placed.reply_at, (placed.called, placed.replied, placed.after, placed.before))
times_of es (Gone at node incarnation) placed = (at, at, (placed, refl, refl))

-- each legal history has the calls that its clients saw
pub seen_of : (es : List Entry) (t last : Table) (is : List Item) → ((k : ℕ) (i : Item) → slice_get is k ≡ Some i → IsPlaced (IsOpenAt es) es i) → Legal t is last → (seen : List FileCall) × AreSeen es t is seen last
seen_of es t last [] placed h = ([], (h, refl))
seen_of es t last (i ∷ is) placed (next, step, more) =
    let times = times_of es i (placed 0 i refl) in
    let rest = seen_of es next last is (λ k j there. placed (suc k) j there) more in
    (map (call_of (op_of i) times.0 (At times.1)) (item_deeds t i) ++ rest.0, (next, times.0, times.1, rest.0, step, times.2, refl, rest.1))
