-- The indexes of calls and of conflicts, as the run goes on by one entry.
use Rattle.std.proofs.Common.{◌≡◌, ℕ, Bool, true, false, cond, refl, sym, ◌∙◌, ap, List, [], ◌∷◌, ◌++◌, slice_get, Option, Some, None, is_some, ◌≢◌, rules, zero, suc, ◌+◌, ◌-◌, ◌<◌, ◌≤◌, if◌then◌else◌, ◌||◌, subst, arith, eqb, not, length, length-append, take, get_or, position, nat_lt, All, IfSome}
use Rattle.std.specs.Option.{option_or}
use Rattle.model.specs.declared.call.CallId.{CallId}
use Rattle.model.specs.declared.op.Op.{Op}
use Rattle.messages.specs.declared.event.Event.{Event}
use Rattle.messages.specs.declared.event.Event.TheVariants.{AtNode, AtServer, Deliver, Member}
use Rattle.messages.specs.declared.event.NodeInput.TheVariants.{Call, Interrupt, Retry}
use Rattle.messages.specs.declared.entry.Entry.{Entry}
use Rattle.messages.specs.rule.Messages.{same_call, is_conflict}
use Rattle.cluster_core.specs.code.Calls.{is_named, called_by, find_call}
use Rattle.placement.specs.declared.call_index.CallIndex.{CallIndex}
use Rattle.placement.specs.code.Indexes.{entry_of, TakesIn, Indexes, call_at, Conflicts, same_revoke, told_at, noted_at, denied, KnowsDenial, Locates, Notes, AreBefore, slot_of, made_by}
use Rattle.std.specs.List.{list_any, position_or_len}
use Rattle.std.specs.HashMap.{get}
use Rattle.std.proofs.lemmas.List.{take_all}
use Rattle.std.proofs.lemmas.List.Elements.{All-more, All-weaker}
use Rattle.std.proofs.lemmas.List.Folds.{list_any_more, position_or_len_push}
use Rattle.std.proofs.lemmas.Bool.Decides.{nat_tests}
use Rattle.std.proofs.lemmas.List.Quantifiers.{position-Some}
use Rattle.std.proofs.lemmas.Option.{same_Some}
use Rattle.messages.specs.declared.message.Message.{Message}
use Rattle.messages.specs.declared.message.Message.TheVariants.{Deny}
use Rattle.cluster_core.specs.rule.Histories.{names_conflict}
use Rattle.placement.specs.declared.revoke_id.RevokeId.{RevokeId}
use Rattle.placement.specs.contracts.revoke_id.RevokeIdPartialEq.TheImpl as derived

-- the call of one entry, if it has that name
abbrev call_in : Entry → CallId → Option (ℕ × Op)
call_in e id = find_call (e ∷ []) id

-- the run with one more entry finds what it found before, or the new call
found_on : (b : Bool) (event : Event) (x y z : Option (ℕ × Op)) → y ≡ option_or x z → cond b (called_by event y) y ≡ option_or (cond b (called_by event x) x) z
found_on true (AtNode node (Call pid op)) x y z h = refl
found_on true (AtNode node (Interrupt pid)) x y z h = h
found_on true (AtNode node (Retry pid)) x y z h = h
found_on true (AtServer file input) x y z h = h
found_on true (Deliver m) x y z h = h
found_on true (Member event) x y z h = h
found_on false event x y z h = h

find_call-push : (es : List Entry) (e : Entry) (id : CallId) → find_call (es ++ e ∷ []) id ≡ option_or (find_call es id) (call_in e id)
find_call-push [] e id = refl
find_call-push (d ∷ ds) e id = found_on (is_named id d.call) d.event (find_call ds id) (find_call (ds ++ e ∷ []) id) (call_in e id) (find_call-push ds e id)

pub option_or-none : {A : Type 0} (x : Option A) → option_or x None ≡ x
option_or-none None = refl
option_or-none (Some x) = refl

option_or-some : {A : Type 0} (x y : Option A) → is_some x ≡ true → option_or x y ≡ x
option_or-some None y h = absurd (cc)
option_or-some (Some x) y h = refl

pub indexes_start : (all : List Entry) (calls : CallIndex) → ((id : CallId) → entry_of calls id ≡ None) → Indexes all calls []
indexes_start all calls none = record {
  found = λ id. ap (call_at all) (none id);
  known = λ id. ap is_some (none id);
}

pub not_found : {A : Type 0} (x : Option A) → is_some x ≡ false → x ≡ None
not_found None h = refl
not_found (Some x) h = absurd (cc)

-- after a call is added the index finds that call too
found-taken : (all : List Entry) (b : Bool) (x : Option ℕ) (w : Option (ℕ × Op)) (index : ℕ) (made : ℕ × Op) → call_at all x ≡ w → is_some x ≡ is_some w → made_by (slice_get all index) ≡ Some made → call_at all (option_or x (cond b (Some index) None)) ≡ option_or w (cond b (Some made) None)
found-taken all true None w index made found known makes = makes ∙ ap (λ (o : Option (ℕ × Op)). option_or o (Some made)) found
found-taken all false None w index made found known makes = ap (λ (o : Option (ℕ × Op)). option_or o None) found
found-taken all b (Some k) w index made found known makes = found ∙ sym (option_or-some w (cond b (Some made) None) (sym known))

known-taken : (b : Bool) (x : Option ℕ) (w : Option (ℕ × Op)) (index : ℕ) (made : ℕ × Op) → is_some x ≡ is_some w → is_some (option_or x (cond b (Some index) None)) ≡ is_some (option_or w (cond b (Some made) None))
known-taken true None None index made known = refl
known-taken false None None index made known = refl
known-taken b None (Some y) index made known = absurd (cc)
known-taken b (Some k) None index made known = absurd (cc)
known-taken b (Some k) (Some y) index made known = refl

module _ (all es : List Entry) (e : Entry) where
  -- an entry that makes no call adds nothing to the index
  pub indexes_none : (calls : CallIndex) → e.call ≡ None → Indexes all calls es → Indexes all calls (es ++ e ∷ [])
  indexes_none calls none before =
      let same : (id : CallId) → find_call es id ≡ find_call (es ++ e ∷ []) id =
      λ id.
      sym (option_or-none (find_call es id))
      ∙ (ap (λ (c : Option CallId). option_or (find_call es id) (cond (is_named id c) (called_by e.event None) None)) (sym none)
      ∙ sym (find_call-push es e id)) in
      record {
        found = λ id. before.found id ∙ same id;
        known = λ id. before.known id ∙ ap is_some (same id);
      }

  -- an entry that makes a call adds it to the index
  pub indexes_taken : (calls next : CallIndex) (id : CallId) (index node pid : ℕ) (op : Op) → slice_get all index ≡ Some e → e.call ≡ Some id → e.event ≡ AtNode node (Call pid op) → TakesIn calls id index next → Indexes all calls es → Indexes all next (es ++ e ∷ [])
  indexes_taken calls next id index node pid op there named event takes before =
      let makes : made_by (slice_get all index) ≡ Some (pid, op) = ap made_by there ∙ ap (λ (v : Event). called_by v None) event in
      let grown : (q : CallId) → option_or (find_call es q) (cond (same_call q id) (Some (pid, op)) None) ≡ find_call (es ++ e ∷ []) q =
      λ q.
      ap (λ (c : Option CallId). option_or (find_call es q) (cond (is_named q c) (called_by (AtNode node (Call pid op)) None) None)) (sym named)
      ∙ (ap (λ (v : Event). option_or (find_call es q) (cond (is_named q e.call) (called_by v None) None)) (sym event)
      ∙ sym (find_call-push es e q)) in
      record {
        found = λ q.
            ap (call_at all) (takes q)
            ∙ (found-taken all (same_call q id) (entry_of calls q) (find_call es q) index (pid, op) (before.found q) (before.known q) makes
            ∙ grown q);
        known = λ q.
            ap is_some (takes q)
            ∙ (known-taken (same_call q id) (entry_of calls q) (find_call es q) index (pid, op) (before.known q)
            ∙ ap is_some (grown q));
      }

-- the derived `==` of revokes is the test of the definitions
revoke_eq : (a b : RevokeId) → derived.ghosts.eq a b ≡ same_revoke a b
revoke_eq a b = search rules

-- a look-up by the derived `==` of revokes is one by the test of the definitions
pub get-same_revoke : (conflicts : Conflicts) (r : RevokeId) → get derived.ghosts.eq conflicts r ≡ get same_revoke conflicts r
get-same_revoke conflicts r = ap (λ (eq : RevokeId → RevokeId → Bool). get eq conflicts r) (λ i a b. revoke_eq a b i)

-- the first of some messages that is a conflict with the revoke is noted
abbrev pub Noted : Conflicts → ℕ → List Message → Conflicts → Type 0
Noted old index ms new = (r : RevokeId) → get same_revoke new r ≡ noted_at (get same_revoke old r) index (list_any (is_conflict r.file r.holder r.number) ms)

unsent : (x : Option ℕ) (index : ℕ) → x ≡ noted_at x index false
unsent None index = refl
unsent (Some zero) index = refl
unsent (Some (suc k)) index = refl

pub noted_none : (conflicts : Conflicts) (index : ℕ) → Noted conflicts index [] conflicts
noted_none conflicts index r = unsent (get same_revoke conflicts r) index

either : (x : Option ℕ) (index : ℕ) (a b : Bool) → noted_at (noted_at x index a) index b ≡ noted_at x index (a || b)
either None index a b = refl
either (Some zero) index true b = refl
either (Some zero) index false b = refl
either (Some (suc k)) index a b = refl

pub noted_more : (old mid new : Conflicts) (index i : ℕ) (ms : List Message) (m : Message) → i < length ms → m ≡ get_or ms i m → Noted old index (take i ms) mid → Notes mid index m new → Noted old index (take (i + 1) ms) new
noted_more old mid new index i ms m lt is before notes r =
    let p = is_conflict r.file r.holder r.number in
    let x = get same_revoke old r in
    notes r
    ∙ (ap (λ (y : Option ℕ). noted_at y index (p m)) (before r)
    ∙ (either x index (list_any p (take i ms)) (p m)
    ∙ (ap (λ (n : Message). noted_at x index (list_any p (take i ms) || p n)) is
    ∙ ap (noted_at x index) (sym (list_any_more p ms i m lt)))))

-- the index knows what it knew
stays_known : (x : Option ℕ) (index : ℕ) (sent : Bool) → is_some (noted_at x index sent) ≡ is_some x
stays_known None index sent = refl
stays_known (Some zero) index sent = refl
stays_known (Some (suc k)) index sent = refl

pub noted_known : (old new : Conflicts) (index : ℕ) (ms : List Message) → Noted old index ms new → (r : RevokeId) → is_some (get same_revoke new r) ≡ is_some (get same_revoke old r)
noted_known old new index ms noted r = ap is_some (noted r) ∙ stays_known (get same_revoke old r) index (list_any (is_conflict r.file r.holder r.number) ms)

pub denial_known : (old new : Conflicts) → ((r : RevokeId) → is_some (get same_revoke new r) ≡ is_some (get same_revoke old r)) → (event : Event) → KnowsDenial old event → KnowsDenial new event
denial_known old new same event = still (denied event)
  where
    still : (o : Option RevokeId) → IfSome o (λ r. is_some (get same_revoke old r) ≡ true) → IfSome o (λ r. is_some (get same_revoke new r) ≡ true)
    still None known = tt
    still (Some r) known = same r ∙ known

-- one denial more is known, with no conflict
module _ (old new : Conflicts) (revoke : RevokeId) (puts : (r : RevokeId) → get derived.ghosts.eq new r ≡ cond (derived.ghosts.eq revoke r) (Some 0) (get derived.ghosts.eq old r)) where
  put_at : (r : RevokeId) → get same_revoke new r ≡ cond (same_revoke revoke r) (Some 0) (get same_revoke old r)
  put_at r =
      sym (get-same_revoke new r)
      ∙ (puts r
      ∙ (ap (λ (b : Bool). cond b (Some 0) (get derived.ghosts.eq old r)) (revoke_eq revoke r)
      ∙ ap (λ (o : Option ℕ). cond (same_revoke revoke r) (Some 0) o) (get-same_revoke old r)))

  pub untold_put : ((r : RevokeId) → told_at (get same_revoke old r) ≡ None) → (r : RevokeId) → told_at (get same_revoke new r) ≡ None
  untold_put before r = ap told_at (put_at r) ∙ still (same_revoke revoke r) (get same_revoke old r) (before r)
    where
      still : (b : Bool) (o : Option ℕ) → told_at o ≡ None → told_at (cond b (Some 0) o) ≡ None
      still true o untold = refl
      still false o untold = untold

  known_put : (event : Event) → KnowsDenial old event → KnowsDenial new event
  known_put event = still (denied event)
    where
      kept : (b : Bool) (o : Option ℕ) → is_some o ≡ true → is_some (cond b (Some 0) o) ≡ true
      kept true o known = refl
      kept false o known = known

      still : (o : Option RevokeId) → IfSome o (λ r. is_some (get same_revoke old r) ≡ true) → IfSome o (λ r. is_some (get same_revoke new r) ≡ true)
      still None known = tt
      still (Some r) known = ap is_some (put_at r) ∙ kept (same_revoke revoke r) (get same_revoke old r) known

  put_here : is_some (get same_revoke new revoke) ≡ true
  put_here = ap is_some (put_at revoke) ∙ ap (λ (b : Bool). is_some (cond b (Some 0) (get same_revoke old revoke))) same
    where
      same : same_revoke revoke revoke ≡ true
      same = search rules

  pub denials_put : (es : List Entry) (i : ℕ) (e : Entry) → i < length es → e ≡ get_or es i e → denied e.event ≡ Some revoke → All (λ d. KnowsDenial old d.event) (take i es) → All (λ d. KnowsDenial new d.event) (take (i + 1) es)
  denials_put es i e lt is names before =
      let here : KnowsDenial new e.event = subst (λ (o : Option RevokeId). IfSome o (λ r. is_some (get same_revoke new r) ≡ true)) (sym names) put_here in
      All-more (λ d. KnowsDenial new d.event) es i e lt (All-weaker (λ d. KnowsDenial old d.event) (λ d. KnowsDenial new d.event) (λ d. known_put d.event) (take i es) before) (subst (λ (d : Entry). KnowsDenial new d.event) is here)

pub denials_more : (conflicts : Conflicts) (es : List Entry) (i : ℕ) (e : Entry) → i < length es → e ≡ get_or es i e → denied e.event ≡ None → All (λ d. KnowsDenial conflicts d.event) (take i es) → All (λ d. KnowsDenial conflicts d.event) (take (i + 1) es)
denials_more conflicts es i e lt is none before =
    let here : KnowsDenial conflicts e.event = subst (λ (o : Option RevokeId). IfSome o (λ r. is_some (get same_revoke conflicts r) ≡ true)) (sym none) tt in
    All-more (λ d. KnowsDenial conflicts d.event) es i e lt before (subst (λ (d : Entry). KnowsDenial conflicts d.event) is here)

told_next : (x : Option ℕ) (index : ℕ) (sent : Bool) → is_some x ≡ true → told_at (noted_at x index sent) ≡ option_or (told_at x) (if sent then Some index else None)
told_next None index sent known = absurd (cc)
told_next (Some zero) index true known = refl
told_next (Some zero) index false known = refl
told_next (Some (suc k)) index sent known = refl

-- the first place at which a test passes, in a list with one more element
position_or_len-le : {A : Type 0} (p : A → Bool) (xs : List A) → position_or_len p xs ≤ length xs
position_or_len-le p [] = omega arith
position_or_len-le p (x ∷ xs) = by (p x) (position_or_len p xs) (position_or_len-le p xs)
  where
    by : (b : Bool) (n : ℕ) → n ≤ length xs → cond (not b) (1 + n) 0 ≤ length (x ∷ xs)
    by true n le = omega arith
    by false n le = omega arith

-- where the first place was n, the list had k elements, and the test of the new one answers b
placed-push : (n k m l : ℕ) (b : Bool) → n ≤ k → m ≡ cond (eqb n k) (k + cond b 0 1) n → l ≡ k + 1 → cond (nat_lt m l) (Some m) None ≡ option_or (cond (nat_lt n k) (Some n) None) (if b then Some k else None)
placed-push n k m l true le place long = grind (arith, nat_tests)
placed-push n k m l false le place long = grind (arith, nat_tests)

position-push : {A : Type 0} (p : A → Bool) (xs : List A) (y : A) → position p (xs ++ y ∷ []) ≡ option_or (position p xs) (if p y then Some (length xs) else None)
position-push p xs y = placed-push (position_or_len p xs) (length xs) (position_or_len p (xs ++ y ∷ [])) (length (xs ++ y ∷ [])) (p y) (position_or_len-le p xs) (position_or_len_push p xs y) (length-append xs (y ∷ []))

-- after all messages of an entry the index has its conflicts
pub noted_all : (old new : Conflicts) (index i : ℕ) (ms : List Message) (e : Entry) → e.sends ≡ ms → length ms ≤ i → Noted old index (take i ms) new → (es : List Entry) → length es ≡ index → Locates old es → Locates new (es ++ e ∷ [])
noted_all old new index i ms e sent all noted es long before r known =
    let p = is_conflict r.file r.holder r.number in
    let named = names_conflict r.file r.holder r.number in
    let x = get same_revoke old r in
    let whole : get same_revoke new r ≡ noted_at x index (named e) = noted r ∙ ap (λ (xs : List Message). noted_at x index (list_any p xs)) (take_all i ms all ∙ sym sent) in
    let knew : is_some x ≡ true = sym (stays_known x index (named e)) ∙ (sym (ap is_some whole) ∙ known) in
    ap told_at whole
    ∙ (told_next x index (named e) knew
    ∙ (ap (λ (y : Option ℕ). option_or y (if named e then Some index else None)) (before r knew)
    ∙ (ap (λ (n : ℕ). option_or (position named es) (if named e then Some n else None)) (sym long)
    ∙ sym (position-push named es e))))

is_known : (x : Option ℕ) (index : ℕ) → told_at x ≡ Some index → is_some x ≡ true
is_known None index told = absurd (cc)
is_known (Some k) index told = refl

pub located_before : (conflicts : Conflicts) (es : List Entry) → Locates conflicts es → AreBefore conflicts (length es)
located_before conflicts es located r index found = within es index (sym (located r (is_known (get same_revoke conflicts r) index found)) ∙ found)
  where
    within : (ds : List Entry) (k : ℕ) → position (names_conflict r.file r.holder r.number) ds ≡ Some k → k < length ds
    within [] k h = absurd (cc)
    within (d ∷ ds) k h = (position-Some (names_conflict r.file r.holder r.number) (d ∷ ds) k d h).0

pub located_none : (conflicts : Conflicts) → ((r : RevokeId) → told_at (get same_revoke conflicts r) ≡ None) → Locates conflicts []
located_none conflicts untold r known = untold r

-- the entry that the index has for a revoke, by what it keeps
pub told_is : (place : ℕ) → place ≢ 0 → told_at (Some place) ≡ Some (place - 1)
told_is zero some = absurd (some refl)
told_is (suc k) some =
    let is : k ≡ suc k - 1 = omega arith in
    ap (λ (n : ℕ). Some n) is

pub found_before : (conflicts : Conflicts) (n place : ℕ) (r : RevokeId) → AreBefore conflicts n → Some place ≡ get derived.ghosts.eq conflicts r → place ≢ 0 → place - 1 ≤ n
found_before conflicts n place r before is some =
    let lt = before r (place - 1) (sym (ap told_at (is ∙ get-same_revoke conflicts r)) ∙ told_is place some) in
    omega arith

-- the slot for an event that names a revoke, or none
undenied : (es : List Entry) (own : ℕ) (event : Event) → denied event ≡ None → slot_of es own event ≡ Some own
undenied es own (Deliver (Deny file call holder number lock)) is = absurd (cc)
undenied es own event is = refl

by_revoke : (es : List Entry) (own : ℕ) (event : Event) (r : RevokeId) → denied event ≡ Some r → slot_of es own event ≡ position (names_conflict r.file r.holder r.number) es
by_revoke es own (Deliver (Deny file call holder number lock)) r is = ap (λ (q : RevokeId). position (names_conflict q.file q.holder q.number) es) (same_Some (record { file = file; holder = holder; number = number }) r is)
by_revoke es own event r is = absurd (cc)

pub slot_own : (es : List Entry) (own : ℕ) (event : Event) → denied event ≡ None → Some own ≡ slot_of es own event
slot_own es own event is = sym (undenied es own event is)

pub slot_told : (conflicts : Conflicts) (es : List Entry) (own : ℕ) (event : Event) (r : RevokeId) → denied event ≡ Some r → KnowsDenial conflicts event → Locates conflicts es → told_at (get derived.ghosts.eq conflicts r) ≡ slot_of es own event
slot_told conflicts es own event r is known located =
    let knows : is_some (get same_revoke conflicts r) ≡ true = subst (λ (o : Option RevokeId). IfSome o (λ q. is_some (get same_revoke conflicts q) ≡ true)) is known in
    ap told_at (get-same_revoke conflicts r) ∙ (located r knows ∙ sym (by_revoke es own event r is))
