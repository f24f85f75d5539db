-- Requests in slots, and their places.
use Rattle.std.specs.Prelude.{◌≡◌, ℕ, ◌+◌, Bool, true, false, cond, not, List, [], ◌∷◌, ◌++◌, length, map, filter, find, Option, Some, None, refl, ◌<◌, option_map}
use Rattle.std.proofs.Common.{zero, suc, ap, sym, subst, ◌∙◌, set, arith, ⊎_elim}
use Rattle.std.proofs.lemmas.Option.{none-some, same_Some}
use Rattle.model.specs.declared.call.CallId.{CallId}
use Rattle.messages.specs.rule.Messages.{same_call}
use Rattle.token_server.specs.declared.token_queue.token_request.TokenRequest.{TokenRequest}
use Rattle.token_server.specs.rule.Requests.{is_of_call, requests_in, AreOfDistinctCalls}
use Rattle.token_server.specs.code.Admissions.{request_at, call_at, unless, ArePlaced}
use Rattle.token_server.proofs.CallLaws.{same_call-true, same_call-refl, eq-same_call, same_call-apart}
use Rattle.std.proofs.lemmas.Bool.{cases_lt}
use Rattle.std.proofs.lemmas.List.{get_or_append_left, get_or_push, get_or_past, get_or-set_same, get_or-set_other, length_push}
use Rattle.indexmap.specs.IndexMap.{IndexMap, get, index_map_len}
use Rattle.model.specs.contracts.call.CallIdPartialEq.TheImpl as derived

-- the requests in two lists of slots together are those of the first and then those of the second
pub requests_in-append : (a b : List (Option TokenRequest)) → requests_in (a ++ b) ≡ requests_in a ++ requests_in b
requests_in-append [] b = refl
requests_in-append (None ∷ a) b = requests_in-append a b
requests_in-append (Some r ∷ a) b = ap (λ rs. r ∷ rs) (requests_in-append a b)

-- emptying slots by a test leaves the requests that a filter by the test keeps
pub requests_in-unless : (drops : TokenRequest → Bool) (slots : List (Option TokenRequest)) → requests_in (map (unless drops) slots) ≡ filter (λ r. not (drops r)) (requests_in slots)
requests_in-unless drops [] = refl
requests_in-unless drops (None ∷ slots) = requests_in-unless drops slots
requests_in-unless drops (Some r ∷ slots) = by (drops r) (requests_in-unless drops slots)
  where
    by : (b : Bool) → requests_in (map (unless drops) slots) ≡ filter (λ q. not (drops q)) (requests_in slots)
        → requests_in (cond b None (Some r) ∷ map (unless drops) slots) ≡ cond (not b) (r ∷ filter (λ q. not (drops q)) (requests_in slots)) (filter (λ q. not (drops q)) (requests_in slots))
    by true rest = rest
    by false rest = ap (λ rs. r ∷ rs) rest

-- no slot holds a request of the call
abbrev pub HasNone : CallId → List (Option TokenRequest) → Type 0
HasNone call slots = (place : ℕ) → call_at slots place ≡ Some call → ⊥

-- no two slots hold requests of one call
abbrev pub AreApart : List (Option TokenRequest) → Type 0
AreApart slots = (i j : ℕ) (call : CallId) → call_at slots i ≡ Some call → call_at slots j ≡ Some call → i ≡ j

AreApart-rest : (slot : Option TokenRequest) (slots : List (Option TokenRequest)) → AreApart (slot ∷ slots) → AreApart slots
AreApart-rest slot slots apart i j call p q = let e : suc i ≡ suc j = apart (suc i) (suc j) call p q in omega arith

-- no later slot holds a request of the first slot's call
HasNone-rest : (r : TokenRequest) (slots : List (Option TokenRequest)) → AreApart (Some r ∷ slots) → HasNone r.call slots
HasNone-rest r slots apart place p = let e : 0 ≡ suc place = apart 0 (suc place) r.call refl p in omega arith

pub find-none : (call : CallId) (slots : List (Option TokenRequest)) → HasNone call slots → find (is_of_call call) (requests_in slots) ≡ None
find-none call [] none = refl
find-none call (None ∷ slots) none = find-none call slots (λ place. none (suc place))
find-none call (Some r ∷ slots) none = by (same_call r.call call) refl (find-none call slots (λ place. none (suc place)))
  where
    by : (b : Bool) → same_call r.call call ≡ b → find (is_of_call call) (requests_in slots) ≡ None → find (is_of_call call) (r ∷ requests_in slots) ≡ None
    by true is rest = absurd (none 0 (ap Some (same_call-true r.call call is)))
    by false is rest = ap (λ (b : Bool). cond b (Some r) (find (is_of_call call) (requests_in slots))) is ∙ rest

-- where no two slots hold requests of one call, the requests are of distinct calls
pub distinct : (slots : List (Option TokenRequest)) → AreApart slots → AreOfDistinctCalls (requests_in slots)
distinct [] apart = tt
distinct (None ∷ slots) apart = distinct slots (AreApart-rest None slots apart)
distinct (Some r ∷ slots) apart = (find-none r.call slots (HasNone-rest r slots apart), distinct slots (AreApart-rest (Some r) slots apart))

-- the request of the call is the one in the slot that holds a request of the call
pub find-placed : (call : CallId) (slots : List (Option TokenRequest)) (place : ℕ) → AreApart slots → call_at slots place ≡ Some call → find (is_of_call call) (requests_in slots) ≡ request_at slots place
find-placed call [] place apart at = absurd (none-some call at)
find-placed call (None ∷ slots) zero apart at = absurd (none-some call at)
find-placed call (None ∷ slots) (suc place) apart at = find-placed call slots place (AreApart-rest None slots apart) at
find-placed call (Some r ∷ slots) zero apart at =
    ap (λ (b : Bool). cond b (Some r) (find (is_of_call call) (requests_in slots))) (subst (λ (c : CallId). same_call r.call c ≡ true) (same_Some r.call call at) (same_call-refl r.call))
find-placed call (Some r ∷ slots) (suc place) apart at = by (same_call r.call call) refl (find-placed call slots place (AreApart-rest (Some r) slots apart) at)
  where
    by : (b : Bool) → same_call r.call call ≡ b → find (is_of_call call) (requests_in slots) ≡ request_at slots place → find (is_of_call call) (r ∷ requests_in slots) ≡ request_at slots place
    by true is rest = absurd (HasNone-rest r slots apart place (at ∙ ap Some (sym (same_call-true r.call call is))))
    by false is rest = ap (λ (b : Bool). cond b (Some r) (find (is_of_call call) (requests_in slots))) is ∙ rest

-- where no slot holds a request of the call, none is emptied
pub untouched : (call : CallId) (slots : List (Option TokenRequest)) → HasNone call slots → map (unless (is_of_call call)) slots ≡ slots
untouched call [] none = refl
untouched call (None ∷ slots) none = ap (λ rest. None ∷ rest) (untouched call slots (λ place. none (suc place)))
untouched call (Some r ∷ slots) none = by (same_call r.call call) refl (untouched call slots (λ place. none (suc place)))
  where
    by : (b : Bool) → same_call r.call call ≡ b → map (unless (is_of_call call)) slots ≡ slots → map (unless (is_of_call call)) (Some r ∷ slots) ≡ Some r ∷ slots
    by true is rest = absurd (none 0 (ap Some (same_call-true r.call call is)))
    by false is rest = λ i. cond (is i) None (Some r) ∷ rest i

-- the slot of the call's request is emptied, and no other
pub cleared : (call : CallId) (slots : List (Option TokenRequest)) (place : ℕ) → AreApart slots → call_at slots place ≡ Some call → set slots place None ≡ map (unless (is_of_call call)) slots
cleared call [] place apart at = absurd (none-some call at)
cleared call (None ∷ slots) zero apart at = absurd (none-some call at)
cleared call (None ∷ slots) (suc place) apart at = ap (λ rest. None ∷ rest) (cleared call slots place (AreApart-rest None slots apart) at)
cleared call (Some r ∷ slots) zero apart at =
    let same : r.call ≡ call = same_Some r.call call at in
    let is : same_call r.call call ≡ true = subst (λ (c : CallId). same_call r.call c ≡ true) same (same_call-refl r.call) in
    let rest : map (unless (is_of_call call)) slots ≡ slots = untouched call slots (λ place p. HasNone-rest r slots apart place (p ∙ ap Some (sym same))) in
    sym (λ i. cond (is i) None (Some r) ∷ rest i)
cleared call (Some r ∷ slots) (suc place) apart at = by (same_call r.call call) refl (cleared call slots place (AreApart-rest (Some r) slots apart) at)
  where
    by : (b : Bool) → same_call r.call call ≡ b → set slots place None ≡ map (unless (is_of_call call)) slots → Some r ∷ set slots place None ≡ map (unless (is_of_call call)) (Some r ∷ slots)
    by true is rest = absurd (HasNone-rest r slots apart place (at ∙ ap Some (sym (same_call-true r.call call is))))
    by false is rest = sym (λ i. cond (is i) None (Some r) ∷ sym rest i)

-- emptying a slot with a request leaves one request fewer
pub length-cleared : (call : CallId) (slots : List (Option TokenRequest)) (place : ℕ) → call_at slots place ≡ Some call → length (requests_in (set slots place None)) + 1 ≡ length (requests_in slots)
length-cleared call [] place at = absurd (none-some call at)
length-cleared call (None ∷ slots) zero at = absurd (none-some call at)
length-cleared call (None ∷ slots) (suc place) at = length-cleared call slots place at
length-cleared call (Some r ∷ slots) zero at = omega arith
length-cleared call (Some r ∷ slots) (suc place) at = omega (arith, length-cleared call slots place at)

-- a look-up by the derived `==` is a look-up by the test of the definitions
pub get-same_call : {S : Type 0} (m : IndexMap CallId ℕ S) (call : CallId) → get derived.ghosts.eq m call ≡ get same_call m call
get-same_call m call = ap (λ (eq : CallId → CallId → Bool). get eq m call) eq-same_call

-- a change by the derived `==` is a change by the test of the definitions
pub updates-same_call : {S : Type 0} (m n : IndexMap CallId ℕ S) (key : CallId) (w : Option ℕ)
    → ((q : CallId) → get derived.ghosts.eq n q ≡ cond (derived.ghosts.eq key q) w (get derived.ghosts.eq m q)) → (q : CallId) → get same_call n q ≡ cond (same_call key q) w (get same_call m q)
updates-same_call m n key w updates q = subst (λ (eq : CallId → CallId → Bool). get eq n q ≡ cond (eq key q) w (get eq m q)) eq-same_call (updates q)

-- a slot with a request is one of the slots
pub call_at-within : (slots : List (Option TokenRequest)) (place : ℕ) (call : CallId) → call_at slots place ≡ Some call → place < length slots
call_at-within slots place call at = ⊎_elim (λ in_list. in_list) (λ past. absurd (none-some call (ap (option_map (λ r. r.call)) (sym (get_or_past slots place None past)) ∙ at))) (cases_lt place (length slots))

module _ {S : Type 0} (slots : List (Option TokenRequest)) (m : IndexMap CallId ℕ S) (placed : ArePlaced slots m) where
  -- no two slots hold requests of one call
  pub AreApart-placed : AreApart slots
  AreApart-placed i j call p q = same_Some i j (sym (placed.found call i p) ∙ placed.found call j q)

  -- a call that has a place has its request there
  pub found-at : (call : CallId) (place : ℕ) → get same_call m call ≡ Some place → find (is_of_call call) (requests_in slots) ≡ request_at slots place
  found-at call place at = find-placed call slots place AreApart-placed (placed.held call place at)

  pub within : (call : CallId) (place : ℕ) → get same_call m call ≡ Some place → place < length slots
  within call place at = call_at-within slots place call (placed.held call place at)

  -- a call that has no place has no request
  pub HasNone-placed : (call : CallId) → get same_call m call ≡ None → HasNone call slots
  HasNone-placed call none place at = none-some place (sym none ∙ placed.found call place at)

  -- a call that has no request has no place
  pub HasNone-found : (call : CallId) → find (is_of_call call) (requests_in slots) ≡ None → HasNone call slots
  HasNone-found call none place at = none-some call (ap (option_map (λ r. r.call)) (sym none ∙ find-placed call slots place AreApart-placed at) ∙ at)

  pub absent : (call : CallId) → find (is_of_call call) (requests_in slots) ≡ None → get same_call m call ≡ None
  absent call none = by (get same_call m call) refl
    where
      by : (o : Option ℕ) → get same_call m call ≡ o → get same_call m call ≡ None
      by None e = e
      by (Some place) e = absurd (HasNone-found call none place (placed.held call place e))

  module _ (n : IndexMap CallId ℕ S) where
    -- the index fits after a request comes last
    pub ArePlaced-push : (r : TokenRequest) → find (is_of_call r.call) (requests_in slots) ≡ None
        → ((q : CallId) → get same_call n q ≡ cond (same_call r.call q) (Some (length slots)) (get same_call m q)) → index_map_len n ≡ index_map_len m + 1 → ArePlaced (slots ++ Some r ∷ []) n
    ArePlaced-push r none updates len = record { found = found; held = held; counted = counted }
      where
        new_slots : List (Option TokenRequest)
        new_slots = slots ++ Some r ∷ []

        last : call_at new_slots (length slots) ≡ Some r.call
        last = ap (option_map (λ q. q.call)) (get_or_push slots (Some r) None (length slots) refl)

        before : (place : ℕ) → place < length slots → call_at new_slots place ≡ call_at slots place
        before place low = ap (option_map (λ q. q.call)) (get_or_append_left slots (Some r ∷ []) None place low)

        found : (call : CallId) (place : ℕ) → call_at new_slots place ≡ Some call → get same_call n call ≡ Some place
        found call place at = by (same_call r.call call) refl
          where
            low_or_last : place < length slots + 1
            low_or_last = omega (arith, call_at-within new_slots place call at, length_push slots (Some r))

            by : (b : Bool) → same_call r.call call ≡ b → get same_call n call ≡ Some place
            by true is = ⊎_elim
                (λ low. absurd (HasNone-found r.call none place (sym (before place low) ∙ at ∙ ap Some (sym (same_call-true r.call call is)))))
                (λ high. let e : length slots ≡ place = omega (arith, low_or_last) in updates call ∙ ap (λ (b : Bool). cond b (Some (length slots)) (get same_call m call)) is ∙ ap Some e)
                (cases_lt place (length slots))
            by false is = ⊎_elim
                (λ low. updates call ∙ ap (λ (b : Bool). cond b (Some (length slots)) (get same_call m call)) is ∙ placed.found call place (sym (before place low) ∙ at))
                (λ high. let e : length slots ≡ place = omega (arith, low_or_last) in same_call-apart r.call call _ is (same_Some r.call call (sym last ∙ ap (call_at new_slots) e ∙ at)))
                (cases_lt place (length slots))

        held : (call : CallId) (place : ℕ) → get same_call n call ≡ Some place → call_at new_slots place ≡ Some call
        held call place at = by (same_call r.call call) refl
          where
            by : (b : Bool) → same_call r.call call ≡ b → call_at new_slots place ≡ Some call
            by true is =
                let e : length slots ≡ place = same_Some (length slots) place (sym (updates call ∙ ap (λ (b : Bool). cond b (Some (length slots)) (get same_call m call)) is) ∙ at) in
                ap (call_at new_slots) (sym e) ∙ last ∙ ap Some (same_call-true r.call call is)
            by false is =
                let old : get same_call m call ≡ Some place = sym (updates call ∙ ap (λ (b : Bool). cond b (Some (length slots)) (get same_call m call)) is) ∙ at in
                before place (within call place old) ∙ placed.held call place old

        counted : index_map_len n ≡ length (requests_in new_slots)
        counted = let e : length (requests_in new_slots) ≡ length (requests_in slots) + 1 = ap length (requests_in-append slots (Some r ∷ [])) ∙ length_push (requests_in slots) r in omega (arith, placed.counted, len)

    -- the index fits after a slot is emptied
    pub ArePlaced-clear : (gone : CallId) (hole : ℕ) → get same_call m gone ≡ Some hole
        → ((q : CallId) → get same_call n q ≡ cond (same_call gone q) None (get same_call m q)) → index_map_len n + 1 ≡ index_map_len m → ArePlaced (set slots hole None) n
    ArePlaced-clear gone hole had updates len = record { found = found; held = held; counted = counted }
      where
        new_slots : List (Option TokenRequest)
        new_slots = set slots hole None

        there : call_at new_slots hole ≡ None
        there = ap (option_map (λ q. q.call)) (get_or-set_same slots hole None None (within gone hole had))

        other : (place : ℕ) → (place ≡ hole → ⊥) → call_at new_slots place ≡ call_at slots place
        other place apart = ap (option_map (λ q. q.call)) (get_or-set_other slots hole place None None apart)

        found : (call : CallId) (place : ℕ) → call_at new_slots place ≡ Some call → get same_call n call ≡ Some place
        found call place at = by (same_call gone call) refl
          where
            apart : place ≡ hole → ⊥
            apart e = none-some call (sym there ∙ ap (call_at new_slots) (sym e) ∙ at)

            old : get same_call m call ≡ Some place
            old = placed.found call place (sym (other place apart) ∙ at)

            by : (b : Bool) → same_call gone call ≡ b → get same_call n call ≡ Some place
            by true is = absurd (apart (same_Some place hole (sym old ∙ ap (get same_call m) (sym (same_call-true gone call is)) ∙ had)))
            by false is = updates call ∙ ap (λ (b : Bool). cond b None (get same_call m call)) is ∙ old

        held : (call : CallId) (place : ℕ) → get same_call n call ≡ Some place → call_at new_slots place ≡ Some call
        held call place at = by (same_call gone call) refl
          where
            by : (b : Bool) → same_call gone call ≡ b → call_at new_slots place ≡ Some call
            by true is = absurd (none-some place (sym (updates call ∙ ap (λ (b : Bool). cond b None (get same_call m call)) is) ∙ at))
            by false is =
                let old : get same_call m call ≡ Some place = sym (updates call ∙ ap (λ (b : Bool). cond b None (get same_call m call)) is) ∙ at in
                other place (λ e. same_call-apart gone call _ is (same_Some gone call (sym (placed.held gone hole had) ∙ ap (call_at slots) (sym e) ∙ placed.held call place old))) ∙ placed.held call place old

        counted : index_map_len n ≡ length (requests_in new_slots)
        counted = omega (arith, placed.counted, len, length-cleared gone slots hole (placed.held gone hole had))
