-- The index of calls, as one more is added.
use Rattle.std.proofs.Common.{◌≡◌, rules, ℕ, zero, suc, ◌+◌, ◌<◌, ◌==◌, ◌&&◌, Bool, true, false, cond, if◌then◌else◌, refl, sym, ◌∙◌, ap, subst, arith, List, [], ◌∷◌, ◌++◌, length, append-nil, length-set, get_or, get_or-set_same, slice_get, slice_set, Option, Some, None, is_some}
use Rattle.std.proofs.lemmas.Option.{slice_get_read}
use Rattle.std.specs.Vec.{with_item}
use Rattle.std.specs.Global.{Vec}
use Rattle.std.specs.Option.{option_or, option_map_or}
use Rattle.std.specs.HashMap.{HashMap, get}
use Rattle.std.specs.declared.hash.FoldHasher.{FoldHasher}
use Rattle.std.specs.declared.hash.BuildHasherDefault.{BuildHasherDefault}
use Rattle.std.proofs.lemmas.Grind.{common_steps}
use Rattle.model.specs.declared.call.CallId.{CallId}
use Rattle.model.specs.declared.host.Host.{Host}
use Rattle.model.specs.contracts.call.CallIdPartialEq.TheImpl as derived
use Rattle.model.specs.rule.Owners.{host_of_call, same_host}
use Rattle.messages.specs.rule.Messages.{same_call}
use Rattle.messages.proofs.SameMessages.{host_exact, call_exact}
use Rattle.placement.specs.declared.call_index.CallIndex.{CallIndex}
use Rattle.placement.specs.code.Indexes.{Rows, list_at, row_of, in_row, entry_of, TakesIn}
use Rattle.placement.proofs.Index.{option_or-none, not_found}

-- what is read from a row that grows
slice_get-push : (row : List ℕ) (index n : ℕ) → slice_get (row ++ index ∷ []) n ≡ (if n == length row then Some index else slice_get row n)
slice_get-push [] index zero = refl
slice_get-push [] index (suc n) = grind (arith, common_steps)
slice_get-push (x ∷ xs) index zero = grind (arith, common_steps)
slice_get-push (x ∷ xs) index (suc n) =
    let later = slice_get-push xs index n in
    grind (arith, common_steps)

in_row-push : (row : List ℕ) (index number : ℕ) → in_row (row ++ index ∷ []) number ≡ (if number == length row + 1 then Some index else in_row row number)
in_row-push row index zero = grind (arith, common_steps)
in_row-push row index (suc n) =
    let read = slice_get-push row index n in
    grind (arith, common_steps)

-- one list is put in the place of another, and the rest stay
list_at-set : {A : Type 0} (lists : List (Vec A)) (place k : ℕ) (list : Vec A) → place < length lists → list_at (slice_set lists place list) k ≡ (if k == place then list.items else list_at lists k)
list_at-set [] place k list within = absurd (omega arith)
list_at-set (x ∷ xs) zero zero list within = refl
list_at-set (x ∷ xs) zero (suc k) list within = grind (arith, common_steps)
list_at-set (x ∷ xs) (suc place) zero list within = grind (arith, common_steps)
list_at-set (x ∷ xs) (suc place) (suc k) list within =
    let later = list_at-set xs place k list (omega arith) in
    grind (arith, common_steps)

list_at-read : {A : Type 0} (lists : List (Vec A)) (place : ℕ) (list : Vec A) → place < length lists → list ≡ get_or lists place list → list_at lists place ≡ list.items
list_at-read {A} lists place list within is = ap (λ (o : Option (Vec A)). option_map_or (λ l. l.items) o []) (slice_get_read lists (length lists) place list refl within is)

-- one index is put at the end of a host's row: rows for the node are at hand, then the node has a row for the incarnation
pub row-pushed : (old rows : Rows) (hosts more here : Vec (Vec ℕ)) (row pushed : Vec ℕ) (host : Host) (index : ℕ)
    → ((k : ℕ) → list_at rows.items k ≡ list_at old.items k) → host.node < length rows.items → hosts ≡ get_or rows.items host.node hosts
    → ((k : ℕ) → list_at more.items k ≡ list_at hosts.items k) → host.incarnation < length more.items → here ≡ get_or (slice_set rows.items host.node more) host.node here
    → row ≡ get_or here.items host.incarnation row → pushed.items ≡ row.items ++ index ∷ []
    → (q : Host) → list_at (list_at (slice_set (slice_set rows.items host.node more) host.node (with_item here host.incarnation pushed)) q.node) q.incarnation ≡ row_of old q ++ (if same_host host q then index ∷ [] else [])
row-pushed old rows hosts more here row pushed host index same within hosts_is still long here_is row_is push_is q = by (q.node == host.node) refl
  where
    n : ℕ
    n = host.node

    put : Vec (Vec ℕ)
    put = with_item here host.incarnation pushed

    here_more : here ≡ more
    here_more = here_is ∙ get_or-set_same rows.items n more here within

    -- what the host's node had in an incarnation
    had : (k : ℕ) → list_at here.items k ≡ list_at (list_at old.items n) k
    had k =
        ap (λ (list : Vec (Vec ℕ)). list_at list.items k) here_more
        ∙ (still k
        ∙ ap (λ (list : List (Vec ℕ)). list_at list k) (sym (list_at-read rows.items n hosts within hosts_is) ∙ same n))

    long_here : host.incarnation < length here.items
    long_here = subst (λ (list : Vec (Vec ℕ)). host.incarnation < length list.items) (sym here_more) long

    within_put : n < length (slice_set rows.items n more)
    within_put = subst (λ (k : ℕ). n < k) (sym (length-set rows.items n more)) within

    pushed_is : pushed.items ≡ list_at (list_at old.items n) host.incarnation ++ index ∷ []
    pushed_is = push_is ∙ ap (λ (xs : List ℕ). xs ++ index ∷ []) (sym (list_at-read here.items host.incarnation row long_here row_is) ∙ had host.incarnation)

    at_node : (c : Bool) → (q.incarnation == host.incarnation) ≡ c → list_at put.items q.incarnation ≡ list_at (list_at old.items n) q.incarnation ++ (if c then index ∷ [] else [])
    at_node c is =
        let read = list_at-set here.items host.incarnation q.incarnation pushed long_here ∙ ap (λ (b : Bool). if b then pushed.items else list_at here.items q.incarnation) is in
        read ∙ either_row c is
      where
        either_row : (b : Bool) → (q.incarnation == host.incarnation) ≡ b → (if b then pushed.items else list_at here.items q.incarnation) ≡ list_at (list_at old.items n) q.incarnation ++ (if b then index ∷ [] else [])
        either_row true e =
            let k : host.incarnation ≡ q.incarnation = grind (arith, common_steps) in
            pushed_is ∙ ap (λ (k : ℕ). list_at (list_at old.items n) k ++ index ∷ []) k
        either_row false e = had q.incarnation ∙ sym (append-nil (list_at (list_at old.items n) q.incarnation))

    by : (b : Bool) → (q.node == n) ≡ b → list_at (list_at (slice_set (slice_set rows.items n more) n put) q.node) q.incarnation ≡ row_of old q ++ (if same_host host q then index ∷ [] else [])
    by true h =
        let node : n ≡ q.node = grind (arith, common_steps) in
        let test : (q.incarnation == host.incarnation) ≡ same_host host q = grind (arith, common_steps) in
        ap (λ (list : List (Vec ℕ)). list_at list q.incarnation) (list_at-set (slice_set rows.items n more) n q.node put within_put ∙ ap (λ (b : Bool). if b then put.items else list_at (slice_set rows.items n more) q.node) h)
        ∙ (at_node (q.incarnation == host.incarnation) refl
        ∙ (ap (λ (k : ℕ). list_at (list_at old.items k) q.incarnation ++ (if q.incarnation == host.incarnation then index ∷ [] else [])) node
        ∙ ap (λ (b : Bool). row_of old q ++ (if b then index ∷ [] else [])) test))
    by false h =
        let test : false ≡ same_host host q = grind (arith, common_steps) in
        ap (λ (list : List (Vec ℕ)). list_at list q.incarnation) (list_at-set (slice_set rows.items n more) n q.node put within_put ∙ (ap (λ (b : Bool). if b then put.items else list_at (slice_set rows.items n more) q.node) h ∙ (list_at-set rows.items n q.node more within ∙ (ap (λ (b : Bool). if b then more.items else list_at rows.items q.node) h ∙ same q.node))))
        ∙ (sym (append-nil (row_of old q))
        ∙ ap (λ (b : Bool). row_of old q ++ (if b then index ∷ [] else [])) test)

-- the call that goes into a row is found there, and any other as before
either : (b : Bool) (index : ℕ) (x y : Option ℕ) → (b ≡ true → option_or x y ≡ None) → option_or (if b then Some index else x) y ≡ option_or (option_or x y) (if b then Some index else None)
either true index x y fresh = sym (ap (λ (o : Option ℕ). option_or o (Some index)) (fresh refl))
either false index x y fresh = sym (option_or-none (option_or x y))

call-host : (a b : CallId) (s : Bool) → same_host (host_of_call b) (host_of_call a) ≡ s → same_call a b ≡ s && (a.number == b.number)
call-host a b s is = grind (arith, common_steps)

-- the derived `==` of calls is the test of the definitions
call_eq : (a b : CallId) → derived.ghosts.eq a b ≡ same_call a b
call_eq a b = search rules

same_call_sym : (a b : CallId) → same_call a b ≡ same_call b a
same_call_sym a b = grind (arith, common_steps)

-- a call that goes to those that were not the next of their row
pub taken-other : (old new : CallIndex) (id : CallId) (index : ℕ) → ((host : Host) → row_of new.rows host ≡ row_of old.rows host ++ []) → is_some (entry_of old id) ≡ false
    → ((q : CallId) → get derived.ghosts.eq new.others q ≡ cond (derived.ghosts.eq id q) (Some index) (get derived.ghosts.eq old.others q)) → TakesIn old id index new
taken-other old new id index same unknown puts q = found ∙ by (same_call q id) refl
  where
    row : List ℕ
    row = row_of old.rows (host_of_call q)

    other : Option ℕ
    other = get same_call old.others q

    exact : (λ (a b : CallId). derived.ghosts.eq a b) ≡ same_call
    exact = λ i a b. call_eq a b i

    put : get same_call new.others q ≡ cond (same_call q id) (Some index) other
    put =
        ap (λ (eq : CallId → CallId → Bool). get eq new.others q) (sym exact)
        ∙ (puts q
        ∙ (ap (λ (b : Bool). cond b (Some index) (get derived.ghosts.eq old.others q)) (call_eq id q ∙ same_call_sym id q)
        ∙ ap (λ (eq : CallId → CallId → Bool). cond (same_call q id) (Some index) (get eq old.others q)) exact))

    found : entry_of new q ≡ option_or (in_row row q.number) (cond (same_call q id) (Some index) other)
    found =
        ap (λ (r : List ℕ). option_or (in_row r q.number) (get same_call new.others q)) (same (host_of_call q) ∙ append-nil row)
        ∙ ap (λ (o : Option ℕ). option_or (in_row row q.number) o) put

    none_before : (x y : Option ℕ) → option_or x y ≡ None → option_or x (Some index) ≡ option_or (option_or x y) (Some index)
    none_before None y is = sym (ap (λ (o : Option ℕ). option_or o (Some index)) is)
    none_before (Some k) y is = refl

    by : (b : Bool) → same_call q id ≡ b → option_or (in_row row q.number) (cond b (Some index) other) ≡ option_or (entry_of old q) (if b then Some index else None)
    by true h =
        let P : CallId → Type 0 = λ c. is_some (entry_of old c) ≡ false in
        none_before (in_row row q.number) other (not_found (entry_of old q) (subst P (sym (call_exact q id h)) unknown))
    by false h = sym (option_or-none (entry_of old q))

pub taken-row : (old new : CallIndex) (id : CallId) (index : ℕ) → new.others ≡ old.others → is_some (entry_of old id) ≡ false → id.number ≡ length (row_of old.rows (host_of_call id)) + 1
    → ((host : Host) → row_of new.rows host ≡ row_of old.rows host ++ (if same_host (host_of_call id) host then index ∷ [] else [])) → TakesIn old id index new
taken-row old new id index same unknown next puts q = by (same_host (host_of_call id) (host_of_call q)) refl
  where
    row : List ℕ
    row = row_of old.rows (host_of_call q)

    other : Option ℕ
    other = get same_call old.others q

    found : (more : List ℕ) → row_of new.rows (host_of_call q) ≡ row ++ more → entry_of new q ≡ option_or (in_row (row ++ more) q.number) other
    found more is =
        ap (λ (r : List ℕ). option_or (in_row r q.number) (get same_call new.others q)) is
        ∙ ap (λ (m : HashMap CallId ℕ (BuildHasherDefault FoldHasher)). option_or (in_row (row ++ more) q.number) (get same_call m q)) same

    by : (s : Bool) → same_host (host_of_call id) (host_of_call q) ≡ s → entry_of new q ≡ option_or (entry_of old q) (if same_call q id then Some index else None)
    by false h =
        found [] (puts (host_of_call q) ∙ ap (λ (b : Bool). row ++ (if b then index ∷ [] else [])) h)
        ∙ (ap (λ (r : List ℕ). option_or (in_row r q.number) other) (append-nil row)
        ∙ (sym (option_or-none (entry_of old q))
        ∙ ap (λ (b : Bool). option_or (entry_of old q) (if b then Some index else None)) (sym (call-host q id false h))))
    by true h =
        let number : id.number ≡ length row + 1 = next ∙ ap (λ (p : Host). length (row_of old.rows p) + 1) (host_exact (host_of_call id) (host_of_call q) h) in
        let test : same_call q id ≡ (q.number == length row + 1) = call-host q id true h ∙ ap (λ (n : ℕ). q.number == n) number in
        let fresh : (q.number == length row + 1) ≡ true → entry_of old q ≡ None =
        λ is. (
        let P : CallId → Type 0 = λ c. is_some (entry_of old c) ≡ false in
        not_found (entry_of old q) (subst P (sym (call_exact q id (test ∙ is))) unknown)) in
        found (index ∷ []) (puts (host_of_call q) ∙ ap (λ (b : Bool). row ++ (if b then index ∷ [] else [])) h)
        ∙ (ap (λ (o : Option ℕ). option_or o other) (in_row-push row index q.number)
        ∙ (either (q.number == length row + 1) index (in_row row q.number) other fresh
        ∙ ap (λ (b : Bool). option_or (entry_of old q) (if b then Some index else None)) (sym test)))
