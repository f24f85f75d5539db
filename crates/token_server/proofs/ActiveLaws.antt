-- Active requests, and the nodes whose rows they wait for.
use Rattle.std.specs.Prelude.{◌≡◌, ℕ, zero, suc, ◌+◌, ◌<◌, ◌≤◌, Bool, true, false, cond, not, ◌||◌, List, [], ◌∷◌, ◌++◌, length, All, filter, slice_get, slice_set, slice_index_or, find, Option, Some}
use Rattle.std.specs.List.{list_any, count_by, remove}
use Rattle.std.specs.Option.{option_map}
use Rattle.std.proofs.Common.{refl, sym, ap, subst, ◌∙◌, take, arith}
use Rattle.std.proofs.lemmas.List.{take_more}
use Rattle.std.proofs.lemmas.List.Sums.{sum_by-append}
use Rattle.std.proofs.lemmas.List.Elements.{All-head, All-tail, All-push}
use Rattle.std.proofs.lemmas.Option.{none-some, same_Some, slice_get_within, get_or_from_slice_get}
use Rattle.model.specs.declared.call.CallId.{CallId}
use Rattle.token_server.specs.declared.token_queue.active_request.ActiveRequest.{ActiveRequest}
use Rattle.token_server.specs.declared.token_queue.token_request.TokenRequest.{TokenRequest}
use Rattle.token_server.specs.rule.Requests.{is_of_call}
use Rattle.token_server.specs.rule.Actives.{requests_of, waiting_for}

-- the request of the call that a search of the entries finds is the one that a search of the requests finds
pub find-held : (call : CallId) (held : List ActiveRequest) → option_map (λ h. h.request) (find (λ h. is_of_call call h.request) held) ≡ find (is_of_call call) (requests_of held)
find-held call [] = refl
find-held call (h ∷ held) = by (is_of_call call h.request) (find-held call held)
  where
    Request : ActiveRequest → TokenRequest
    Request x = x.request

    by : (b : Bool) → option_map Request (find (λ x. is_of_call call x.request) held) ≡ find (is_of_call call) (requests_of held) → option_map Request (cond b (Some h) (find (λ x. is_of_call call x.request) held)) ≡ cond b (Some h.request) (find (is_of_call call) (requests_of held))
    by true rest = refl
    by false rest = rest

pub found-held : (call : CallId) (o : Option ActiveRequest) (these held : List ActiveRequest) → o ≡ find (λ h. is_of_call call h.request) these → these ≡ held → option_map (λ h. h.request) o ≡ find (is_of_call call) (requests_of held)
found-held call o these held is same =
    ap (option_map (λ (h : ActiveRequest). h.request)) (is ∙ ap (find (λ (h : ActiveRequest). is_of_call call h.request)) same) ∙ find-held call held

-- after i + 1 nodes, entry i waits for the row of node i as well
pub waiting_for-more : (ats : List ℕ) (held : List ActiveRequest) (i d : ℕ) (h : ActiveRequest) → i < length ats → i < length held → slice_get held i ≡ Some h → waiting_for (take (i + 1) ats) held ≡ slice_set (waiting_for (take i ats) held) i (record { request = h.request; at = slice_index_or ats i d })
waiting_for-more [] held i d h few within there = absurd (omega arith)
waiting_for-more (a ∷ ats) [] i d h few within there = absurd (omega arith)
waiting_for-more (a ∷ ats) (x ∷ held) zero d h few within there =
    let same : x ≡ h = cc in
    λ k. record { request = (same k).request; at = a } ∷ held
waiting_for-more (a ∷ ats) (x ∷ held) (suc i) d h few within there =
    let next : suc i + 1 ≡ suc (i + 1) = omega arith in
    ap (λ (k : ℕ). waiting_for (take k (a ∷ ats)) (x ∷ held)) next
    ∙ ap (λ (hs : List ActiveRequest). record { request = x.request; at = a } ∷ hs) (waiting_for-more ats held i d h (omega arith) (omega arith) there)

pub waiting_for-at : (ats : List ℕ) (held : List ActiveRequest) (i : ℕ) → length ats ≤ i → slice_get (waiting_for ats held) i ≡ slice_get held i
waiting_for-at [] held i past = refl
waiting_for-at (a ∷ ats) [] i past = refl
waiting_for-at (a ∷ ats) (x ∷ held) zero past = absurd (omega arith)
waiting_for-at (a ∷ ats) (x ∷ held) (suc i) past = waiting_for-at ats held i (omega arith)

pub waiting_for-past : (ats : List ℕ) (held : List ActiveRequest) (i : ℕ) → length held ≤ i → waiting_for (take i ats) held ≡ waiting_for ats held
waiting_for-past [] held zero past = refl
waiting_for-past [] held (suc i) past = refl
waiting_for-past (a ∷ ats) [] zero past = refl
waiting_for-past (a ∷ ats) [] (suc i) past = refl
waiting_for-past (a ∷ ats) (x ∷ held) zero past = absurd (omega arith)
waiting_for-past (a ∷ ats) (x ∷ held) (suc i) past = ap (λ (hs : List ActiveRequest). record { request = x.request; at = a } ∷ hs) (waiting_for-past ats held i (omega arith))

pub waiting_for-length : (ats : List ℕ) (held : List ActiveRequest) → length (waiting_for ats held) ≡ length held
waiting_for-length [] held = refl
waiting_for-length (a ∷ ats) [] = refl
waiting_for-length (a ∷ ats) (x ∷ held) = ap suc (waiting_for-length ats held)

-- two lists that agree up to i and at i agree up to i + 1
pub same-more : (xs ys : List TokenRequest) (i : ℕ) (x : TokenRequest) → slice_get xs i ≡ Some x → slice_get ys i ≡ Some x → take i xs ≡ take i ys → take (i + 1) xs ≡ take (i + 1) ys
same-more xs ys i x here there same =
    take_at xs i x here ∙ ap (λ (zs : List TokenRequest). zs ++ x ∷ []) same ∙ sym (take_at ys i x there)
  where
    take_at : (zs : List TokenRequest) (k : ℕ) (z : TokenRequest) → slice_get zs k ≡ Some z → take (k + 1) zs ≡ take k zs ++ z ∷ []
    take_at zs k z is = take_more zs k z (slice_get_within zs k z is) ∙ ap (λ (y : TokenRequest). take k zs ++ y ∷ []) (get_or_from_slice_get zs k z z is)

pub request-at : (held : List ActiveRequest) (i : ℕ) (h : ActiveRequest) → slice_get held i ≡ Some h → slice_get (requests_of held) i ≡ Some h.request
request-at [] i h is = absurd (cc)
request-at (x ∷ held) zero h is = ap (option_map (λ (y : ActiveRequest). y.request)) is
request-at (x ∷ held) (suc i) h is = request-at held i h is

pub request-same : (one other : List ActiveRequest) (i : ℕ) (x y : ActiveRequest) → slice_get one i ≡ Some x → slice_get other i ≡ Some y → requests_of one ≡ requests_of other → x.request ≡ y.request
request-same one other i x y here there same =
    let both : Some x.request ≡ Some y.request = sym (request-at one i x here) ∙ ap (λ (rs : List TokenRequest). slice_get rs i) same ∙ request-at other i y there in
    cc

-- a search of the entries finds the call exactly if a search of the requests does
pub any-held : (call : CallId) (held : List ActiveRequest) → list_any (λ h. is_of_call call h.request) held ≡ list_any (is_of_call call) (requests_of held)
any-held call [] = refl
any-held call (h ∷ held) = ap (λ (b : Bool). is_of_call call h.request || b) (any-held call held)

pub filter-all : (keep : ActiveRequest → Bool) (held : List ActiveRequest) → All (λ h. keep h ≡ true) held → filter keep held ≡ held
filter-all keep [] all = refl
filter-all keep (h ∷ held) all =
    ap (λ (b : Bool). cond b (h ∷ filter keep held) (filter keep held)) (All-head (λ x. keep x ≡ true) h held all)
    ∙ ap (λ (hs : List ActiveRequest). h ∷ hs) (filter-all keep held (All-tail (λ x. keep x ≡ true) h held all))

-- all entries before i are kept and so is entry i, then all before i + 1 are
pub kept-next : (keep : ActiveRequest → Bool) (held : List ActiveRequest) (i : ℕ) (h : ActiveRequest) → slice_get held i ≡ Some h → keep h ≡ true → All (λ x. keep x ≡ true) (take i held) → All (λ x. keep x ≡ true) (take (i + 1) held)
kept-next keep held i h there on all =
    let next : take (i + 1) held ≡ take i held ++ h ∷ [] = take_more held i h (slice_get_within held i h there) ∙ ap (λ (x : ActiveRequest). take i held ++ x ∷ []) (get_or_from_slice_get held i h h there) in
    subst (All (λ x. keep x ≡ true)) (sym next) (All-push (λ x. keep x ≡ true) (take i held) h all on)

-- the number of the requests of the call
abbrev how_many : CallId → List ActiveRequest → ℕ
how_many call held = count_by (is_of_call call) (requests_of held)

count-is : (call : CallId) (x : ActiveRequest) (held : List ActiveRequest) (b : Bool) → is_of_call call x.request ≡ b → how_many call (x ∷ held) ≡ cond b 1 0 + how_many call held
count-is call x held b is =
    sum_by-append (λ (r : TokenRequest). cond (is_of_call call r) 1 0) (x.request ∷ []) (requests_of held)
    ∙ ap (λ (k : ℕ). k + how_many call held) (let one : count_by (is_of_call call) (x.request ∷ []) ≡ cond (is_of_call call x.request) 1 0 = omega arith in one)
    ∙ ap (λ (t : Bool). cond t 1 0 + how_many call held) is

without-first : (call : CallId) (x : ActiveRequest) (held : List ActiveRequest) (b : Bool) → is_of_call call x.request ≡ b → filter (λ h. not (is_of_call call h.request)) (x ∷ held) ≡ cond (not b) (x ∷ filter (λ h. not (is_of_call call h.request)) held) (filter (λ h. not (is_of_call call h.request)) held)
without-first call x held b is = ap (λ (t : Bool). cond (not t) (x ∷ filter (λ (h : ActiveRequest). not (is_of_call call h.request)) held) (filter (λ (h : ActiveRequest). not (is_of_call call h.request)) held)) is

-- where none of the requests is of the call, all are kept
none-of : (call : CallId) (held : List ActiveRequest) → how_many call held ≡ 0 → filter (λ h. not (is_of_call call h.request)) held ≡ held
none-of call [] none = refl
none-of call (x ∷ held) none = by (is_of_call call x.request) refl (λ few. none-of call held few)
  where
    by : (b : Bool) → is_of_call call x.request ≡ b → (how_many call held ≡ 0 → filter (λ h. not (is_of_call call h.request)) held ≡ held) → filter (λ h. not (is_of_call call h.request)) (x ∷ held) ≡ x ∷ held
    by true is rest = let counted : how_many call (x ∷ held) ≡ 1 + how_many call held = count-is call x held true is in absurd (omega (arith, none, counted))
    by false is rest =
        let counted : how_many call (x ∷ held) ≡ 0 + how_many call held = count-is call x held false is in
        without-first call x held false is ∙ ap (λ (hs : List ActiveRequest). x ∷ hs) (rest (omega (arith, none, counted)))

-- a request of the call that is in the list is counted
some-of : (call : CallId) (held : List ActiveRequest) (i : ℕ) (h : ActiveRequest) → slice_get held i ≡ Some h → is_of_call call h.request ≡ true → 1 ≤ how_many call held
some-of call [] i h there is = absurd (none-some h there)
some-of call (x ∷ held) zero h there is =
    let counted : how_many call (x ∷ held) ≡ 1 + how_many call held = count-is call x held true (ap (λ (y : ActiveRequest). is_of_call call y.request) (same_Some x h there) ∙ is) in
    omega (arith, counted)
some-of call (x ∷ held) (suc i) h there is =
    let behind = some-of call held i h there is in
    let counted : how_many call (x ∷ held) ≡ cond (is_of_call call x.request) 1 0 + how_many call held = count-is call x held (is_of_call call x.request) refl in
    omega (arith, behind, counted)

-- where one request at most is of the call, removing it leaves the requests of other calls
pub filter-one : (call : CallId) (held : List ActiveRequest) (i : ℕ) (h : ActiveRequest) → slice_get held i ≡ Some h → is_of_call call h.request ≡ true → count_by (is_of_call call) (requests_of held) ≤ 1 → remove held i ≡ filter (λ x. not (is_of_call call x.request)) held
filter-one call [] i h there is few = absurd (none-some h there)
filter-one call (x ∷ held) zero h there is few =
    let here : is_of_call call x.request ≡ true = ap (λ (y : ActiveRequest). is_of_call call y.request) (same_Some x h there) ∙ is in
    let counted : how_many call (x ∷ held) ≡ 1 + how_many call held = count-is call x held true here in
    let most : how_many call (x ∷ held) ≤ 1 = few in
    sym (without-first call x held true here ∙ none-of call held (omega (arith, most, counted)))
filter-one call (x ∷ held) (suc i) h there is few = by (is_of_call call x.request) refl (some-of call held i h there is) (λ most. filter-one call held i h there is most)
  where
    by : (b : Bool) → is_of_call call x.request ≡ b → 1 ≤ how_many call held → (how_many call held ≤ 1 → remove held i ≡ filter (λ y. not (is_of_call call y.request)) held) → x ∷ remove held i ≡ filter (λ y. not (is_of_call call y.request)) (x ∷ held)
    by true here behind rest =
        let counted : how_many call (x ∷ held) ≡ 1 + how_many call held = count-is call x held true here in
        let most : how_many call (x ∷ held) ≤ 1 = few in
        absurd (omega (arith, most, counted, behind))
    by false here behind rest =
        let counted : how_many call (x ∷ held) ≡ 0 + how_many call held = count-is call x held false here in
        let most : how_many call (x ∷ held) ≤ 1 = few in
        ap (λ (hs : List ActiveRequest). x ∷ hs) (rest (omega (arith, most, counted))) ∙ sym (without-first call x held false here)
