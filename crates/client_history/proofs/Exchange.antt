-- An order in which a call moves before others.
use Rattle.std.proofs.Common.{◌≡◌, ℕ, zero, suc, ◌+◌, ◌<◌, ◌≤◌, ◌⊎◌, inl, inr, ⊎_elim, true, List, [], ◌∷◌, ◌++◌, length, slice_get, Some, refl, sym, ap, subst, ◌∙◌, arith}
use Rattle.std.proofs.lemmas.Bool.{cases_lt}
use Rattle.std.proofs.lemmas.Option.{none-some}
use Rattle.model.specs.rule.Locks.{Locks, no_locks}
use Rattle.client_history.specs.declared.client_call.ClientCall.{ClientCall}
use Rattle.client_history.specs.rule.Explained.{Leads, IsOnce, Stands, IsAt, EndsBefore, AreInTime, ExitsAreLast, AreBehindTheirFirst, IsExplainedBy}
use Rattle.client_history.specs.code.Moves.{Passes, NoneEnded, FollowsNone, AreOfOthers}
use Rattle.client_history.proofs.Fronts.{moves_first}
use Rattle.client_history.proofs.Orders.{get_one}
use Rattle.client_history.proofs.Steps.{leads_is_one, leads_split, leads_join}

module _ {X : Type 0} where
  -- an element of two lists together is one of the first or of the second
  pub get_split : (xs ys : List X) (k : ℕ) (x : X) → slice_get (xs ++ ys) k ≡ Some x → ((k < length xs) × (slice_get xs k ≡ Some x)) ⊎ ((l : ℕ) × (k ≡ length xs + l) × (slice_get ys l ≡ Some x))
  get_split [] ys k x at = inr (k, omega arith, at)
  get_split (y ∷ xs) ys zero x at = inl (omega arith, at)
  get_split (y ∷ xs) ys (suc k) x at = ⊎_elim (λ p. let lt = p.0 in inl (omega arith, p.1)) (λ p. let e = p.1 in inr (p.0, omega arith, p.2)) (get_split xs ys k x at)

  pub get_left : (xs ys : List X) (k : ℕ) (x : X) → slice_get xs k ≡ Some x → slice_get (xs ++ ys) k ≡ Some x
  get_left [] ys k x at = absurd (none-some x at)
  get_left (y ∷ xs) ys zero x at = at
  get_left (y ∷ xs) ys (suc k) x at = get_left xs ys k x at

  pub get_right : (xs ys : List X) (k l : ℕ) (x : X) → k ≡ length xs + l → slice_get ys l ≡ Some x → slice_get (xs ++ ys) k ≡ Some x
  get_right [] ys k l x e at = let same : k ≡ l = omega arith in ap (slice_get ys) same ∙ at
  get_right (y ∷ xs) ys zero l x e at = absurd (omega arith)
  get_right (y ∷ xs) ys (suc k) l x e at = get_right xs ys k l x (omega arith) at

module _ (front before behind : List ℕ) (i : ℕ) where
  abbrev rest : List ℕ
  rest = before ++ (i ∷ behind)

  abbrev moved : List ℕ
  moved = i ∷ (before ++ behind)

  -- an element at one place of the old order is at the other of the new
  abbrev Goes : ℕ → ℕ → Type 0
  Goes j k = ((j ≡ k) × ((k < length front) ⊎ (length front + length before < k))) ⊎ (((j ≡ length front + length before) × (k ≡ length front)) ⊎ ((k ≡ j + 1) × (length front ≤ j) × (j < length front + length before)))

  -- the old place of an element of the new order
  from : (k x : ℕ) → slice_get (front ++ moved) k ≡ Some x → (j : ℕ) × (slice_get (front ++ rest) j ≡ Some x) × Goes j k
  from k x at = ⊎_elim (λ p. (k, get_left front rest k x p.1, inl (refl, inl p.0))) (λ p. by p.0 p.1 p.2) (get_split front moved k x at)
    where
      by : (l : ℕ) → k ≡ length front + l → slice_get moved l ≡ Some x → (j : ℕ) × (slice_get (front ++ rest) j ≡ Some x) × Goes j k
      by zero e got = (length front + length before, get_right front rest (length front + length before) (length before) x refl (get_right before (i ∷ behind) (length before) 0 x (omega arith) got), inr (inl (refl, omega arith)))
      by (suc l) e got = ⊎_elim
          (λ p. let lt = p.0 in (length front + l, get_right front rest (length front + l) l x refl (get_left before (i ∷ behind) l x p.1), inr (inr (omega arith, omega arith, omega arith))))
          (λ p. let far = p.1 in (k, get_right front rest k (suc l) x e (get_right before (i ∷ behind) (suc l) (suc p.0) x (omega arith) p.2), inl (refl, inr (omega arith))))
          (get_split before behind l x got)

  -- the new order has each element of the old
  stays : (x : ℕ) → Stands (front ++ rest) x → Stands (front ++ moved) x
  stays x stands = ⊎_elim (λ p. (stands.0, get_left front moved stands.0 x p.1)) (λ p. ⊎_elim (λ q. (length front + suc p.0, get_right front moved (length front + suc p.0) (suc p.0) x refl (get_left before behind p.0 x q.1))) (λ q. by q.0 q.2) (get_split before (i ∷ behind) p.0 x p.2)) (get_split front rest stands.0 x stands.1)
    where
      by : (m : ℕ) → slice_get (i ∷ behind) m ≡ Some x → Stands (front ++ moved) x
      by zero got = (length front, get_right front moved (length front) 0 x (omega arith) got)
      by (suc m) got = (length front + suc (length before + m), get_right front moved (length front + suc (length before + m)) (suc (length before + m)) x refl (get_right before behind (length before + m) m x refl got))

  -- of two places of the new order, the first came first in the old, or is that of the call that passes the other
  later : (j k m n : ℕ) → Goes j k → Goes n m → k < m → (j < n) ⊎ ((k ≡ length front) × (length front ≤ n) × (n < length front + length before))
  later j k m n p q lt = ⊎_elim (λ low. inl low) (λ past. inr (omega arith, omega arith, omega arith)) (cases_lt j n)

  -- of two places of the old order, the first comes first in the new, or is passed by the call
  sooner : (j k m n : ℕ) → Goes j k → Goes n m → n < j → (m < k) ⊎ ((k ≡ length front) × (length front ≤ n) × (n < length front + length before))
  sooner j k m n p q lt = ⊎_elim (λ low. inl low) (λ past. inr (omega arith, omega arith, omega arith)) (cases_lt m k)

  one : (j k n : ℕ) → Goes n j → Goes n k → j ≡ k
  one j k n p q = omega arith

  -- the elements that the call passes
  passed : (n y : ℕ) → slice_get (front ++ rest) n ≡ Some y → length front ≤ n → n < length front + length before → Stands before y
  passed n y at lo hi = ⊎_elim (λ p. let lt = p.0 in absurd (omega arith)) (λ p. let e = p.1 in ⊎_elim (λ q. (p.0, q.1)) (λ q. let far = q.1 in absurd (omega arith)) (get_split before (i ∷ behind) p.0 y p.2)) (get_split front rest n y at)

module _ (calls : List ClientCall) (front before behind : List ℕ) (time i : ℕ) (h : Locks) (call : ClientCall) (there : slice_get calls i ≡ Some call) (whole : IsExplainedBy time calls (front ++ (before ++ (i ∷ behind)))) (leads : Leads calls no_locks front h) where
  abbrev old : List ℕ
  old = front ++ (before ++ (i ∷ behind))

  abbrev new : List ℕ
  new = front ++ (i ∷ (before ++ behind))

  at_of : (k : ℕ) (a : ClientCall) → IsAt calls new k a → (j : ℕ) × IsAt calls old j a × Goes front before behind i j k
  at_of k a at = let was = from front before behind i k at.index at.at in (was.0, record { index = at.index; at = was.1; there = at.there }, was.2)

  is_call : (k : ℕ) (a : ClientCall) → k ≡ length front → IsAt calls new k a → a ≡ call
  is_call k a e at =
      let here : slice_get new k ≡ Some i = get_right front (i ∷ (before ++ behind)) k 0 i (omega arith) refl in
      get_one calls at.index i a call (get_one new k k at.index i refl at.at here) at.there there

  -- two calls stand as they stood, or one is the call that moves and the other one that it passes
  pair : (k m : ℕ) (a b : ClientCall) → k < m → IsAt calls new k a → IsAt calls new m b → ((j : ℕ) × (n : ℕ) × (j < n) × IsAt calls old j a × IsAt calls old n b) ⊎ ((a ≡ call) × (l : ℕ) × IsAt calls before l b)
  pair k m a b lt p q =
      let was = at_of k a p in
      let next = at_of m b q in
      ⊎_elim
      (λ low. inl (was.0, next.0, low, was.1, next.1))
      (λ over. let stands = passed front before behind i next.0 next.1.index next.1.at over.1 over.2 in inr (is_call k a over.0 p, stands.0, record { index = next.1.index; at = stands.1; there = next.1.there }))
      (later front before behind i was.0 k m next.0 was.2 next.2 lt)

  new_once : IsOnce new
  new_once j k x p q =
      let was = from front before behind i j x p in
      let next = from front before behind i k x q in
      let same : next.0 ≡ was.0 = whole.once next.0 was.0 x next.1 was.1 in
      one front before behind i j k was.0 was.2 (subst (λ (n : ℕ). Goes front before behind i n k) same next.2)

  -- the locks behind the front lead on
  pub leads_on : Leads calls h (before ++ (i ∷ behind)) whole.legal.0
  leads_on =
      let parts = leads_split calls no_locks whole.legal.0 front (before ++ (i ∷ behind)) whole.legal.1 in
      subst (λ (m : Locks). Leads calls m (before ++ (i ∷ behind)) whole.legal.0) (leads_is_one calls no_locks parts.0 h front parts.1 leads) parts.2

  -- a call that follows none of those that it passes follows one in the front
  pub first_in_front : FollowsNone before call → (first : ℕ) → call.follows ≡ Some first → Stands front first
  first_in_front none first follows =
      let place = length front + length before in
      let at : IsAt calls old place call = record { index = i; at = get_right front (before ++ (i ∷ behind)) place (length before) i refl (get_right before (i ∷ behind) (length before) 0 i (omega arith) refl); there = there } in
      let stood = whole.behind place first call at follows in
      let lt = stood.1 in
      ⊎_elim
      (λ low. (stood.0, at_front stood.0 low stood.2))
      (λ past. absurd (none first follows (passed front before behind i stood.0 first stood.2 past lt)))
      (cases_lt stood.0 (length front))
    where
      at_front : (n : ℕ) → n < length front → slice_get old n ≡ Some first → slice_get front n ≡ Some first
      at_front n low at = ⊎_elim (λ p. p.1) (λ p. let e = p.1 in absurd (omega arith)) (get_split front (before ++ (i ∷ behind)) n first at)

  module _ (none : NoneEnded calls before call.begin) (follows_none : FollowsNone before call) (others : call.is_last ≡ true → AreOfOthers calls before call.owner) where
    new_in_time : AreInTime calls new
    new_in_time k m a b lt p q ends = ⊎_elim (λ o. whole.in_time o.0 o.1 a b o.2 o.3 o.4 ends) (λ o. none o.1 b o.2 (subst (λ (c : ClientCall). EndsBefore b c.begin) o.0 ends)) (pair k m a b lt p q)

    new_last : ExitsAreLast calls new
    new_last k m a b lt p q last same = ⊎_elim
        (λ o. whole.last o.0 o.1 a b o.2 o.3 o.4 last same)
        (λ o. others (ap (λ (c : ClientCall). c.is_last) (sym o.0) ∙ last) o.1 b o.2 (sym (ap (λ (c : ClientCall). c.owner) o.0) ∙ sym same))
        (pair k m a b lt p q)

    new_behind : AreBehindTheirFirst calls new
    new_behind k first a at follows =
        let was = at_of k a at in
        let stood = whole.behind was.0 first a was.1 follows in
        let stands = stays front before behind i first (stood.0, stood.2) in
        let place = from front before behind i stands.0 first stands.1 in
        let goes = subst (λ (n : ℕ). Goes front before behind i n stands.0) (whole.once place.0 stood.0 first place.1 stood.2) place.2 in
        ⊎_elim
        (λ low. (stands.0, low, stands.1))
        (λ over. absurd (follows_none first (ap (λ (c : ClientCall). c.follows) (sym (is_call k a over.0 at)) ∙ follows) (passed front before behind i stood.0 first stood.2 over.1 over.2)))
        (sooner front before behind i was.0 k stands.0 stood.0 was.2 goes stood.1)

    -- an order that leads on with the call in front explains the calls
    pub legal_explained : Leads calls h (i ∷ (before ++ behind)) whole.legal.0 → IsExplainedBy time calls new
    legal_explained legal = record {
      legal = (whole.legal.0, leads_join calls no_locks h whole.legal.0 front (i ∷ (before ++ behind)) leads legal);
      once = new_once;
      begun = λ k a at. let was = at_of k a at in whole.begun was.0 a was.1;
      answered = λ x a at ended. stays front before behind i x (whole.answered x a at ended);
      in_time = new_in_time;
      last = new_last;
      whole = λ k x a b at last found same some. let was = at_of k a at in stays front before behind i x (whole.whole was.0 x a b was.1 last found same some);
      behind = new_behind;
    }

    -- a call that passes others may come before them: the order still explains the calls
    pub moved_explained : Passes calls h call before → IsExplainedBy time calls new
    moved_explained passes = legal_explained (moves_first calls h whole.legal.0 call i before behind there passes leads_on)
