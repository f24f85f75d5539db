-- Sets of open calls that are made closed, step by step.
use Rattle.std.specs.Prelude.{◌≢◌, MatchOption}
use Rattle.std.proofs.Common.{◌≡◌, ℕ, zero, suc, ◌+◌, ◌<◌, ◌≤◌, ◌⊎◌, inl, inr, ⊎_elim, Option, List, [], ◌∷◌, ◌++◌, length, slice_get, get_or, true, Some, None, refl, sym, ap, subst, ◌∙◌, arith}
use Rattle.std.proofs.lemmas.Bool.{cases_eq}
use Rattle.std.proofs.lemmas.Option.{none-some, same_Some, slice_get-get_or, slice_get_within}
use Rattle.model.specs.declared.owner.Owner.{Owner}
use Rattle.model.specs.declared.lock_info.LockInfo.{LockInfo}
use Rattle.model.specs.rule.Locks.{Locks}
use Rattle.client_history.specs.declared.act.Act.{Act}
use Rattle.client_history.specs.declared.act.Act.TheVariants.{Locks as Takes, IsDenied, IsFree as FindsFree, Frees, Drops}
use Rattle.client_history.specs.declared.client_call.ClientCall.{ClientCall}
use Rattle.client_history.specs.declared.open_client_call.OpenClientCall.{OpenClientCall}
use Rattle.client_history.specs.rule.Explained.{ActStep, the_file}
use Rattle.client_history.specs.code.OpenCalls.{AreOf, AreOnce, IsGrown, FindsNoLock, IsHeldUp, IsNotDenied, IsNeeded, Changes, Calls, HasRival, LetsGo, MayComeBefore, IsUnbarred, IsServed, IsClosed, IsLeft, IsIn, IsLeftOf, AreOthersTaken, IsFirstTaken}
use Rattle.client_history.proofs.Exchange.{get_left}
use Rattle.client_history.proofs.Orders.{last_place, get_one}
use Rattle.client_history.proofs.Standing.{has_last}

-- P holds of the first n elements
abbrev pub Below : {X : Type 0} → (X → Type 0) → List X → ℕ → Type 0
Below P xs n = (k : ℕ) (x : _) → k < n → slice_get xs k ≡ Some x → P x

module _ {X : Type 0} (P : X → Type 0) (xs : List X) where
  -- P holds of one element more
  pub below_more : (n : ℕ) (x : X) → Below P xs n → slice_get xs n ≡ Some x → P x → Below P xs (n + 1)
  below_more n x before at is k y lt there = ⊎_elim
      (λ less. before k y less there)
      (λ e. subst P (get_one xs n k x y (sym e) at there) is)
      (last_place k n lt)

  -- P holds of all elements
  pub below_all : (n : ℕ) → Below P xs n → length xs ≤ n → (k : ℕ) (x : X) → slice_get xs k ≡ Some x → P x
  below_all n before past k x there = let within = slice_get_within xs k x there in before k x (omega arith) there

-- where P holds of the first n elements and gives Q, Q does
pub below_weaker : {X : Type 0} (P Q : X → Type 0) (xs : List X) (n : ℕ) → ((x : X) → P x → Q x) → Below P xs n → Below Q xs n
below_weaker P Q xs n all before k x lt there = all x (before k x lt there)

-- the open call is another change of the owner, and is left
pub record IsRival (taken : List ℕ) (i : ℕ) (owner : Owner) (one : OpenClientCall) : Type 0 where
  pub other : one.index ≢ i
  pub own : one.call.owner ≡ owner
  pub changes : Changes one.call.act
  pub left : IsLeft one taken

module _ (running : List OpenClientCall) (taken : List ℕ) (i : ℕ) (owner : Owner) where
  pub one_rival : (k : ℕ) (one : OpenClientCall) → slice_get running k ≡ Some one → IsRival taken i owner one → HasRival (IsLeftOf running taken) i owner
  one_rival k one at is = record { index = one.index; call = one.call; left = (k, one, at, refl, refl, is.left); other = is.other; own = is.own; changes = is.changes }

  pub no_rival : (n : ℕ) → length running ≤ n → Below (λ one. IsRival taken i owner one → ⊥) running n → HasRival (IsLeftOf running taken) i owner → ⊥
  no_rival n past none r =
      let l = r.left in
      below_all (λ one. IsRival taken i owner one → ⊥) running n none past l.0 l.1 l.2 (record {
        other = λ e. r.other (sym l.3 ∙ e);
        own = ap (λ (c : ClientCall). c.owner) l.4 ∙ r.own;
        changes = subst (λ (c : ClientCall). Changes c.act) (sym l.4) r.changes;
        left = l.5;
      })

module _ (running : List OpenClientCall) where
  pub grown_same : (set : List OpenClientCall) → IsGrown running set set
  grown_same set = record { kept = λ k one at. at; members = λ of. of; once = λ once. once }

  pub grown_more : (a b c : List OpenClientCall) → IsGrown running a b → IsGrown running b c → IsGrown running a c
  grown_more a b c f g = record { kept = λ k one at. g.kept k one (f.kept k one at); members = λ of. g.members (f.members of); once = λ once. g.once (f.once once) }

  pub in_grown : (a b : List OpenClientCall) (i : ℕ) → IsGrown running a b → IsIn a i → IsIn b i
  in_grown a b i g s = (s.0, s.1, g.kept s.0 s.1 s.2, s.3)

-- a place of a list with one more at the end is one of the list, or the last
pub push_cases : (xs : List OpenClientCall) (y x : OpenClientCall) (k : ℕ) → slice_get (xs ++ y ∷ []) k ≡ Some x → (slice_get xs k ≡ Some x) ⊎ ((k ≡ length xs) × (y ≡ x))
push_cases [] y x zero at = inr (refl, same_Some y x at)
push_cases [] y x (suc k) at = absurd (none-some x at)
push_cases (z ∷ xs) y x zero at = inl at
push_cases (z ∷ xs) y x (suc k) at = ⊎_elim inl (λ p. inr (ap suc p.0, p.1)) (push_cases xs y x k at)

module _ (running set : List OpenClientCall) (one : OpenClientCall) where
  -- a call of a new index was added at the end
  pub grown_push : (n : ℕ) → slice_get running n ≡ Some one → (IsIn set one.index → ⊥) → IsGrown running set (set ++ one ∷ [])
  grown_push n there new = record {
    kept = λ k two at. get_left set (one ∷ []) k two at;
    members = λ of k two at. ⊎_elim
        (λ was. of k two was)
        (λ last. (n, there ∙ ap Some last.1))
        (push_cases set one two k at);
    once = λ once j k a b p q same. ⊎_elim
        (λ a_was. ⊎_elim
        (λ b_was. once j k a b a_was b_was same)
        (λ b_last. absurd (new (j, a, a_was, same ∙ ap (λ (o : OpenClientCall). o.index) (sym b_last.1))))
        (push_cases set one b k q))
        (λ a_last. ⊎_elim
        (λ b_was. absurd (new (k, b, b_was, sym same ∙ ap (λ (o : OpenClientCall). o.index) (sym a_last.1))))
        (λ b_last. a_last.0 ∙ sym b_last.0)
        (push_cases set one b k q))
        (push_cases set one a j p);
  }

  pub in_push : IsIn (set ++ one ∷ []) one.index
  in_push = let last = has_last set one in (last.0, one, last.1, refl)

-- the list without what it has at a place
without : List OpenClientCall → ℕ → List OpenClientCall
without [] n = []
without (x ∷ xs) zero = xs
without (x ∷ xs) (suc n) = x ∷ without xs n

shorter : (xs : List OpenClientCall) (n : ℕ) (x : OpenClientCall) → slice_get xs n ≡ Some x → length xs ≡ suc (length (without xs n))
unfolding without
shorter [] n x at = absurd (none-some x at)
shorter (y ∷ xs) zero x at = refl
shorter (y ∷ xs) (suc n) x at = ap suc (shorter xs n x at)

still : (xs : List OpenClientCall) (n k : ℕ) (x : OpenClientCall) → (k ≡ n → ⊥) → slice_get xs k ≡ Some x → (m : ℕ) × (slice_get (without xs n) m ≡ Some x)
unfolding without
still [] n k x differ at = absurd (none-some x at)
still (y ∷ xs) zero zero x differ at = absurd (differ refl)
still (y ∷ xs) zero (suc k) x differ at = (k, at)
still (y ∷ xs) (suc n) zero x differ at = (0, at)
still (y ∷ xs) (suc n) (suc k) x differ at = let rest = still xs n k x (λ e. differ (ap suc e)) at in (suc rest.0, rest.1)

-- a set has no more calls than there are
pub few : (set running : List OpenClientCall) → AreOf running set → AreOnce set → length set ≤ length running
few [] running of once = omega arith
few (x ∷ rest) running of once =
    let at = of 0 x refl in
    let less = few rest (without running at.0)
    (λ k one there. let o = of (suc k) one there in still running at.0 o.0 one
    (λ e. let zero_suc : 0 ≡ suc k = once 0 (suc k) x one refl there (ap (λ (it : OpenClientCall). it.index) (sym (get_one running o.0 at.0 one x e o.1 at.1))) in absurd (omega arith))
    o.1)
    (λ j k a b p q same. let next : suc j ≡ suc k = once (suc j) (suc k) a b p q same in omega arith) in
    let long = shorter running at.0 x at.1 in
    omega arith

-- the empty set is of the open calls
pub none_of : (running : List OpenClientCall) → AreOf running []
none_of running k one at = absurd (none-some one at)

pub none_once : AreOnce []
none_once j k a b p q same = absurd (none-some a p)

-- an element of a grown set at a place of the old one was there before
pub old_at : (running old new : List OpenClientCall) (k : ℕ) (x : OpenClientCall) (place : ℕ) → IsGrown running old new → (it : OpenClientCall) → slice_get old place ≡ Some it → k < place → slice_get new k ≡ Some x → slice_get old k ≡ Some x
old_at running old new k x place grown it at lt there =
    let within = slice_get_within old place it at in
    let was : slice_get old k ≡ Some (get_or old k x) = slice_get-get_or old k x (omega arith) in
    was ∙ (sym (grown.kept k (get_or old k x) was) ∙ there)

-- an index is in a set, or it isn't
pub decide_in : (set : List OpenClientCall) (i : ℕ) → IsIn set i ⊎ (IsIn set i → ⊥)
decide_in [] i = inr (λ s. none-some s.1 s.2)
decide_in (x ∷ xs) i = ⊎_elim
    (λ e. inl (0, x, refl, e))
    (λ other. ⊎_elim
    (λ s. inl (suc s.0, s.1, s.2, s.3))
    (λ none. inr (λ s. apart other none s.0 s.1 s.2 s.3))
    (decide_in xs i))
    (cases_eq x.index i)
  where
    apart : (x.index ≡ i → ⊥) → (IsIn xs i → ⊥) → (k : ℕ) (one : OpenClientCall) → slice_get (x ∷ xs) k ≡ Some one → one.index ≡ i → ⊥
    apart other none zero one at e = other (ap (λ (o : OpenClientCall). o.index) (same_Some x one at) ∙ e)
    apart other none (suc k) one at e = none (k, one, at, e)

-- a call that a set serves is served by a greater set
pub served_more : (h : Locks) (Left : Calls) (a b : List OpenClientCall) (call : ClientCall) → ((i : ℕ) → IsIn a i → IsIn b i) → IsServed h Left (IsIn a) call → IsServed h Left (IsIn b) call
served_more h Left a b call more served = ⊎_elim
    (λ k. inl (record { lock = k.lock; mode = k.mode; span = k.span; needs = k.needs; ordered = k.ordered; region = k.region; other = k.other; in_way = k.in_way; closed = λ i other left lets. more i (k.closed i other left lets) }))
    (λ m. inr (record { unbarred = m.unbarred; closed = λ i other left may. more i (m.closed i other left may) }))
    served

unbarred : (h : Locks) (owner : Owner) (act : Act) → FindsNoLock h owner act → IsNotDenied h owner act → IsUnbarred h owner act
unbarred h owner (Takes mode span) free not_denied = free
unbarred h owner (IsDenied mode span told) free not_denied = not_denied
unbarred h owner (FindsFree mode span) free not_denied = free
unbarred h owner (Frees span) free not_denied = tt
unbarred h owner Drops free not_denied = tt

-- if each call that is needed is in the set, the call is served
pub served_by : (h : Locks) (running : List OpenClientCall) (taken : List ℕ) (set : List OpenClientCall) (call : ClientCall) (kept : Option LockInfo)
    → MatchOption kept (FindsNoLock h call.owner call.act) (IsHeldUp h call.owner call.act)
    → IsNotDenied h call.owner call.act
    → ((k : ℕ) (one : OpenClientCall) → slice_get running k ≡ Some one → IsLeft one taken → IsNeeded (IsLeftOf running taken) call kept one.index one.call → IsIn set one.index)
    → IsServed h (IsLeftOf running taken) (IsIn set) call
served_by h running taken set call None free not_denied all = inr (record {
  unbarred = unbarred h call.owner call.act free not_denied;
  closed = λ i other l may. subst (λ (n : ℕ). IsIn set n) l.3 (all l.0 l.1 l.2 l.5
      (subst (λ (n : ℕ). MayComeBefore (IsLeftOf running taken) call n l.1.call) (sym l.3)
      (subst (λ (c : ClientCall). MayComeBefore (IsLeftOf running taken) call i c) (sym l.4) may)));
})
served_by h running taken set call (Some lock) held not_denied all = inl (record {
  lock = lock;
  mode = held.mode;
  span = held.span;
  needs = held.needs;
  ordered = held.ordered;
  region = held.region;
  other = held.other;
  in_way = held.in_way;
  closed = λ i other l lets. subst (λ (n : ℕ). IsIn set n) l.3 (all l.0 l.1 l.2 l.5 (subst (λ (c : ClientCall). LetsGo lock c.owner c.act) (sym l.4) lets));
})

-- each call with that index that is left is served
abbrev pub IsServedAt : Locks → List OpenClientCall → List ℕ → List OpenClientCall → ℕ → Type 0
IsServedAt h running taken set i = (k : ℕ) (one : OpenClientCall) → slice_get running k ≡ Some one → one.index ≡ i → IsLeft one taken → IsServed h (IsLeftOf running taken) (IsIn set) one.call

pub served_at_more : (h : Locks) (running : List OpenClientCall) (taken : List ℕ) (a b : List OpenClientCall) (i : ℕ) → IsGrown running a b → IsServedAt h running taken a i → IsServedAt h running taken b i
served_at_more h running taken a b i grown served k one there same left = served_more h (IsLeftOf running taken) a b one.call (λ j. in_grown running a b j grown) (served k one there same left)

-- a set in which each call is served is closed
pub closed_all : (h : Locks) (running : List OpenClientCall) (taken : List ℕ) (set : List OpenClientCall) → ((k : ℕ) (one : OpenClientCall) → slice_get set k ≡ Some one → IsServedAt h running taken set one.index) → IsClosed h (IsLeftOf running taken) (IsIn set)
closed_all h running taken set all = record {
  decided = decide_in set;
  served = λ i call s l. subst (λ (c : ClientCall). IsServed h (IsLeftOf running taken) (IsIn set) c) l.4 (all s.0 s.1 s.2 l.0 l.1 l.2 (l.3 ∙ sym s.3) l.5);
}

-- if the call is left and a change that may come next, it is among the first
abbrev pub MayBeFirst : Locks → List OpenClientCall → List ℕ → List OpenClientCall → OpenClientCall → Type 0
MayBeFirst h running taken first one = IsLeft one taken → Changes one.call.act → (next : Locks) → ActStep the_file h one.call.owner one.call.act next → (one.call.is_last ≡ true → AreOthersTaken running taken one) → IsFirstTaken running taken one → (n : ℕ) × (slice_get first n ≡ Some one)
