-- Lists of the events that a round owes.
use Rattle.std.specs.Prelude.{◌≡◌, ◌⊎◌, ℕ, ◌+◌, ◌-◌, ◌<◌, ◌≤◌, ◌&&◌, Bool, true, false, List, [], ◌∷◌, ◌++◌, All, Contains, get_or, length, take, refl}
use Rattle.std.proofs.Common.{sym, ap, ◌∙◌, subst, inl, inr, arith, append_assoc}
use Rattle.std.proofs.lemmas.Bool.{cases_lt, false≢true}
use Rattle.std.proofs.lemmas.Bool.Decides.{nat_tests}
use Rattle.std.proofs.lemmas.List.{append-nil, take_more}
use Rattle.std.proofs.lemmas.List.Elements.{All-nil, All-cons, All-append, All-weaker, Contains-append_left, Contains-append_right, Contains-push, Contains-push_cases}
use Rattle.messages.specs.declared.event.Event.{Event}
use Rattle.messages.specs.declared.event.Event.TheVariants.{AtNode, AtServer, Deliver, Member}
use Rattle.messages.specs.declared.event.NodeInput.TheVariants.{Call, Interrupt, Retry}
use Rattle.messages.specs.declared.event.ServerInput.TheVariants.{Resend, Learn}
use Rattle.messages.specs.declared.event.MemberEvent.TheVariants.{Declare, Restart, FailServer, StartServer}
use Rattle.messages.specs.rule.Messages.{is_within}
use Rattle.node_core.specs.declared.open_call.OpenCall.{OpenCall}
use Rattle.node_core.specs.rule.State.{NodeState}
use Rattle.cluster_core.specs.rule.Actors.{HasNode}
use Rattle.cluster_core.specs.rule.World.{WorldState, has_file, has_node, is_alive}
use Rattle.cluster_core.specs.rule.Rounds.{IsQuiet}
use Rattle.player.specs.rule.Rounds.{IsDue, works}
use Rattle.player.specs.code.Rounds.{Adds, AreDue, IsLearn, IsLearnAt, IsLearnOf, IsResend, IsResendAt, IsRetry, IsRetryAt, IsRetryOf, OfUpTo}

pub adds_none : (Is : Event → Type 0) (old : List Event) → ((event : Event) → Is event → ⊥) → Adds Is old old
adds_none Is old none = record { more = []; grew = sym (append-nil old); each = All-nil Is; all = λ event is. absurd (none event is) }

pub adds_one : (Is : Event → Type 0) (old : List Event) (event : Event) → Is event → ((other : Event) → Is other → event ≡ other) → Adds Is old (old ++ event ∷ [])
adds_one Is old event is one = record {
  more = event ∷ [];
  grew = refl;
  each = All-cons Is event [] is (All-nil Is);
  all = λ other its. subst (λ (x : Event). Contains (event ∷ []) x) (one other its) (Contains-push [] event);
}

pub adds_join : (P Q R : Event → Type 0) (old mid new : List Event) → ((event : Event) → P event → R event) → ((event : Event) → Q event → R event) → ((event : Event) → R event → P event ⊎ Q event) → Adds P old mid → Adds Q mid new → Adds R old new
adds_join P Q R old mid new left right cases p q = record {
  more = p.more ++ q.more;
  grew = q.grew ∙ (ap (λ (l : List Event). l ++ q.more) p.grew ∙ append_assoc old p.more q.more);
  each = All-append R p.more q.more (All-weaker P R left p.more p.each) (All-weaker Q R right q.more q.each);
  all = λ event is. elim (cases event is) [
    | inl first ↦ Contains-append_left p.more q.more event (p.all event first)
    | inr second ↦ Contains-append_right p.more q.more event (q.all event second)
  ];
}

pub adds_same : (P Q : Event → Type 0) (old new : List Event) → ((event : Event) → P event → Q event) → ((event : Event) → Q event → P event) → Adds P old new → Adds Q old new
adds_same P Q old new to from p = record { more = p.more; grew = p.grew; each = All-weaker P Q to p.more p.each; all = λ event is. p.all event (from event is) }

-- events of one kind for each number
module _ (Is : ℕ → Event → Type 0) where
  pub up_none : (old : List Event) → Adds (OfUpTo Is 0) old old
  up_none old = adds_none (OfUpTo Is 0) old (λ event is. absurd (omega (arith, is.1, is.2)))

  pub up_next : (i : ℕ) (old mid new : List Event) → Adds (OfUpTo Is i) old mid → Adds (Is (i + 1)) mid new → Adds (OfUpTo Is (i + 1)) old new
  up_next i old mid new =
      adds_join (OfUpTo Is i) (Is (i + 1)) (OfUpTo Is (i + 1)) old mid new
      (λ event is. (is.0, is.1, omega (arith, is.2), is.3))
      (λ event is. (i + 1, omega arith, omega arith, is))
      (λ event is. elim (cases_lt is.0 (i + 1)) [
        | inl lt ↦ inl (is.0, is.1, omega (arith, lt), is.3)
        | inr ge ↦ let at : is.0 ≡ i + 1 = omega (arith, ge, is.2) in inr (subst (λ (n : ℕ). Is n event) at is.3)
      ])

  pub up_all : (last : ℕ) (old new : List Event) → ((n : ℕ) (event : Event) → Is n event → (1 ≤ n) × (n ≤ last)) → Adds (OfUpTo Is last) old new → Adds (λ event. (n : ℕ) × Is n event) old new
  up_all last old new within =
      adds_same (OfUpTo Is last) (λ event. (n : ℕ) × Is n event) old new
      (λ event is. (is.0, is.3))
      (λ event is. let bounds = within is.0 event is.1 in (is.0, bounds.0, bounds.1, is.1))

pub due_quiet : (w : WorldState) (event : Event) → IsDue w event → IsQuiet event
due_quiet w (AtNode n (Call pid op)) due = absurd due
due_quiet w (Deliver m) due = tt
due_quiet w (AtNode n (Interrupt pid)) due = absurd due
due_quiet w (AtNode n (Retry pid)) due = tt
due_quiet w (AtServer file Resend) due = tt
due_quiet w (Member (Declare n)) due = absurd due
due_quiet w (Member (Restart n)) due = absurd due
due_quiet w (AtServer file (Learn n incarnation)) due = tt
due_quiet w (Member (FailServer file)) due = absurd due
due_quiet w (Member (StartServer file)) due = absurd due

-- what is learned, tried again and sent again is all that is due
module _ (w : WorldState) where
  learn_due : (event : Event) → IsLearn w event → IsDue w event
  learn_due event is = is.1.1.2

  retry_due : (event : Event) → IsRetry w event → IsDue w event
  retry_due event is = is.1.2

  resend_due : (event : Event) → IsResend w event → IsDue w event
  resend_due event is = is.1.1

  kind_of : (event : Event) → IsDue w event → IsLearn w event ⊎ (IsRetry w event ⊎ IsResend w event)
  kind_of (AtNode n (Call pid op)) due = absurd due
  kind_of (Deliver m) due = absurd due
  kind_of (AtNode n (Interrupt pid)) due = absurd due
  kind_of (AtNode n (Retry pid)) due = inr (inl (n, (pid, refl, due)))
  kind_of (AtServer file Resend) due = inr (inr (file, (refl, due)))
  kind_of (Member (Declare n)) due = absurd due
  kind_of (Member (Restart n)) due = absurd due
  kind_of (AtServer file (Learn n incarnation)) due = inl (file, (n, (incarnation, refl, due)))
  kind_of (Member (FailServer file)) due = absurd due
  kind_of (Member (StartServer file)) due = absurd due

  pub all_due : (a b c : List Event) → Adds (IsLearn w) [] a → Adds (IsRetry w) a b → Adds (IsResend w) b c → AreDue w c
  all_due a b c learns retries resends =
      let rest : Adds (λ event. IsRetry w event ⊎ IsResend w event) a c = adds_join (IsRetry w) (IsResend w) (λ event. IsRetry w event ⊎ IsResend w event) a b c (λ event is. inl is) (λ event is. inr is) (λ event is. is) retries resends in
      let all : Adds (IsDue w) [] c =
      adds_join (IsLearn w) (λ event. IsRetry w event ⊎ IsResend w event) (IsDue w) [] a c learn_due
      (λ event is. elim is [ inl retry ↦ retry_due event retry | inr resend ↦ resend_due event resend ]) kind_of learns rest in
      record {
        each = subst (All (IsDue w)) (sym all.grew) all.each;
        all = λ event is. subst (λ (l : List Event). Contains l event) (sym all.grew) (all.all event is);
      }

within_of : (most n : ℕ) → is_within most n ≡ true → (1 ≤ n) × (n ≤ most)
within_of most n is = (grind (arith, nat_tests, is), grind (arith, nat_tests, is))

first_of : (a b : Bool) → (a && b) ≡ true → a ≡ true
first_of true b is = refl
first_of false b is = absurd (false≢true is)

both_of : (a b : Bool) → a ≡ true → b ≡ true → (a && b) ≡ true
both_of true b is its = its
both_of false b is its = absurd (false≢true is)

-- what is due is of a file and of a node of the shape
module _ (w : WorldState) where
  learn_file : (file : ℕ) (event : Event) → IsLearnOf w file event → (1 ≤ file) × (file ≤ w.shape.files)
  learn_file file event is =
      let due : IsDue w (AtServer file (Learn is.0 is.1.0)) = subst (IsDue w) is.1.1 is.1.2 in
      within_of w.shape.files file (first_of (has_file w file) (w.working file) due.0)

  learn_node : (file n : ℕ) (event : Event) → IsLearnAt w file n event → (1 ≤ n) × (n ≤ w.shape.nodes)
  learn_node file n event is =
      let due : IsDue w (AtServer file (Learn n is.0)) = subst (IsDue w) is.1 is.2 in
      within_of w.shape.nodes n due.1

  retry_node : (n : ℕ) (event : Event) → IsRetryAt w n event → (1 ≤ n) × (n ≤ w.shape.nodes)
  retry_node n event is =
      let due : IsDue w (AtNode n (Retry is.0)) = subst (IsDue w) is.1 is.2 in
      within_of w.shape.nodes n (first_of (has_node w n) (w.alive n) due.0)

  resend_file : (file : ℕ) (event : Event) → IsResendAt w file event → (1 ≤ file) × (file ≤ w.shape.files)
  resend_file file event is =
      let due : IsDue w (AtServer file Resend) = subst (IsDue w) is.0 is.1 in
      within_of w.shape.files file (first_of (has_file w file) (w.working file) due)

  up_to : (most last n : ℕ) → most ≤ last → (1 ≤ n) × (n ≤ most) → (1 ≤ n) × (n ≤ last)
  up_to most last n le is = (is.0, omega (arith, le, is.1))

  pub all_learns : (last : ℕ) (old new : List Event) → w.shape.files ≤ last → Adds (OfUpTo (IsLearnOf w) last) old new → Adds (IsLearn w) old new
  all_learns last old new le = up_all (IsLearnOf w) last old new (λ n event is. up_to w.shape.files last n le (learn_file n event is))

  pub all_learns_of : (file last : ℕ) (old new : List Event) → w.shape.nodes ≤ last → Adds (OfUpTo (IsLearnAt w file) last) old new → Adds (IsLearnOf w file) old new
  all_learns_of file last old new le = up_all (IsLearnAt w file) last old new (λ n event is. up_to w.shape.nodes last n le (learn_node file n event is))

  pub all_retries : (last : ℕ) (old new : List Event) → w.shape.nodes ≤ last → Adds (OfUpTo (IsRetryAt w) last) old new → Adds (IsRetry w) old new
  all_retries last old new le = up_all (IsRetryAt w) last old new (λ n event is. up_to w.shape.nodes last n le (retry_node n event is))

  pub all_resends : (last : ℕ) (old new : List Event) → w.shape.files ≤ last → Adds (OfUpTo (IsResendAt w) last) old new → Adds (IsResend w) old new
  all_resends last old new le = up_all (IsResendAt w) last old new (λ n event is. up_to w.shape.files last n le (resend_file n event is))

  -- a server that doesn't work learns nothing, and sends nothing again
  pub no_learn : (file : ℕ) (event : Event) → works w file ≡ false → IsLearnOf w file event → ⊥
  no_learn file event idle is =
      let due : IsDue w (AtServer file (Learn is.0 is.1.0)) = subst (IsDue w) is.1.1 is.1.2 in
      false≢true (sym idle ∙ due.0)

  pub no_resend : (file : ℕ) (event : Event) → works w file ≡ false → IsResendAt w file event → ⊥
  no_resend file event idle is =
      let due : IsDue w (AtServer file Resend) = subst (IsDue w) is.0 is.1 in
      false≢true (sym idle ∙ due)

  -- a node that is there is alive
  pub alive_node : (n : ℕ) (s : NodeState) → HasNode w n s → is_alive w n ≡ true
  alive_node n s has = both_of (has_node w n) (w.alive n) has.number has.alive

  -- of a node that is not alive no call is tried again
  pub no_retry : (n : ℕ) (event : Event) → is_alive w n ≡ false → IsRetryAt w n event → ⊥
  no_retry n event idle is =
      let due : IsDue w (AtNode n (Retry is.0)) = subst (IsDue w) is.1 is.2 in
      false≢true (sym idle ∙ due.0)

  -- of a node of which no incarnation was declared failed nothing is learned
  pub no_dead : (file n : ℕ) (event : Event) → (w.nodes n).incarnation - 1 ≡ 0 → IsLearnAt w file n event → ⊥
  no_dead file n event none is =
      let due : IsDue w (AtServer file (Learn n is.0)) = subst (IsDue w) is.1 is.2 in
      let least = due.2 in
      let next = due.3 in
      absurd (omega (arith, none, least, next))

  -- the one event that is learned of a node
  pub one_dead : (file n dead : ℕ) (old : List Event) → works w file ≡ true → has_node w n ≡ true → dead ≡ (w.nodes n).incarnation - 1 → 1 ≤ dead → Adds (IsLearnAt w file n) old (old ++ AtServer file (Learn n dead) ∷ [])
  one_dead file n dead old working node is least =
      adds_one (IsLearnAt w file n) old (AtServer file (Learn n dead)) (dead, refl, (working, node, least, omega (arith, is, least)))
      (λ other its.
      let due : IsDue w (AtServer file (Learn n its.0)) = subst (IsDue w) its.1 its.2 in
      let next = due.3 in
      let same : dead ≡ its.0 = omega (arith, is, next) in
      ap (λ (i : ℕ). AtServer file (Learn n i)) same ∙ sym its.1)

  pub one_resend : (file : ℕ) (old : List Event) → works w file ≡ true → Adds (IsResendAt w file) old (old ++ AtServer file Resend ∷ [])
  one_resend file old working = adds_one (IsResendAt w file) old (AtServer file Resend) (refl, working) (λ other its. sym its.0)

  -- the calls that a live node has open are those that are tried again there
  pub node_retries : (n : ℕ) (calls : List OpenCall) (old new : List Event) → is_alive w n ≡ true → calls ≡ (w.nodes n).pending → Adds (IsRetryOf n calls) old new → Adds (IsRetryAt w n) old new
  node_retries n calls old new alive are =
      adds_same (IsRetryOf n calls) (IsRetryAt w n) old new
      (λ event is. (is.0.pid, is.2, subst (IsDue w) (sym is.2) (alive, is.0, subst (λ (cs : List OpenCall). Contains cs is.0) are is.1, refl)))
      (λ event is.
      let due : IsDue w (AtNode n (Retry is.0)) = subst (IsDue w) is.1 is.2 in
      (due.1, subst (λ (cs : List OpenCall). Contains cs due.1) (sym are) due.2, is.1 ∙ ap (λ (pid : ℕ). AtNode n (Retry pid)) (sym due.3)))

-- one more call of a node is tried again
pub next_retry : (n : ℕ) (calls : List OpenCall) (i : ℕ) (c : OpenCall) (old mid : List Event) → i < length calls → c ≡ get_or calls i c → Adds (IsRetryOf n (take i calls)) old mid → Adds (IsRetryOf n (take (i + 1) calls)) old (mid ++ AtNode n (Retry c.pid) ∷ [])
next_retry n calls i c old mid lt is so_far =
    let next : take (i + 1) calls ≡ take i calls ++ c ∷ [] = take_more calls i c lt ∙ ap (λ (x : OpenCall). take i calls ++ x ∷ []) (sym is) in
    let Last : Event → Type 0 = λ event. event ≡ AtNode n (Retry c.pid) in
    adds_join (IsRetryOf n (take i calls)) Last (IsRetryOf n (take (i + 1) calls)) old mid (mid ++ AtNode n (Retry c.pid) ∷ [])
    (λ event its. (its.0, subst (λ (cs : List OpenCall). Contains cs its.0) (sym next) (Contains-append_left (take i calls) (c ∷ []) its.0 its.1), its.2))
    (λ event last. (c, subst (λ (cs : List OpenCall). Contains cs c) (sym next) (Contains-push (take i calls) c), last))
    (λ event its. elim (Contains-push_cases (take i calls) c its.0 (subst (λ (cs : List OpenCall). Contains cs its.0) next its.1)) [
      | inl before ↦ inl (its.0, before, its.2)
      | inr same ↦ inr (its.2 ∙ ap (λ (x : OpenCall). AtNode n (Retry x.pid)) (sym same))
    ])
    so_far
    (adds_one Last mid (AtNode n (Retry c.pid)) refl (λ other last. sym last))

pub no_retries : (n : ℕ) (calls : List OpenCall) (old : List Event) → Adds (IsRetryOf n (take 0 calls)) old old
no_retries n calls old = adds_none (IsRetryOf n (take 0 calls)) old (λ event is. let lt = is.1.1 in absurd (omega (arith, lt)))

-- the numbers of a shape's nodes
pub within_node : (w : WorldState) (n : ℕ) → 1 ≤ n → n ≤ w.shape.nodes → has_node w n ≡ true
within_node w n least most = grind (arith, nat_tests, least, most)
