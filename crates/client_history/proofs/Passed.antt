-- Calls of which none is in a closed set.
use Rattle.std.proofs.Common.{ℕ, ◌≤◌, ⊎_elim, List, ap, subst, ◌∙◌, arith}
use Rattle.std.proofs.lemmas.Bool.{cases_lt}
use Rattle.intervals.specs.rule.Bytes.{Range}
use Rattle.model.specs.declared.mode.Mode.{Mode}
use Rattle.model.specs.declared.owner.Owner.{Owner}
use Rattle.model.specs.rule.Locks.{Locks, IsFree, bars}
use Rattle.client_history.specs.declared.act.Act.{Act}
use Rattle.client_history.specs.declared.act.Act.TheVariants.{Locks as Takes, IsDenied, IsFree as FindsFree, Frees, Drops}
use Rattle.client_history.specs.declared.client_call.ClientCall.{ClientCall}
use Rattle.client_history.specs.rule.Explained.{ActStep, the_file, Leads, IsAt}
use Rattle.client_history.specs.code.OpenCalls.{Calls, NeedsFree, IsKept}
use Rattle.client_history.specs.code.Moves.{AsksOnly}
use Rattle.client_history.proofs.OwnBytes.{some_lets_go}

-- the calls are left, none is in the set, and none that only asks is allowed here
pub record ArePassed (calls : List ClientCall) (h : Locks) (Left : Calls) (Set : ℕ → Type 0) (order : List ℕ) : Type 0 where
  pub left : (k : ℕ) (call : ClientCall) (at : IsAt calls order k call) → Left at.index call
  pub unchosen : (k : ℕ) (call : ClientCall) (at : IsAt calls order k call) → Set at.index → ⊥
  pub unasked : (k : ℕ) (call : ClientCall) → IsAt calls order k call → AsksOnly call.act → (next : Locks) → ActStep the_file h call.owner call.act next → ⊥

-- a byte is of both spans
pub record IsInBoth (s t : Range) (b : ℕ) : Type 0 where
  pub above_first : s.lo ≤ b
  pub below_first : b ≤ s.hi
  pub above_second : t.lo ≤ b
  pub below_second : b ≤ t.hi

-- two spans with bytes, of which none lies behind the other, have one in common
pub common_byte : (s t : Range) → s.lo ≤ s.hi → t.lo ≤ t.hi → t.lo ≤ s.hi → s.lo ≤ t.hi → (b : ℕ) × IsInBoth s t b
common_byte s t first second low high = ⊎_elim
    (λ lt. (t.lo, record { above_first = omega arith; below_first = low; above_second = omega arith; below_second = second }))
    (λ le. (s.lo, record { above_first = omega arith; below_first = first; above_second = le; below_second = high }))
    (cases_lt s.lo t.lo)

-- where an act that needs its bytes free is done, they are free
needed_free : (a : Act) (mode : Mode) (span : Range) (m u : Locks) (p : Owner) → NeedsFree a mode span → ActStep the_file m p a u → IsFree (m the_file) p span mode
needed_free (Takes asked bytes) mode span m u p needs step = subst (λ (s : Range). IsFree (m the_file) p s mode) needs.1 (subst (λ (x : Mode). IsFree (m the_file) p bytes x) needs.0 step.0)
needed_free (IsDenied asked bytes told) mode span m u p needs step = absurd needs
needed_free (FindsFree asked bytes) mode span m u p needs step = subst (λ (s : Range). IsFree (m the_file) p s mode) needs.1 (subst (λ (x : Mode). IsFree (m the_file) p bytes x) needs.0 step.0)
needed_free (Frees bytes) mode span m u p needs step = absurd needs
needed_free Drops mode span m u p needs step = absurd needs

-- behind calls of which none is in the set, no call is allowed that a lock blocks which the set alone lets go
pub kept_is_not_done : (calls : List ClientCall) (h m u : Locks) (Left : Calls) (Set : ℕ → Type 0) (order : List ℕ) (call : ClientCall)
    → ArePassed calls h Left Set order → Leads calls h order m → IsKept h Left Set call → ActStep the_file m call.owner call.act u → ⊥
kept_is_not_done calls h m u Left Set order call passed leads kept step =
    let byte = common_byte kept.span kept.lock.span kept.ordered kept.region.ordered kept.in_way.starts kept.in_way.ends in
    let is = byte.1 in
    let shut = ap (bars kept.mode) (kept.region.all byte.0 is.above_second is.below_second) ∙ kept.in_way.conflicts in
    let clear = needed_free call.act kept.mode kept.span m u call.owner kept.needs step kept.lock.owner byte.0 kept.other is.above_first is.below_first in
    let done = some_lets_go kept.lock kept.mode byte.0 is.above_second is.below_second calls h m order leads shut clear in
    passed.unchosen done.place done.call done.at (kept.closed done.at.index done.call (passed.left done.place done.call done.at) done.does)
