-- The calls that make a denial.
use Rattle.std.specs.Prelude.{◌≢◌, IfSome}
use Rattle.std.proofs.Common.{◌≡◌, ℕ, ◌≤◌, ◌⊎◌, inl, inr, ⊎_elim, List, Option, Some, None, refl, sym, ap, subst, ◌∙◌}
use Rattle.std.proofs.lemmas.Option.{none-some}
use Rattle.intervals.specs.rule.Bytes.{Range}
use Rattle.model.specs.declared.mode.Mode.{Mode}
use Rattle.model.specs.declared.owner.Owner.{Owner}
use Rattle.model.specs.rule.Locks.{Locks, IsFree, bars}
use Rattle.client_history.specs.declared.told_lock.ToldLock.{ToldLock}
use Rattle.client_history.specs.declared.act.Act.{Act}
use Rattle.client_history.specs.declared.act.Act.TheVariants.{Locks as Takes, IsDenied, IsFree as FindsFree, Frees, Drops}
use Rattle.client_history.specs.declared.client_call.ClientCall.{ClientCall}
use Rattle.client_history.specs.rule.Explained.{IsBlocked, the_file, Leads, IsAt}
use Rattle.client_history.specs.code.OpenCalls.{Changes, IsUntold, MayDeny}
use Rattle.client_history.proofs.MoveLaws.{in_both}
use Rattle.client_history.proofs.OwnQuestions.{blocked_still}
use Rattle.client_history.proofs.Passed.{common_byte}
use Rattle.client_history.proofs.OwnBytes.{TakesByte, some_bars, changed_or_same}

none_or_some : {X : Type 0} (o : Option X) → (o ≡ None) ⊎ (o ≡ None → ⊥)
none_or_some None = inl refl
none_or_some (Some x) = inr (λ e. none-some x (sym e))

-- a client was told something, or nothing
untold_or_told : (told : ToldLock) → IsUntold told ⊎ (IsUntold told → ⊥)
untold_or_told told = ⊎_elim
    (λ mode. ⊎_elim
    (λ span. ⊎_elim
    (λ owner. inl (mode, span, owner))
    (λ some. inr (λ untold. some untold.2))
    (none_or_some told.owner))
    (λ some. inr (λ untold. some untold.1))
    (none_or_some told.span))
    (λ some. inr (λ untold. some untold.0))
    (none_or_some told.mode)

-- if an owner was told, it is that of the lock
owner_fits : (o : Option Owner) (q : Owner) → IfSome o (λ owner. owner ≡ q) → (o ≡ None) ⊎ (o ≡ Some q)
owner_fits None q fits = inl refl
owner_fits (Some owner) q fits = inr (ap Some fits)

module _ (mode : Mode) (span : Range) (told : ToldLock) where
  -- an act that takes a byte of the span in a mode that excludes the other may deny
  taken_may_deny : (b : ℕ) (a : Act) → span.lo ≤ b → b ≤ span.hi → TakesByte mode b a → MayDeny mode span told a
  taken_may_deny b (Takes asked bytes) low high takes = λ untold. let meets = in_both bytes span b takes.0 low high in ((meets.1, meets.0), takes.1)
  taken_may_deny b (IsDenied asked bytes named) low high takes = absurd takes
  taken_may_deny b (FindsFree asked bytes) low high takes = absurd takes
  taken_may_deny b (Frees bytes) low high takes = absurd takes
  taken_may_deny b Drops low high takes = absurd takes

  -- if something was told, each change may deny
  change_may_deny : (a : Act) → Changes a → (IsUntold told → ⊥) → MayDeny mode span told a
  change_may_deny (Takes asked bytes) changes is_told = λ untold. absurd (is_told untold)
  change_may_deny (IsDenied asked bytes named) changes is_told = absurd changes
  change_may_deny (FindsFree asked bytes) changes is_told = absurd changes
  change_may_deny (Frees bytes) changes is_told = is_told
  change_may_deny Drops changes is_told = is_told

  -- one of these calls, of another owner than p, may make the denial
  pub record IsMade (calls : List ClientCall) (order : List ℕ) (p : Owner) : Type 0 where
    pub place : ℕ
    pub call : ClientCall
    pub at : IsAt calls order place call
    pub other : call.owner ≢ p
    pub denies : MayDeny mode span told call.act
    pub fits : (told.owner ≡ None) ⊎ (told.owner ≡ Some call.owner)

  module _ (calls : List ClientCall) (h m : Locks) (order : List ℕ) (leads : Leads calls h order m) (p : Owner) (is : IsBlocked m the_file p span mode told) where
    fits_call : (q : Owner) → q ≡ is.lock.owner → (told.owner ≡ None) ⊎ (told.owner ≡ Some q)
    fits_call q same = subst (λ (o : Owner). (told.owner ≡ None) ⊎ (told.owner ≡ Some o)) (sym same) (owner_fits told.owner is.lock.owner is.named.owner)

    other_call : (q : Owner) → q ≡ is.lock.owner → q ≢ p
    other_call q same e = is.blocks.is_other (sym same ∙ e)

    made_untold : span.lo ≤ span.hi → IsFree (h the_file) p span mode → IsMade calls order p
    made_untold ordered free =
        let byte = common_byte span is.lock.span ordered is.blocks.region.ordered is.blocks.starts is.blocks.ends in
        let both = byte.1 in
        let shut = ap (bars mode) (is.blocks.region.all byte.0 both.above_second both.below_second) ∙ is.blocks.conflicts in
        let clear = free is.lock.owner byte.0 is.blocks.is_other both.above_first both.below_first in
        let done = some_bars is.lock.owner mode byte.0 calls h m order leads clear shut in
        record {
          place = done.place;
          call = done.call;
          at = done.at;
          other = other_call done.call.owner done.does.0;
          denies = taken_may_deny byte.0 done.call.act both.above_first both.below_first done.does.1;
          fits = fits_call done.call.owner done.does.0;
        }

    made_told : (IsBlocked h the_file p span mode told → ⊥) → (IsUntold told → ⊥) → IsMade calls order p
    made_told never is_told = ⊎_elim
        (λ done. record {
          place = done.place;
          call = done.call;
          at = done.at;
          other = other_call done.call.owner done.does.0;
          denies = change_may_deny done.call.act done.does.1 is_told;
          fits = fits_call done.call.owner done.does.0;
        })
        (λ same. absurd (never (blocked_still m h p mode span told is (sym same))))
        (changed_or_same calls is.lock.owner h m order leads)

    -- one of these calls made the lock that denies behind them and not before
    pub some_denies : (IsUntold told → (span.lo ≤ span.hi) × IsFree (h the_file) p span mode) → (IsBlocked h the_file p span mode told → ⊥) → IsMade calls order p
    some_denies unbarred never = ⊎_elim
        (λ untold. let free = unbarred untold in made_untold free.0 free.1)
        (λ is_told. made_told never is_told)
        (untold_or_told told)
