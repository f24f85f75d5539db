-- A release of locks that comes first.
use Rattle.std.proofs.Common.{◌≡◌, ℕ, zero, suc, ◌++◌, true, List, [], ◌∷◌, slice_get, Some, None, refl, sym, subst, ◌∙◌}
use Rattle.intervals.specs.rule.Bytes.{Range}
use Rattle.model.specs.declared.mode.Mode.{Mode}
use Rattle.model.specs.declared.owner.Owner.{Owner}
use Rattle.model.specs.rule.Locks.{Locks, no_locks, with_lock, without_owner}
use Rattle.client_history.specs.declared.told_lock.ToldLock.{ToldLock}
use Rattle.client_history.specs.declared.act.Act.{Act}
use Rattle.client_history.specs.declared.act.Act.TheVariants.{Locks as Takes, IsDenied, IsFree as FindsFree, Frees, Drops}
use Rattle.client_history.specs.declared.client_call.ClientCall.{ClientCall}
use Rattle.client_history.specs.rule.Explained.{ActStep, IsBlocked, the_file, Leads, IsAt, IsExplainedBy}
use Rattle.client_history.specs.code.Moves.{Releases, IsDeniedIn, IsDeniedByOther, LetsBefore, Passes, NoneEnded, FollowsNone, AreOfOthers, OwnAskOnly, NoneDenied}
use Rattle.client_history.proofs.Exchange.{moved_explained}
use Rattle.client_history.proofs.OwnQuestions.{leaves_same, blocked_still}

-- a release is allowed in any locks
release_step : (a : Act) → Releases a → (m : Locks) (p : Owner) → (k : Locks) × ActStep the_file m p a k
release_step (Takes mode span) is m p = absurd is
release_step (IsDenied mode span told) is m p = absurd is
release_step (FindsFree mode span) is m p = absurd is
release_step (Frees span) is m p = (with_lock m the_file p span None, refl)
release_step Drops is m p = (without_owner m the_file p, refl)

module _ (h m : Locks) (p q : Owner) (same : m the_file p ≡ h the_file p) where
  -- a denial that the old locks of an owner don't explain is not by that owner
  pub denied_by_other : (mode : Mode) (span : Range) (told : ToldLock) → (IsBlocked h the_file q span mode told → ⊥) → IsBlocked m the_file q span mode told → IsDeniedByOther m p q mode span told
  denied_by_other mode span told never is = record { lock = is.lock; blocks = is.blocks; named = is.named; other = λ own. never (was own) }
    where
      was : is.lock.owner ≡ p → IsBlocked h the_file q span mode told
      was own = blocked_still m h q mode span told is (subst (λ (o : Owner). h the_file o ≡ m the_file o) (sym own) (sym same))

  -- each act lets a release before it
  lets_release : (a b : Act) (n : Locks) → Releases a → (IsDeniedIn h q b → ⊥) → ActStep the_file m q b n → LetsBefore m p a q b
  lets_release (Takes mode span) b n is never step = absurd is
  lets_release (IsDenied mode span told) b n is never step = absurd is
  lets_release (FindsFree mode span) b n is never step = absurd is
  lets_release (Frees freed) (IsDenied mode span told) n is never step = denied_by_other mode span told never step.0
  lets_release (Frees freed) (Takes mode span) n is never step = tt
  lets_release (Frees freed) (FindsFree mode span) n is never step = tt
  lets_release (Frees freed) (Frees span) n is never step = tt
  lets_release (Frees freed) Drops n is never step = tt
  lets_release Drops (IsDenied mode span told) n is never step = denied_by_other mode span told never step.0
  lets_release Drops (Takes mode span) n is never step = tt
  lets_release Drops (FindsFree mode span) n is never step = tt
  lets_release Drops (Frees span) n is never step = tt
  lets_release Drops Drops n is never step = tt

module _ (calls : List ClientCall) (call : ClientCall) (releases : Releases call.act) (h : Locks) where
  -- a release passes others in locks in which its owner has what it had
  pub passes_others : (m : Locks) (is : List ℕ) → m the_file call.owner ≡ h the_file call.owner → OwnAskOnly calls is call.owner → NoneDenied calls is h → Passes calls m call is
  passes_others m [] same own none = tt
  passes_others m (i ∷ is) same own none =
      let step = release_step call.act releases m call.owner in (
        step.0,
        step.1,
        λ other n there did.
            let at : IsAt calls (i ∷ is) zero other = record { index = i; at = refl; there = there } in
            let asks = own zero other at in (
              (asks, λ differ. lets_release h m call.owner other.owner same call.act other.act n releases (none zero other at) did),
              passes_others n is
                  (leaves_same m n call.owner other.owner other.act asks did ∙ same)
                  (λ k b at. own (suc k) b (record { index = at.index; at = at.at; there = at.there }))
                  (λ k b at. none (suc k) b (record { index = at.index; at = at.at; there = at.there })),
            ),
      )

-- a release may come first
pub release_first : (calls : List ClientCall) (front before behind : List ℕ) (time i : ℕ) (h : Locks) (call : ClientCall)
    → slice_get calls i ≡ Some call → Releases call.act → IsExplainedBy time calls (front ++ (before ++ (i ∷ behind))) → Leads calls no_locks front h → NoneEnded calls before call.begin → FollowsNone before call
    → (call.is_last ≡ true → AreOfOthers calls before call.owner) → OwnAskOnly calls before call.owner → NoneDenied calls before h → IsExplainedBy time calls (front ++ (i ∷ (before ++ behind)))
release_first calls front before behind time i h call there releases whole leads none follows others own denied =
    moved_explained calls front before behind time i h call there whole leads none follows others (passes_others calls call releases h h before refl own denied)
