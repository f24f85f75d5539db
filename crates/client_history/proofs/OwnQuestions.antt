-- Acts of an owner that only ask, and its other acts.
use Rattle.std.specs.Prelude.{◌≢◌}
use Rattle.std.proofs.Common.{◌≡◌, ℕ, ◌⊎◌, inl, inr, ⊎_elim, true, false, Option, Some, None, sym, ap, subst, ◌∙◌}
use Rattle.std.proofs.lemmas.Bool.{cases_Bool, false≢true}
use Rattle.intervals.specs.rule.Bytes.{Range, nothing, put, IsRun}
use Rattle.model.specs.declared.mode.Mode.{Mode}
use Rattle.model.specs.declared.owner.Owner.{Owner}
use Rattle.model.specs.rule.Locks.{Locks, bars}
use Rattle.model.specs.rule.Owners.{same_owner}
use Rattle.model.proofs.OwnerLaws.{owner_exact, owner_refl}
use Rattle.client_history.specs.declared.told_lock.ToldLock.{ToldLock}
use Rattle.client_history.specs.declared.act.Act.{Act}
use Rattle.client_history.specs.declared.act.Act.TheVariants.{Locks as Takes, IsDenied, IsFree as FindsFree, Frees, Drops}
use Rattle.client_history.specs.rule.Explained.{ActStep, IsBlocked, the_file}
use Rattle.client_history.specs.code.Moves.{AsksOnly, MayPass, MovesBefore}
use Rattle.client_history.proofs.MoveLaws.{other_is, moves_before}
use Rattle.client_history.proofs.Steps.{step_is_one}

-- two owners are equal or not
pub one_or_two : (p q : Owner) → (p ≡ q) ⊎ (p ≢ q)
one_or_two p q = ⊎_elim (λ same. inl (owner_exact p q same)) (λ differ. inr (λ e. false≢true (sym differ ∙ subst (λ (o : Owner). same_owner p o ≡ true) e (owner_refl p)))) (cases_Bool (same_owner p q))

-- an act that only asks changes nothing
pub asks_same : (m n : Locks) (q : Owner) (b : Act) → AsksOnly b → ActStep the_file m q b n → n ≡ m
asks_same m n q (Takes mode span) asks step = absurd asks
asks_same m n q (IsDenied mode span told) asks step = step.1
asks_same m n q (FindsFree mode span) asks step = step.1
asks_same m n q (Frees span) asks step = absurd asks
asks_same m n q Drops asks step = absurd asks

-- an act leaves another owner its locks
pub leaves_other : (m n : Locks) (p q : Owner) (b : Act) → p ≢ q → ActStep the_file m q b n → n the_file p ≡ m the_file p
leaves_other m n p q (Takes mode span) differ step = ap (λ (l : Locks). l the_file p) step.1 ∙ other_is m the_file q (put (m the_file q) span (Some mode)) p (λ e. differ (sym e))
leaves_other m n p q (IsDenied mode span told) differ step = ap (λ (l : Locks). l the_file p) step.1
leaves_other m n p q (FindsFree mode span) differ step = ap (λ (l : Locks). l the_file p) step.1
leaves_other m n p q (Frees span) differ step = ap (λ (l : Locks). l the_file p) step ∙ other_is m the_file q (put (m the_file q) span None) p (λ e. differ (sym e))
leaves_other m n p q Drops differ step = ap (λ (l : Locks). l the_file p) step ∙ other_is m the_file q nothing p (λ e. differ (sym e))

-- an act that only asks leaves its own owner its locks
pub leaves_same : (m n : Locks) (p q : Owner) (b : Act) → (p ≡ q → AsksOnly b) → ActStep the_file m q b n → n the_file p ≡ m the_file p
leaves_same m n p q b asks step = ⊎_elim (λ same. ap (λ (l : Locks). l the_file p) (asks_same m n q b (asks same) step)) (λ differ. leaves_other m n p q b differ step) (one_or_two p q)

-- a lock that blocks does so in all tables in which its owner has the same locks
pub blocked_still : (h k : Locks) (q : Owner) (mode : Mode) (span : Range) (told : ToldLock) (is : IsBlocked h the_file q span mode told) → k the_file is.lock.owner ≡ h the_file is.lock.owner → IsBlocked k the_file q span mode told
blocked_still h k q mode span told is same = record {
  lock = is.lock;
  blocks = record {
    is_other = is.blocks.is_other;
    region = subst (λ (f : ℕ → Option Mode). IsRun f is.lock.span is.lock.mode) (sym same) is.blocks.region;
    conflicts = is.blocks.conflicts;
    starts = is.blocks.starts;
    ends = is.blocks.ends;
  };
  named = is.named;
}

module _ (h k m u : Locks) (p : Owner) (a : Act) (step : ActStep the_file h p a k) (second : ActStep the_file m p a u) where
  -- both ways lead to the same locks
  both_one : m ≡ h → u ≡ k
  both_one is_m = step_is_one h u k p a (subst (λ (l : Locks). ActStep the_file l p a u) is_m second) step

  -- an act moves before one of its owner that only asks
  own_first : (b : Act) → AsksOnly b → ActStep the_file h p b m → ActStep the_file k p b u
  own_first (Takes mode span) asks first = absurd asks
  own_first (IsDenied mode span told) asks first = (blocked_still h k p mode span told first.0 (leaves_other h k first.0.lock.owner p a first.0.blocks.is_other step), both_one first.1)
  own_first (FindsFree mode span) asks first = (λ o b other lo hi. subst (λ (f : ℕ → Option Mode). bars mode (f b) ≡ false) (sym (leaves_other h k o p a other step)) (first.0 o b other lo hi), both_one first.1)
  own_first (Frees span) asks first = absurd asks
  own_first Drops asks first = absurd asks

-- an act moves before one that it may pass
pub may_move : (h k : Locks) (p q : Owner) (a b : Act) → ActStep the_file h p a k → MayPass h p a q b → MovesBefore h p a q b
may_move h k p q a b step may = ⊎_elim
    (λ same. subst (λ (o : Owner). MovesBefore h p a o b) same (λ m u first second. (k, step, own_first h k m u p a step second b (may.0 same) first)))
    (λ differ. moves_before h k p q a b differ step (may.1 differ))
    (one_or_two p q)
