-- What calls change between two tables of a way.
use Rattle.std.proofs.Common.{◌≡◌, ℕ, zero, suc, ◌≤◌, ◌⊎◌, inl, inr, ⊎_elim, true, false, List, [], ◌∷◌, Option, Some, None, refl, sym, ap, subst, ◌∙◌}
use Rattle.std.proofs.lemmas.Bool.{cases_Bool, false≢true}
use Rattle.intervals.specs.rule.Bytes.{Range, is_in, nothing, put}
use Rattle.model.specs.declared.mode.Mode.{Mode}
use Rattle.model.specs.declared.mode.Mode.TheVariants.{Read, Write}
use Rattle.model.specs.declared.owner.Owner.{Owner}
use Rattle.model.specs.declared.lock_info.LockInfo.{LockInfo}
use Rattle.model.specs.rule.Locks.{Locks, bars, excludes, with_lock}
use Rattle.client_history.specs.declared.act.Act.{Act}
use Rattle.client_history.specs.declared.act.Act.TheVariants.{Locks as Takes, IsDenied, IsFree as FindsFree, Frees, Drops}
use Rattle.client_history.specs.declared.client_call.ClientCall.{ClientCall}
use Rattle.client_history.specs.rule.Explained.{ActStep, the_file, Leads, IsAt}
use Rattle.client_history.specs.code.OpenCalls.{Changes, LetsGo}
use Rattle.client_history.specs.code.Moves.{AsksOnly}
use Rattle.client_history.proofs.MoveLaws.{choice_true, choice_false, own_is, in_both}
use Rattle.client_history.proofs.OwnQuestions.{one_or_two, leaves_other, leaves_same}

-- one of these calls makes such an act
pub record IsDone (calls : List ClientCall) (order : List ℕ) (Does : Owner → Act → Type 0) : Type 0 where
  pub place : ℕ
  pub call : ClientCall
  pub at : IsAt calls order place call
  pub does : Does call.owner call.act

module _ (calls : List ClientCall) (Keeps : Locks → Type 0) (Does : Owner → Act → Type 0) (step : (h k : Locks) (p : Owner) (a : Act) → ActStep the_file h p a k → Keeps h → Does p a ⊎ Keeps k) where
  -- a fact that each act keeps unless it is such an act is kept, or one of the calls makes such an act
  pub done_or_kept : (h k : Locks) (is : List ℕ) → Leads calls h is k → Keeps h → IsDone calls is Does ⊎ Keeps k
  done_or_kept h k [] leads keeps = inr (subst Keeps leads keeps)
  done_or_kept h k (i ∷ is) leads keeps = ⊎_elim
      (λ does. inl (record { place = zero; call = leads.0; at = record { index = i; at = refl; there = leads.2 }; does = does }))
      (λ kept. ⊎_elim
      (λ later. inl (record { place = suc later.place; call = later.call; at = record { index = later.at.index; at = later.at.at; there = later.at.there }; does = later.does }))
      (λ last. inr last)
      (done_or_kept leads.1 k is leads.4 kept))
      (step h leads.1 leads.0.owner leads.0.act leads.3 keeps)

-- an act asks only, or changes locks
pub asks_or_changes : (a : Act) → AsksOnly a ⊎ Changes a
asks_or_changes (Takes mode span) = inr tt
asks_or_changes (IsDenied mode span told) = inl tt
asks_or_changes (FindsFree mode span) = inl tt
asks_or_changes (Frees span) = inr tt
asks_or_changes Drops = inr tt

-- the act is a change of that owner
abbrev pub ChangesOwn : Owner → Owner → Act → Type 0
ChangesOwn q p a = (p ≡ q) × Changes a

-- an owner that changes nothing on a way keeps its locks
pub changed_or_same : (calls : List ClientCall) (q : Owner) (h k : Locks) (is : List ℕ) → Leads calls h is k → IsDone calls is (ChangesOwn q) ⊎ (k the_file q ≡ h the_file q)
changed_or_same calls q h k is leads = done_or_kept calls (λ (l : Locks). l the_file q ≡ h the_file q) (ChangesOwn q) step h k is leads refl
  where
    step : (m n : Locks) (p : Owner) (a : Act) → ActStep the_file m p a n → m the_file q ≡ h the_file q → ChangesOwn q p a ⊎ (n the_file q ≡ h the_file q)
    step m n p a did same = ⊎_elim
        (λ own. ⊎_elim (λ asks. inr (leaves_same m n q p a (λ e. asks) did ∙ same)) (λ changes. inl (own, changes)) (asks_or_changes a))
        (λ differ. inr (leaves_other m n q p a (λ e. differ (sym e)) did ∙ same))
        (one_or_two p q)

module _ (h k : Locks) (q : Owner) (s : Range) (value : Option Mode) (b : ℕ) (is : k ≡ with_lock h the_file q s value) where
  given : k the_file q b ≡ put (h the_file q) s value b
  given = ap (λ (l : Locks). l the_file q b) is ∙ ap (λ (f : ℕ → Option Mode). f b) (own_is h the_file q (put (h the_file q) s value))

  -- a byte of the span has the value
  has_value : is_in s b ≡ true → k the_file q b ≡ value
  has_value within = given ∙ choice_true (is_in s b) value (h the_file q b) within

  -- another byte has what it had
  has_still : is_in s b ≡ false → k the_file q b ≡ h the_file q b
  has_still apart = given ∙ choice_false (is_in s b) value (h the_file q b) apart

module _ (lock : LockInfo) (mode : Mode) (b : ℕ) (low : lock.span.lo ≤ b) (high : b ≤ lock.span.hi) where
  -- the byte is barred by the lock's owner
  abbrev IsShut : Locks → Type 0
  IsShut h = bars mode (h the_file lock.owner b) ≡ true

  shut_still : (h k : Locks) → k the_file lock.owner b ≡ h the_file lock.owner b → IsShut h → IsShut k
  shut_still h k same shut = ap (bars mode) same ∙ shut

  own_opens : (h k : Locks) (a : Act) → ActStep the_file h lock.owner a k → IsShut h → LetsGo lock lock.owner a ⊎ IsShut k
  own_opens h k (Takes Read s) step shut = ⊎_elim
      (λ within. inl (refl, refl, in_both s lock.span b within low high))
      (λ apart. inr (shut_still h k (has_still h k lock.owner s (Some Read) b step.1 apart) shut))
      (cases_Bool (is_in s b))
  own_opens h k (Takes Write s) step shut = ⊎_elim
      (λ within. inr (ap (bars mode) (has_value h k lock.owner s (Some Write) b step.1 within)))
      (λ apart. inr (shut_still h k (has_still h k lock.owner s (Some Write) b step.1 apart) shut))
      (cases_Bool (is_in s b))
  own_opens h k (IsDenied asked s told) step shut = inr (subst IsShut (sym step.1) shut)
  own_opens h k (FindsFree asked s) step shut = inr (subst IsShut (sym step.1) shut)
  own_opens h k (Frees s) step shut = ⊎_elim
      (λ within. inl (refl, in_both s lock.span b within low high))
      (λ apart. inr (shut_still h k (has_still h k lock.owner s None b step apart) shut))
      (cases_Bool (is_in s b))
  own_opens h k Drops step shut = inl refl

  opens : (h k : Locks) (p : Owner) (a : Act) → ActStep the_file h p a k → IsShut h → LetsGo lock p a ⊎ IsShut k
  opens h k p a step shut = ⊎_elim
      (λ own. subst (λ (o : Owner). LetsGo lock o a ⊎ IsShut k) (sym own) (own_opens h k a (subst (λ (o : Owner). ActStep the_file h o a k) own step) shut))
      (λ differ. inr (shut_still h k (ap (λ (f : ℕ → Option Mode). f b) (leaves_other h k lock.owner p a (λ e. differ (sym e)) step)) shut))
      (one_or_two p lock.owner)

  -- if a byte of the lock is barred first and not in the end, some call lets it go
  pub some_lets_go : (calls : List ClientCall) (h k : Locks) (is : List ℕ) → Leads calls h is k → bars mode (h the_file lock.owner b) ≡ true → bars mode (k the_file lock.owner b) ≡ false → IsDone calls is (LetsGo lock)
  some_lets_go calls h k is leads shut clear = ⊎_elim
      (λ done. done)
      (λ still. absurd (false≢true (sym clear ∙ still)))
      (done_or_kept calls IsShut (LetsGo lock) opens h k is leads shut)

-- the act takes the byte in a mode that excludes the other
abbrev pub TakesByte : Mode → ℕ → Act → Type 0
TakesByte mode b (Takes asked bytes) = (is_in bytes b ≡ true) × (excludes asked mode ≡ true)
TakesByte mode b _ = ⊥

-- the act of that owner takes the byte in a mode that excludes the other
abbrev pub BarsByte : Owner → Mode → ℕ → Owner → Act → Type 0
BarsByte q mode b p a = (p ≡ q) × TakesByte mode b a

module _ (q : Owner) (mode : Mode) (b : ℕ) where
  -- the byte is not barred by the owner
  abbrev IsOpen : Locks → Type 0
  IsOpen h = bars mode (h the_file q b) ≡ false

  open_still : (h k : Locks) → k the_file q b ≡ h the_file q b → IsOpen h → IsOpen k
  open_still h k same clear = ap (bars mode) same ∙ clear

  own_bars : (h k : Locks) (a : Act) → ActStep the_file h q a k → IsOpen h → TakesByte mode b a ⊎ IsOpen k
  own_bars h k (Takes asked s) step clear = ⊎_elim
      (λ within. ⊎_elim
      (λ bars_it. inl (within, bars_it))
      (λ lets. inr (ap (bars mode) (has_value h k q s (Some asked) b step.1 within) ∙ lets))
      (cases_Bool (excludes asked mode)))
      (λ apart. inr (open_still h k (has_still h k q s (Some asked) b step.1 apart) clear))
      (cases_Bool (is_in s b))
  own_bars h k (IsDenied asked s told) step clear = inr (subst IsOpen (sym step.1) clear)
  own_bars h k (FindsFree asked s) step clear = inr (subst IsOpen (sym step.1) clear)
  own_bars h k (Frees s) step clear = ⊎_elim
      (λ within. inr (ap (bars mode) (has_value h k q s None b step within)))
      (λ apart. inr (open_still h k (has_still h k q s None b step apart) clear))
      (cases_Bool (is_in s b))
  own_bars h k Drops step clear = inr (ap (λ (l : Locks). bars mode (l the_file q b)) step ∙ ap (λ (f : ℕ → Option Mode). bars mode (f b)) (own_is h the_file q nothing))

  shuts : (h k : Locks) (p : Owner) (a : Act) → ActStep the_file h p a k → IsOpen h → BarsByte q mode b p a ⊎ IsOpen k
  shuts h k p a step clear = ⊎_elim
      (λ own. ⊎_elim (λ takes. inl (own, takes)) (λ still. inr still) (own_bars h k a (subst (λ (o : Owner). ActStep the_file h o a k) own step) clear))
      (λ differ. inr (open_still h k (ap (λ (f : ℕ → Option Mode). f b) (leaves_other h k q p a (λ e. differ (sym e)) step)) clear))
      (one_or_two p q)

  -- if a byte is not barred first, and is in the end, some call of the owner takes it
  pub some_bars : (calls : List ClientCall) (h k : Locks) (is : List ℕ) → Leads calls h is k → bars mode (h the_file q b) ≡ false → bars mode (k the_file q b) ≡ true → IsDone calls is (BarsByte q mode b)
  some_bars calls h k is leads clear shut = ⊎_elim
      (λ done. done)
      (λ still. absurd (false≢true (sym still ∙ shut)))
      (done_or_kept calls IsOpen (BarsByte q mode b) shuts h k is leads clear)
