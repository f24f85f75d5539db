-- The acts of two owners, in either order.
use Rattle.std.specs.Prelude.{◌≢◌, ⊤, nat_le}
use Rattle.std.proofs.Common.{◌≡◌, ℕ, ◌≤◌, ⊎_elim, Bool, true, false, ◌&&◌, if◌then◌else◌, eqb, eq-eqb, Option, Some, None, refl, sym, ap, subst, ◌∙◌, arith}
use Rattle.std.proofs.lemmas.Bool.{and_parts, and_from, and_right, cases_Bool, false_from_ne_true, leb-true, le-leb}
use Rattle.intervals.specs.rule.Bytes.{Range, is_in, nothing, put, IsRun}
use Rattle.model.specs.declared.mode.Mode.{Mode}
use Rattle.model.specs.declared.mode.Mode.TheVariants.{Read, Write}
use Rattle.model.specs.declared.owner.Owner.{Owner}
use Rattle.model.specs.rule.Locks.{Locks, replace, excludes, bars, IsFree}
use Rattle.model.specs.rule.Owners.{same_owner}
use Rattle.model.proofs.OwnerLaws.{owner_exact, owner_refl}
use Rattle.client_history.specs.declared.told_lock.ToldLock.{ToldLock}
use Rattle.client_history.specs.declared.act.Act.{Act}
use Rattle.client_history.specs.declared.act.Act.TheVariants.{Locks as Takes, IsDenied, IsFree as FindsFree, Frees, Drops}
use Rattle.client_history.specs.rule.Explained.{ActStep, IsBlocked, the_file}
use Rattle.client_history.specs.code.Moves.{MovesBefore, LetsBefore, Meet, IsDeniedByOther}

-- owners that are not equal fail the test of equality
apart : (p q : Owner) → p ≢ q → same_owner p q ≡ false
apart p q differ = false_from_ne_true (same_owner p q) (λ same. differ (owner_exact p q same))

excludes_both : (a b : Mode) → excludes a b ≡ false → excludes b a ≡ false
excludes_both Read Read e = refl
excludes_both Read Write e = e
excludes_both Write Read e = e
excludes_both Write Write e = e

pub choice_true : {X : Type 0} (b : Bool) (x y : X) → b ≡ true → (if b then x else y) ≡ x
choice_true b x y e = ap (λ (c : Bool). if c then x else y) e

pub choice_false : {X : Type 0} (b : Bool) (x y : X) → b ≡ false → (if b then x else y) ≡ y
choice_false b x y e = ap (λ (c : Bool). if c then x else y) e

choices : {X : Type 0} (b c : Bool) (x y z : X) → (b ≡ true → c ≡ true → ⊥) → (if b then x else (if c then y else z)) ≡ (if c then y else (if b then x else z))
choices true true x y z never = absurd (never refl refl)
choices true false x y z never = refl
choices false true x y z never = refl
choices false false x y z never = refl

module _ (h : Locks) (file : ℕ) (p : Owner) (x : ℕ → Option Mode) where
  -- the owner has the new bytes
  pub own_is : replace h file p x file p ≡ x
  own_is = choice_true ((eqb file file) && same_owner p p) x (h file p) (and_from (eqb file file) (same_owner p p) (eq-eqb file file refl) (owner_refl p))

  -- another owner has the bytes that it had
  pub other_is : (q : Owner) → p ≢ q → replace h file p x file q ≡ h file q
  other_is q differ = choice_false ((eqb file file) && same_owner p q) x (h file q) (and_right (eqb file file) (same_owner p q) (apart p q differ))

  -- the bytes of two owners may be replaced in either order
  swap : (q : Owner) (y : ℕ → Option Mode) → p ≢ q → replace (replace h file p x) file q y ≡ replace (replace h file q y) file p x
  swap q y differ = λ i f o. at f o i
    where
      at : (f : ℕ) (o : Owner) → replace (replace h file p x) file q y f o ≡ replace (replace h file q y) file p x f o
      at f o = choices ((eqb file f) && same_owner q o) ((eqb file f) && same_owner p o) y x (h f o) (λ one two. differ (owner_exact p o (and_parts (eqb file f) (same_owner p o) two).1 ∙ sym (owner_exact q o (and_parts (eqb file f) (same_owner q o) one).1)))

  -- bytes that were free for another stay free, if the new ones don't bar it
  free_beside : (q : Owner) (s : Range) (mode : Mode) → IsFree (h file) q s mode → ((b : ℕ) → s.lo ≤ b → b ≤ s.hi → bars mode (x b) ≡ false) → IsFree (replace h file p x file) q s mode
  free_beside q s mode free clear o b other lo hi = ⊎_elim
      (λ same. subst (λ (r : Owner). bars mode (replace h file p x file r b) ≡ false) (owner_exact p o same) (subst (λ (y : ℕ → Option Mode). bars mode (y b) ≡ false) (sym own_is) (clear b lo hi)))
      (λ differ. subst (λ (y : ℕ → Option Mode). bars mode (y b) ≡ false) (sym (choice_false ((eqb file file) && same_owner p o) x (h file o) (and_right (eqb file file) (same_owner p o) differ))) (free o b other lo hi))
      (cases_Bool (same_owner p o))

-- two changes lead to the same locks in either order
both_ways : (h m u k : Locks) (file : ℕ) (p q : Owner) (A B : (ℕ → Option Mode) → ℕ → Option Mode) → p ≢ q
    → m ≡ replace h file q (B (h file q)) → u ≡ replace m file p (A (m file p)) → k ≡ replace h file p (A (h file p)) → u ≡ replace k file q (B (k file q))
both_ways h m u k file p q A B differ is_m is_u is_k =
    let had_p : m file p ≡ h file p = ap (λ (l : Locks). l file p) is_m ∙ other_is h file q (B (h file q)) p (λ e. differ (sym e)) in
    let had_q : k file q ≡ h file q = ap (λ (l : Locks). l file q) is_k ∙ other_is h file p (A (h file p)) q differ in
    is_u ∙ ap (λ (y : ℕ → Option Mode). replace m file p (A y)) had_p ∙ ap (λ (l : Locks). replace l file p (A (h file p))) is_m
    ∙ sym (swap h file p (A (h file p)) q (B (h file q)) differ)
    ∙ ap (λ (l : Locks). replace l file q (B (h file q))) (sym is_k) ∙ ap (λ (y : ℕ → Option Mode). replace k file q (B y)) (sym had_q)

-- bytes that are freed bar nothing anew
freed_clear : (mode : Mode) (had : ℕ → Option Mode) (s : Range) (b : ℕ) → bars mode (had b) ≡ false → bars mode (put had s None b) ≡ false
freed_clear mode had s b clear = by (is_in s b)
  where
    by : (c : Bool) → bars mode (if c then None else had b) ≡ false
    by true = refl
    by false = clear

-- bytes that are taken bar what their mode excludes
taken_clear : (mode asked : Mode) (had : ℕ → Option Mode) (s : Range) (b : ℕ) → bars asked (had b) ≡ false → (is_in s b ≡ true → excludes mode asked ≡ false) → bars asked (put had s (Some mode) b) ≡ false
taken_clear mode asked had s b clear lets = by (is_in s b) lets
  where
    by : (c : Bool) → (c ≡ true → excludes mode asked ≡ false) → bars asked (if c then Some mode else had b) ≡ false
    by true lets = lets refl
    by false lets = clear

-- spans with a common byte meet
pub in_both : (s t : Range) (b : ℕ) → is_in s b ≡ true → t.lo ≤ b → b ≤ t.hi → Meet s t
in_both s t b within low high =
    let parts = and_parts (nat_le s.lo b) (nat_le b s.hi) within in
    let from = leb-true s.lo b parts.0 in
    let to = leb-true b s.hi parts.1 in
    (omega arith, omega arith)

-- the act of q is allowed still after p got these bytes
abbrev StaysAllowed : Locks → Owner → Owner → (ℕ → Option Mode) → Act → Type 0
StaysAllowed h p q x (Takes mode span) = IsFree (h the_file) q span mode → IsFree (replace h the_file p x the_file) q span mode
StaysAllowed h p q x (IsDenied mode span told) = IsBlocked (replace h the_file p x) the_file q span mode told
StaysAllowed h p q x (FindsFree mode span) = IsFree (h the_file) q span mode → IsFree (replace h the_file p x the_file) q span mode
StaysAllowed h p q x b = ⊤

module _ (h : Locks) (p q : Owner) (differ : p ≢ q) where
  -- a lock that denied one owner denies it still, if it is not the other's
  still_denied : (x : ℕ → Option Mode) (mode : Mode) (span : Range) (told : ToldLock) → IsDeniedByOther h p q mode span told → IsBlocked (replace h the_file p x) the_file q span mode told
  still_denied x mode span told d =
      let same = other_is h the_file p x d.lock.owner (λ e. d.other (sym e)) in
      record {
        lock = d.lock;
        blocks = record {
          is_other = d.blocks.is_other;
          region = subst (λ (f : ℕ → Option Mode). IsRun f d.lock.span d.lock.mode) (sym same) d.blocks.region;
          conflicts = d.blocks.conflicts;
          starts = d.blocks.starts;
          ends = d.blocks.ends;
        };
        named = d.named;
      }

  had_clear : (s : Range) (mode : Mode) (b : ℕ) → IsFree (h the_file) q s mode → s.lo ≤ b → b ≤ s.hi → bars mode (h the_file p b) ≡ false
  had_clear s mode b free lo hi = free p b differ lo hi

  -- bytes that were free for one owner stay so where the other gives back, or drops
  free_after_freed : (s freed : Range) (mode : Mode) → IsFree (h the_file) q s mode → IsFree (replace h the_file p (put (h the_file p) freed None) the_file) q s mode
  free_after_freed s freed mode free = free_beside h the_file p (put (h the_file p) freed None) q s mode free (λ b lo hi. freed_clear mode (h the_file p) freed b (had_clear s mode b free lo hi))

  free_after_drop : (s : Range) (mode : Mode) → IsFree (h the_file) q s mode → IsFree (replace h the_file p nothing the_file) q s mode
  free_after_drop s mode free = free_beside h the_file p nothing q s mode free (λ b lo hi. refl)

  -- bytes that were free for one owner stay so where the other takes others, or takes them in a mode that lets it
  free_after_taken : (s taken : Range) (mode asked : Mode) → IsFree (h the_file) q s asked → ((b : ℕ) → s.lo ≤ b → b ≤ s.hi → is_in taken b ≡ true → excludes mode asked ≡ false) → IsFree (replace h the_file p (put (h the_file p) taken (Some mode)) the_file) q s asked
  free_after_taken s taken mode asked free lets = free_beside h the_file p (put (h the_file p) taken (Some mode)) q s asked free (λ b lo hi. taken_clear mode asked (h the_file p) taken b (had_clear s asked b free lo hi) (lets b lo hi))

  -- locks of two owners on one byte let each other
  locks_let : (m : Locks) (s taken : Range) (mode asked : Mode) → m ≡ replace h the_file q (put (h the_file q) s (Some asked)) → IsFree (m the_file) p taken mode → (b : ℕ) → s.lo ≤ b → b ≤ s.hi → is_in taken b ≡ true → excludes mode asked ≡ false
  locks_let m s taken mode asked is free b lo hi within =
      let parts = and_parts (nat_le taken.lo b) (nat_le b taken.hi) within in
      let has : m the_file q b ≡ Some asked = ap (λ (l : Locks). l the_file q b) is ∙ ap (λ (f : ℕ → Option Mode). f b) (own_is h the_file q (put (h the_file q) s (Some asked))) ∙ choice_true (is_in s b) (Some asked) (h the_file q b) (and_from (nat_le s.lo b) (nat_le b s.hi) (le-leb s.lo b lo) (le-leb b s.hi hi)) in
      excludes_both asked mode (ap (λ (o : Option Mode). bars mode o) (sym has) ∙ free q b (λ e. differ (sym e)) (leb-true taken.lo b parts.0) (leb-true b taken.hi parts.1))

  module _ (m u k : Locks) where
    -- an act that only asks moves before any
    asks_first : (b : Act) → k ≡ h → u ≡ m → ActStep the_file h q b m → ActStep the_file k q b u
    asks_first b is_k is_u step = subst (λ (l : Locks). ActStep the_file l q b u) (sym is_k) (subst (λ (l : Locks). ActStep the_file h q b l) (sym is_u) step)

    -- a change of p by A moves before each act of q
    change_first : (A : (ℕ → Option Mode) → ℕ → Option Mode) (b : Act)
        → k ≡ replace h the_file p (A (h the_file p)) → u ≡ replace m the_file p (A (m the_file p)) → StaysAllowed h p q (A (h the_file p)) b → ActStep the_file h q b m → ActStep the_file k q b u
    change_first A (Takes mode span) is_k is_u stays step = (subst (λ (l : Locks). IsFree (l the_file) q span mode) (sym is_k) (stays step.0), both_ways h m u k the_file p q A (λ had. put had span (Some mode)) differ step.1 is_u is_k)
    change_first A (IsDenied mode span told) is_k is_u stays step = (subst (λ (l : Locks). IsBlocked l the_file q span mode told) (sym is_k) stays, is_u ∙ ap (λ (l : Locks). replace l the_file p (A (l the_file p))) step.1 ∙ sym is_k)
    change_first A (FindsFree mode span) is_k is_u stays step = (subst (λ (l : Locks). IsFree (l the_file) q span mode) (sym is_k) (stays step.0), is_u ∙ ap (λ (l : Locks). replace l the_file p (A (l the_file p))) step.1 ∙ sym is_k)
    change_first A (Frees span) is_k is_u stays step = both_ways h m u k the_file p q A (λ had. put had span None) differ step is_u is_k
    change_first A Drops is_k is_u stays step = both_ways h m u k the_file p q A (λ had. nothing) differ step is_u is_k

-- p's act that is allowed moves before q's act that lets it
pub moves_before : (h k : Locks) (p q : Owner) (a b : Act) → p ≢ q → ActStep the_file h p a k → LetsBefore h p a q b → MovesBefore h p a q b
moves_before h k p q (IsDenied mode span told) b differ step lets m u first second = (k, step, asks_first h p q differ m u k b step.1 second.1 first)
moves_before h k p q (FindsFree mode span) b differ step lets m u first second = (k, step, asks_first h p q differ m u k b step.1 second.1 first)
moves_before h k p q (Frees span) b differ step lets m u first second = (k, step, change_first h p q differ m u k (λ had. put had span None) b step second (frees_let b lets) first)
  where
    frees_let : (b : Act) → LetsBefore h p (Frees span) q b → StaysAllowed h p q (put (h the_file p) span None) b
    frees_let (Takes asked bytes) lets = free_after_freed h p q differ bytes span asked
    frees_let (IsDenied asked bytes told) lets = still_denied h p q differ (put (h the_file p) span None) asked bytes told lets
    frees_let (FindsFree asked bytes) lets = free_after_freed h p q differ bytes span asked
    frees_let (Frees bytes) lets = tt
    frees_let Drops lets = tt
moves_before h k p q Drops b differ step lets m u first second = (k, step, change_first h p q differ m u k (λ had. nothing) b step second (drop_lets b lets) first)
  where
    drop_lets : (b : Act) → LetsBefore h p Drops q b → StaysAllowed h p q nothing b
    drop_lets (Takes asked bytes) lets = free_after_drop h p q differ bytes asked
    drop_lets (IsDenied asked bytes told) lets = still_denied h p q differ nothing asked bytes told lets
    drop_lets (FindsFree asked bytes) lets = free_after_drop h p q differ bytes asked
    drop_lets (Frees bytes) lets = tt
    drop_lets Drops lets = tt
moves_before h k p q (Takes mode span) b differ step lets m u first second = (k, step, change_first h p q differ m u k (λ had. put had span (Some mode)) b step.1 second.1 (set_lets b lets first) first)
  where
    set_lets : (b : Act) → LetsBefore h p (Takes mode span) q b → ActStep the_file h q b m → StaysAllowed h p q (put (h the_file p) span (Some mode)) b
    set_lets (Takes asked bytes) lets first = λ free. free_after_taken h p q differ bytes span mode asked free (locks_let h p q differ m bytes span mode asked first.1 second.0)
    set_lets (IsDenied asked bytes told) lets first = still_denied h p q differ (put (h the_file p) span (Some mode)) asked bytes told lets
    set_lets (FindsFree asked bytes) lets first = λ free. free_after_taken h p q differ bytes span mode asked free (λ b lo hi within. ⊎_elim (λ e. e) (λ never. absurd (never (in_both span bytes b within lo hi))) lets)
    set_lets (Frees bytes) lets first = tt
    set_lets Drops lets first = tt
