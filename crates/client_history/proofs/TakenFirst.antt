-- A lock that is taken first, before other calls.
use Rattle.std.specs.Prelude.{◌≢◌}
use Rattle.std.proofs.Common.{◌≡◌, ℕ, ◌+◌, ◌≤◌, inl, inr, ⊎_elim, true, List, [], ◌∷◌, ◌++◌, length, slice_get, Option, Some, refl, sym, ap, subst, ◌∙◌, append_assoc, arith}
use Rattle.std.proofs.lemmas.Bool.{cases_Bool, false≢true, false_from_ne_true}
use Rattle.std.proofs.lemmas.Option.{slice_get_within}
use Rattle.intervals.specs.rule.Bytes.{Range}
use Rattle.model.specs.declared.mode.Mode.{Mode}
use Rattle.model.specs.declared.mode.Mode.TheVariants.{Read, Write}
use Rattle.model.specs.declared.owner.Owner.{Owner}
use Rattle.model.specs.rule.Locks.{Locks, IsFree, bars, excludes, with_lock}
use Rattle.client_history.specs.declared.act.Act.{Act}
use Rattle.client_history.specs.declared.act.Act.TheVariants.{Locks as Takes, IsDenied, IsFree as FindsFree, Frees, Drops}
use Rattle.client_history.specs.declared.client_call.ClientCall.{ClientCall}
use Rattle.client_history.specs.rule.Explained.{ActStep, the_file, Leads, IsOnce, IsAt}
use Rattle.client_history.specs.code.OpenCalls.{Calls, HasRival, IsBarred}
use Rattle.client_history.specs.code.Moves.{AsksOnly, IsDeniedIn, LetsBefore, MayPass, Passes, OwnAskOnly, NoneDenied}
use Rattle.client_history.proofs.Exchange.{get_left, get_right}
use Rattle.client_history.proofs.MoveLaws.{in_both}
use Rattle.client_history.proofs.Orders.{get_one}
use Rattle.client_history.proofs.OwnQuestions.{leaves_same}
use Rattle.client_history.proofs.Releases.{denied_by_other}
use Rattle.client_history.proofs.Steps.{leads_join, step_is_one}
use Rattle.client_history.proofs.OwnBytes.{ChangesOwn, IsDone, TakesByte, BarsByte, changed_or_same, some_bars}

exclude_both : (a b : Mode) → excludes a b ≡ true → excludes b a ≡ true
exclude_both Read Read e = e
exclude_both Read Write e = e
exclude_both Write Read e = e
exclude_both Write Write e = e

module _ (Left : Calls) (mode : Mode) (span : Range) (i : ℕ) (q : Owner) where
  -- a call that takes a byte of the span is barred, if its owner has another change
  taken_is_barred : (b : ℕ) (a : Act) → span.lo ≤ b → b ≤ span.hi → TakesByte mode b a → HasRival Left i q → IsBarred Left mode span i q a
  taken_is_barred b (Takes asked bytes) low high takes rival = let meets = in_both bytes span b takes.0 low high in ((meets.1, meets.0), exclude_both asked mode takes.1, rival)
  taken_is_barred b (IsDenied asked bytes named) low high takes rival = absurd takes
  taken_is_barred b (FindsFree asked bytes) low high takes rival = absurd takes
  taken_is_barred b (Frees bytes) low high takes rival = absurd takes
  taken_is_barred b Drops low high takes rival = absurd takes

  -- an act that is not barred, and no denial that was none before, lets the lock before it
  lets_take : (h k n : Locks) (p : Owner) (b : Act) → k the_file p ≡ h the_file p → (IsBarred Left mode span i q b → ⊥) → (IsDeniedIn h q b → ⊥) → ActStep the_file k q b n → LetsBefore k p (Takes mode span) q b
  lets_take h k n p (Takes asked bytes) same clear never step = tt
  lets_take h k n p (IsDenied asked bytes told) same clear never step = denied_by_other h k p q same asked bytes told never step.0
  lets_take h k n p (FindsFree asked bytes) same clear never step = ⊎_elim
      (λ excluded. inr (λ meets. clear (meets, excluded)))
      (λ lets. inl lets)
      (cases_Bool (excludes mode asked))
  lets_take h k n p (Frees bytes) same clear never step = tt
  lets_take h k n p Drops same clear never step = tt

-- a lock that is free at both ends of a way, and bars none of its calls
pub record MayTake (calls : List ClientCall) (Left : Calls) (h m : Locks) (p : Owner) (mode : Mode) (span : Range) (order : List ℕ) : Type 0 where
  pub first : IsFree (h the_file) p span mode
  pub last : IsFree (m the_file) p span mode
  pub left : (k : ℕ) (call : ClientCall) (at : IsAt calls order k call) → Left at.index call
  pub clear : (k : ℕ) (call : ClientCall) (at : IsAt calls order k call) → call.owner ≢ p → IsBarred Left mode span at.index call.owner call.act → ⊥
  pub own : OwnAskOnly calls order p
  pub none : NoneDenied calls order h
  pub once : IsOnce order

module _ (calls : List ClientCall) (Left : Calls) (h m : Locks) (p : Owner) (mode : Mode) (span : Range) (order : List ℕ) (may : MayTake calls Left h m p mode span order) where
  module _ (k : Locks) (done rest : List ℕ) (split : order ≡ done ++ rest) (before : Leads calls h done k) (behind : Leads calls k rest m) where
    abbrev at_done : (j : ℕ) (call : ClientCall) → IsAt calls done j call → IsAt calls order j call
    at_done j call at = record { index = at.index; at = subst (λ (xs : List ℕ). slice_get xs j ≡ Some at.index) (sym split) (get_left done rest j at.index at.at); there = at.there }

    abbrev at_rest : (j : ℕ) (call : ClientCall) → IsAt calls rest j call → IsAt calls order (length done + j) call
    at_rest j call at = record { index = at.index; at = subst (λ (xs : List ℕ). slice_get xs (length done + j) ≡ Some at.index) (sym split) (get_right done rest (length done + j) j at.index refl at.at); there = at.there }

    -- an owner that took a byte has another change, by which it gives the byte back
    rival : (q : Owner) (b : ℕ) (took : IsDone calls done (BarsByte q mode b)) (gave : IsDone calls rest (ChangesOwn q)) → HasRival Left took.at.index took.call.owner
    rival q b took gave = record {
      index = gave.at.index;
      call = gave.call;
      left = may.left (length done + gave.place) gave.call (at_rest gave.place gave.call gave.at);
      other = λ e.
          let low = slice_get_within done took.place took.at.index took.at.at in
          let one : took.place ≡ length done + gave.place = may.once took.place (length done + gave.place) took.at.index (at_done took.place took.call took.at).at ((at_rest gave.place gave.call gave.at).at ∙ ap Some e) in
          absurd (omega arith);
      own = gave.does.0 ∙ sym took.does.0;
      changes = gave.does.1;
    }

    -- the lock is free at each table on the way
    free_at : IsFree (k the_file) p span mode
    free_at q b other low high = false_from_ne_true (bars mode (k the_file q b)) (λ shut.
        let took = some_bars q mode b calls h k done before (may.first q b other low high) shut in
        ⊎_elim
        (λ gave. may.clear took.place took.call (at_done took.place took.call took.at) (λ e. other (sym took.does.0 ∙ e)) (taken_is_barred Left mode span took.at.index took.call.owner b took.call.act low high took.does.1 (rival q b took gave)))
        (λ same. false≢true (sym (may.last q b other low high) ∙ ap (λ (f : ℕ → Option Mode). bars mode (f b)) same ∙ shut))
        (changed_or_same calls q k m rest behind))

  module _ (call : ClientCall) (is_own : call.owner ≡ p) (takes : call.act ≡ Takes mode span) where
    -- the call passes the rest of the way
    passes_from : (k : Locks) (done rest : List ℕ) → order ≡ done ++ rest → Leads calls h done k → Leads calls k rest m → k the_file p ≡ h the_file p → Passes calls k call rest
    passes_from k done [] split before behind same = tt
    passes_from k done (i ∷ is) split before behind same =
        let free = free_at k done (i ∷ is) split before behind in (
          with_lock k the_file p span (Some mode),
          subst (λ (a : Act). ActStep the_file k call.owner a (with_lock k the_file p span (Some mode))) (sym takes) (subst (λ (o : Owner). ActStep the_file k o (Takes mode span) (with_lock k the_file p span (Some mode))) (sym is_own) (free, refl)),
          λ other n there did.
              let at : IsAt calls order (length done + 0) other = at_rest k done (i ∷ is) split before behind 0 other (record { index = i; at = refl; there = there }) in
              let asks : p ≡ other.owner → AsksOnly other.act = may.own (length done + 0) other at in
              let lets : p ≢ other.owner → LetsBefore k p (Takes mode span) other.owner other.act = λ differ. lets_take Left mode span i other.owner h k n p other.act same (may.clear (length done + 0) other at (λ e. differ (sym e))) (may.none (length done + 0) other at) did in
              let is_other : behind.0 ≡ other = get_one calls i i behind.0 other refl behind.2 there in
              let is_next : behind.1 ≡ n = step_is_one k behind.1 n other.owner other.act (subst (λ (c : ClientCall). ActStep the_file k c.owner c.act behind.1) is_other behind.3) did in (
                subst (λ (a : Act). MayPass k call.owner a other.owner other.act) (sym takes) (subst (λ (o : Owner). MayPass k o (Takes mode span) other.owner other.act) (sym is_own) (asks, lets)),
                passes_from n
                    (done ++ (i ∷ []))
                    is
                    (split ∙ sym (append_assoc done (i ∷ []) is))
                    (leads_join calls h k n done (i ∷ []) before (other, n, there, did, refl))
                    (subst (λ (l : Locks). Leads calls l is m) is_next behind.4)
                    (leaves_same k n p other.owner other.act asks did ∙ same),
              ),
        )

    -- the call passes all of them
    pub passes_all : Leads calls h order m → Passes calls h call order
    passes_all leads = passes_from h [] order refl refl leads refl
