-- A call that no lock blocks, behind calls of which none is in the closed set.
use Rattle.std.specs.Prelude.{◌≢◌}
use Rattle.std.proofs.Common.{◌≡◌, ℕ, ◌⊎◌, inl, inr, ⊎_elim, true, List, Some, None, refl, sym, subst, arith}
use Rattle.intervals.specs.rule.Bytes.{Range}
use Rattle.model.specs.declared.mode.Mode.{Mode}
use Rattle.model.specs.declared.owner.Owner.{Owner}
use Rattle.model.specs.rule.Locks.{Locks, with_lock, without_owner}
use Rattle.client_history.specs.declared.act.Act.{Act}
use Rattle.client_history.specs.declared.act.Act.TheVariants.{Locks as Takes, IsDenied, IsFree as FindsFree, Frees, Drops}
use Rattle.client_history.specs.declared.client_call.ClientCall.{ClientCall}
use Rattle.client_history.specs.rule.Explained.{ActStep, the_file, Leads, IsOnce, IsAt}
use Rattle.client_history.specs.code.OpenCalls.{Calls, Changes, MeetsOther, MayComeBefore, IsUnbarred, IsMet, AreOpen}
use Rattle.client_history.specs.code.Moves.{AsksOnly, Releases, IsDeniedIn, Passes, NoneEnded, FollowsNone, AreOfOthers, OwnAskOnly, NoneDenied}
use Rattle.client_history.proofs.Denials.{some_denies}
use Rattle.client_history.proofs.Passed.{ArePassed}
use Rattle.client_history.proofs.Places.{call_of}
use Rattle.client_history.proofs.Releases.{passes_others}
use Rattle.client_history.proofs.TakenFirst.{passes_all}
use Rattle.client_history.proofs.OwnBytes.{asks_or_changes}

-- a denial that the locks explain only asks, and is allowed
denied_asks : (h : Locks) (q : Owner) (a : Act) → IsDeniedIn h q a → AsksOnly a × ActStep the_file h q a h
denied_asks h q (Takes mode span) is = absurd is
denied_asks h q (IsDenied mode span told) is = (tt, (is, refl))
denied_asks h q (FindsFree mode span) is = absurd is
denied_asks h q (Frees span) is = absurd is
denied_asks h q Drops is = absurd is

-- a change takes bytes, or gives back
takes_or_releases : (a : Act) → Changes a → ((mode : Mode) × (span : Range) × (a ≡ Takes mode span)) ⊎ Releases a
takes_or_releases (Takes mode span) changes = inl (mode, span, refl)
takes_or_releases (IsDenied mode span told) changes = absurd changes
takes_or_releases (FindsFree mode span) changes = absurd changes
takes_or_releases (Frees span) changes = inr tt
takes_or_releases Drops changes = inr tt

module _ (calls : List ClientCall) (h m u : Locks) (Left : Calls) (order : List ℕ) (way : Leads calls h order m) (p : Owner) where
  -- an act that no lock blocks, and before which none of the calls has to come, is a change that is allowed first
  may_be_first : (a : Act) → IsUnbarred h p a → ActStep the_file m p a u → (AsksOnly a → (next : Locks) → ActStep the_file h p a next → ⊥)
      → ((k : ℕ) (other : ClientCall) (at : IsAt calls order k other) → other.owner ≢ p → MeetsOther Left a at.index other.owner other.act → ⊥)
      → (next : Locks) × Changes a × ActStep the_file h p a next
  may_be_first (Takes mode span) free step unasked never = (with_lock h the_file p span (Some mode), tt, (free, refl))
  may_be_first (IsDenied mode span told) unbarred step unasked never =
      let made = some_denies mode span told calls h m order way p step.0 unbarred (λ is. unasked tt h (is, refl)) in
      absurd (never made.place made.call made.at made.other (made.denies, made.fits))
  may_be_first (FindsFree mode span) free step unasked never = absurd (unasked tt h (free, refl))
  may_be_first (Frees span) unbarred step unasked never = (with_lock h the_file p span None, tt, refl)
  may_be_first Drops unbarred step unasked never = (without_owner h the_file p, tt, refl)

module _ (calls : List ClientCall) (h m u : Locks) (Left : Calls) (Set : ℕ → Type 0) (order : List ℕ) (call : ClientCall) (passed : ArePassed calls h Left Set order) (way : Leads calls h order m) (met : IsMet h Left Set call) (step : ActStep the_file m call.owner call.act u) where
  -- none of the calls may have to come before the call
  never_before : (k : ℕ) (other : ClientCall) (at : IsAt calls order k other) → MayComeBefore Left call at.index other → ⊥
  never_before k other at may = passed.unchosen k other at (met.closed at.index other (passed.left k other at) may)

  pub met_step : (AsksOnly call.act → (next : Locks) → ActStep the_file h call.owner call.act next → ⊥) → (next : Locks) × Changes call.act × ActStep the_file h call.owner call.act next
  met_step unasked = may_be_first calls h m u Left order way call.owner call.act met.unbarred step unasked (λ k other at differ meets. never_before k other at (inr (differ, meets)))

  none_denied : NoneDenied calls order h
  none_denied k other at is = let asks = denied_asks h other.owner other.act is in passed.unasked k other at asks.0 h asks.1

  -- none of the calls ended before the call began
  pub none_ended : AreOpen calls Left → (i : ℕ) → Left i call → NoneEnded calls order call.begin
  none_ended are_open i left k other at ends =
      let late = are_open.beside i at.index call other left (passed.left k other at) ends.0 ends.1 in
      let early = ends.2 in
      absurd (omega arith)

  module _ (changes : Changes call.act) where
    -- if the call is an exit, none of the calls is of its owner
    pub of_others : call.is_last ≡ true → AreOfOthers calls order call.owner
    of_others last k other at same = never_before k other at (inl (sym same, changes, inl last))

    -- none of the calls is the one that the call follows
    pub follows_none : AreOpen calls Left → (i : ℕ) → Left i call → FollowsNone order call
    follows_none are_open i left first follows stands =
        let there = call_of calls h m order stands.0 first way stands.1 in
        let at : IsAt calls order stands.0 there.0 = record { index = first; at = stands.1; there = there.1 } in
        let half = are_open.halves i first call there.0 left (passed.left stands.0 there.0 at) follows in
        never_before stands.0 there.0 at (inl (half.0, changes, inr half.1))

    own_ask_only : OwnAskOnly calls order call.owner
    own_ask_only k other at same = ⊎_elim
        (λ asks. asks)
        (λ own. absurd (never_before k other at (inl (sym same, changes, inr own))))
        (asks_or_changes other.act)

    takes_pass : IsOnce order → (mode : Mode) (span : Range) → call.act ≡ Takes mode span → Passes calls h call order
    takes_pass once mode span takes = passes_all calls Left h m call.owner mode span order (record {
      first = subst (λ (a : Act). IsUnbarred h call.owner a) takes met.unbarred;
      last = (subst (λ (a : Act). ActStep the_file m call.owner a u) takes step).0;
      left = passed.left;
      clear = λ k other at differ barred. never_before k other at (inr (differ, subst (λ (a : Act). MeetsOther Left a at.index other.owner other.act) (sym takes) barred));
      own = own_ask_only;
      none = none_denied;
      once = once;
    }) call refl takes way

    -- the call passes them
    pub met_passes : IsOnce order → Passes calls h call order
    met_passes once = ⊎_elim
        (λ takes. takes_pass once takes.0 takes.1 takes.2)
        (λ releases. passes_others calls call releases h h order refl own_ask_only none_denied)
        (takes_or_releases call.act changes)
