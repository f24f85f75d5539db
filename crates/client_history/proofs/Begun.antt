-- The search where a call begins.
use Rattle.std.specs.Prelude.{IfSome}
use Rattle.std.proofs.Common.{◌≡◌, ℕ, ◌+◌, ◌<◌, ◌≤◌, ◌⊎◌, inl, inr, ⊎_elim, ◌↔◌, List, [], ◌∷◌, ◌++◌, length, slice_get, Option, Some, sym, ap, subst, ◌∙◌, arith}
use Rattle.std.proofs.lemmas.Bool.{cases_order}
use Rattle.std.proofs.lemmas.Option.{same_Some, slice_get_within}
use Rattle.model.specs.rule.Locks.{Locks}
use Rattle.lock_table.specs.rule.Tables.{held}
use Rattle.client_history.specs.declared.client_call.ClientCall.{ClientCall}
use Rattle.client_history.specs.declared.open_client_call.OpenClientCall.{OpenClientCall}
use Rattle.client_history.specs.declared.search_front.SearchFront.{SearchFront}
use Rattle.client_history.specs.declared.moment.Moment.{Moment}
use Rattle.client_history.specs.rule.Explained.{ActStep, the_file, Stands}
use Rattle.client_history.specs.code.Search.{IsAsked, IsPast, AreTimed, IsReached, GoesTo, AreSound, IsExitOf, AreOpenCalls, IsOn, IsCovered, AreAskedFor}
use Rattle.client_history.specs.code.Moves.{AreByTime, AsksOnly}
use Rattle.client_history.specs.code.OpenCalls.{IsIn, IsLeft, AreAsked}
use Rattle.client_history.proofs.AskLaws.{left_before}
use Rattle.client_history.proofs.AskedWays.{MayBeAsked, way_asked}
use Rattle.client_history.proofs.Orders.{last_place, get_one}
use Rattle.client_history.proofs.Places.{stands_first, stands_more, stands_cases}
use Rattle.client_history.proofs.Standing.{has_left, has_last, has_push}

module _ (begins : List Moment) (next : ℕ) (begun : List ℕ) (are : (i : ℕ) → Stands begun i ↔ IsPast begins next i) (moment : Moment) (at : slice_get begins next ≡ Some moment) (x : ℕ) (is : x ≡ moment.call) where
  -- one more call has begun
  begun_more : (i : ℕ) → Stands (x ∷ begun) i ↔ IsPast begins (next + 1) i
  begun_more i = (to, from)
    where
      to : Stands (x ∷ begun) i → IsPast begins (next + 1) i
      to s = ⊎_elim
          (λ e. (next, moment, omega arith, at, sym is ∙ sym e))
          (λ old. let was = (are i).0 old in let lt = was.2 in (was.0, was.1, omega arith, was.3, was.4))
          (stands_cases x begun i s)

      from : IsPast begins (next + 1) i → Stands (x ∷ begun) i
      from past = ⊎_elim
          (λ low. stands_more x begun i ((are i).1 (past.0, past.1, low, past.3, past.4)))
          (λ e. subst (Stands (x ∷ begun)) (is ∙ ap (λ (m : Moment). m.call) (get_one begins next past.0 moment past.1 (sym e) at past.3) ∙ past.4) (stands_first x begun))
          (last_place past.0 next past.2)

module _ (calls : List ClientCall) (begun over : List ℕ) (running : List OpenClientCall) (one : OpenClientCall) (opens : AreOpenCalls calls begun over running) (there : slice_get calls one.index ≡ Some one.call) (exits : IfSome one.exit (λ e. IsExitOf calls e one.call)) (stays : Stands over one.index → ⊥) (beside : (j end : ℕ) (b : ClientCall) → slice_get calls j ≡ Some b → (Stands over j → ⊥) → b.end ≡ Some end → one.call.begin ≤ end) where
  is_in_more : (i : ℕ) → IsIn running i → IsIn (running ++ one ∷ []) i
  is_in_more i is = let has = has_left running (one ∷ []) is.1 (is.0, is.2) in (has.0, is.1, has.1, is.3)

  -- the open calls with one more that begins
  opens_more : AreOpenCalls calls (one.index ∷ begun) over (running ++ one ∷ [])
  opens_more = record {
    there = λ k other at. ⊎_elim
        (λ old. opens.there old.0 other old.1)
        (λ e. subst (λ (o : OpenClientCall). slice_get calls o.index ≡ Some o.call) (sym e) there)
        (has_push running one other (k, at));
    exits = λ k exit other at is. ⊎_elim
        (λ old. opens.exits old.0 exit other old.1 is)
        (λ e. subst (λ (x : Option ℕ). IfSome x (λ i. IsExitOf calls i other.call)) is (subst (λ (o : OpenClientCall). IfSome o.exit (λ i. IsExitOf calls i o.call)) (sym e) exits))
        (has_push running one other (k, at));
    opened = λ k other at. ⊎_elim
        (λ old. let was = opens.opened old.0 other old.1 in (stands_more one.index begun other.index was.0, was.1))
        (λ e. subst (λ (o : OpenClientCall). Stands (one.index ∷ begun) o.index × (Stands over o.index → ⊥)) (sym e) (stands_first one.index begun, stays))
        (has_push running one other (k, at));
    known = λ i call s at. ⊎_elim
        (λ e. let last = has_last running one in inr (inr (last.0, one, last.1, sym e)))
        (λ old. ⊎_elim inl (λ more. inr (⊎_elim inl (λ is. inr (is_in_more i is)) more)) (opens.known i call old at))
        (stands_cases one.index begun i s);
    beside = λ i j end a b s at_a at_b not_over ends. ⊎_elim
        (λ e. rw (get_one calls i one.index a one.call e at_a there) (beside j end b at_b not_over ends))
        (λ old. opens.beside i j end a b old at_a at_b not_over ends)
        (stands_cases one.index begun i s);
  }

module _ (calls : List ClientCall) (begun over : List ℕ) (running : List OpenClientCall) (one : OpenClientCall) (sound : AreSound calls) (opens : AreOpenCalls calls begun over (running ++ one ∷ [])) (time : ℕ) where
  module _ (front next : SearchFront) (asks : IsAsked one front next) (on : IsOn calls over running time front.taken.items (held front.table)) where
    abbrev h : Locks
    h = held front.table

    added : (i : ℕ) → Stands next.taken.items i → Stands front.taken.items i ⊎ MayBeAsked (running ++ one ∷ []) h i
    added i s = let last = has_last running one in ⊎_elim inl (λ q. inr (last.0, one, last.1, q.0, q.1, q.2)) (asks.added i s)

    each_asked : AreAsked (running ++ one ∷ []) next.taken.items h
    each_asked k other at left only n step = ⊎_elim
        (λ old. on.asked old.0 other old.1 (left_before other front.taken.items next.taken.items asks.kept left) only n step)
        (λ e. asks.asked (subst (λ (o : OpenClientCall). IsLeft o next.taken.items) e left) (subst (λ (o : OpenClientCall). AsksOnly o.call.act) e only) n (subst (λ (o : OpenClientCall). ActStep the_file h o.call.owner o.call.act n) e step))
        (has_push running one other (k, at))

    -- a front that asked the new call is on a way
    on_asked : IsOn calls over (running ++ one ∷ []) time next.taken.items (held next.table)
    on_asked =
        let goes = way_asked calls begun over (running ++ one ∷ []) time front.taken.items next.taken.items h sound opens added asks.kept on.way on.rest on.is_way in
        subst (λ (l : Locks). IsOn calls over (running ++ one ∷ []) time next.taken.items l) (sym asks.locks) (record { way = goes.0; rest = goes.1; is_way = goes.2; asked = each_asked })

  -- after each front asked the call, the fronts cover what they covered
  covered_asked : (fronts more : List SearchFront) → AreAskedFor one fronts more → IsCovered calls over running time fronts → IsCovered calls over (running ++ one ∷ []) time more
  covered_asked fronts more each is =
      let asked = each is.place is.front is.there in
      record { place = is.place; front = asked.0; there = asked.1; is_on = on_asked is.front asked.0 asked.2 is.is_on }

module _ (calls : List ClientCall) (begins ends : List Moment) (next k : ℕ) (running : List OpenClientCall) (fronts : List SearchFront) (timed : AreTimed calls begins ends) (reached : IsReached calls begins ends next k running fronts) (moment : Moment) (at : slice_get begins next ≡ Some moment) (x : ℕ) (call : ClientCall) (is : x ≡ moment.call) (there : slice_get calls x ≡ Some call) where
  -- a call is not over before it begins
  not_over : Stands reached.over x → ⊥
  not_over s =
      let past = (reached.are_over x).0 s in
      let begin = timed.are_begins.each next moment at in
      let end = timed.are_ends.each past.0 past.1 past.3 in
      let same = get_one calls past.1.call moment.call end.0 begin.0 (past.4 ∙ is) end.1 begin.1 in
      let late = reached.apart next past.0 moment past.1 (omega arith) past.2 at past.3 in
      let early = begin.2.before_end past.1.time (subst (λ (c : ClientCall). c.end ≡ Some past.1.time) same end.2) in
      absurd (omega arith)

  -- a call does not begin after the end of one that is not over
  begins_beside : (end : Moment) → slice_get ends k ≡ Some end → moment.time ≤ end.time → (j e : ℕ) (b : ClientCall) → slice_get calls j ≡ Some b → (Stands reached.over j → ⊥) → b.end ≡ Some e → call.begin ≤ e
  begins_beside end at_end low j e b at_b stays is_end =
      let place = timed.are_ends.all j e b at_b is_end in
      let n = place.0 in
      let its = timed.are_ends.each n place.1 place.2 in
      let same = get_one calls place.1.call j its.0 b place.3 its.1 at_b in
      let times : place.1.time ≡ e = same_Some place.1.time e (sym its.2 ∙ ap (λ (c : ClientCall). c.end) same ∙ is_end) in
      let begin = timed.are_begins.each next moment at in
      let begun : call.begin ≤ moment.time = rw (get_one calls x moment.call call begin.0 is there begin.1) begin.2.begun in
      let behind : k ≤ n = ⊎_elim (λ eq. omega arith) (⊎_elim (λ lt. absurd (stays ((reached.are_over j).1 (n, place.1, lt, place.2, place.3)))) (λ lt. omega arith)) (cases_order n k) in
      let late = timed.are_ends.by_time k n end place.1 behind at_end place.2 in
      omega arith

module _ (time from : ℕ) (running0 : List OpenClientCall) (fronts0 : List SearchFront) where
  module _ (next : ℕ) (running : List OpenClientCall) (fronts : List SearchFront) (calls : List ClientCall) (begins : List Moment) (moment : Moment) (at : slice_get begins next ≡ Some moment) (goes : GoesTo time from running0 fronts0 next running fronts calls begins) where
    -- each begin is that of a call
    pub goes_not : length calls ≤ moment.call → GoesTo time from running0 fronts0 (next + 1) running fronts calls begins
    goes_not past = λ ends k end timed at_end same reached. let begin = timed.are_begins.each next moment at in let within = slice_get_within calls moment.call begin.0 begin.1 in absurd (omega arith)

    module _ (low : moment.time ≤ time) (one : OpenClientCall) (is : one.index ≡ moment.call) (there : slice_get calls moment.call ≡ Some one.call) (exits : IfSome one.exit (λ e. IsExitOf calls e one.call)) (more : List SearchFront) (asked : AreAskedFor one fronts more) where
      -- after a call has begun, and each front asked it, the search goes on
      pub goes_more : GoesTo time from running0 fronts0 (next + 1) (running ++ one ∷ []) more calls begins
      goes_more ends k end timed at_end same reached0 = record {
        begun = one.index ∷ reached.begun;
        over = reached.over;
        are_begun = begun_more begins next reached.begun reached.are_begun moment at one.index is;
        are_over = reached.are_over;
        opens = opens;
        covers = λ until order ended explains. covered_asked calls (one.index ∷ reached.begun) reached.over running one timed.sound opens until fronts more asked (reached.covers until order ended explains);
        apart = λ m j a b le lt at_a at_b. reached.apart m j a b (omega arith) lt at_a at_b;
        early = λ m j a b lt le at_a at_b. ⊎_elim
            (λ before. reached.early m j a b before le at_a at_b)
            (λ e. let late = timed.are_ends.by_time k j end b le at_end at_b in let its : a ≡ moment = get_one begins m next a moment e at_a at in rw its (omega arith))
            (last_place m next lt);
      }
        where
          reached : IsReached calls begins ends next k running fronts
          reached = goes ends k end timed at_end same reached0

          within : slice_get calls one.index ≡ Some one.call
          within = ap (slice_get calls) is ∙ there

          opens : AreOpenCalls calls (one.index ∷ reached.begun) reached.over (running ++ one ∷ [])
          opens = opens_more calls reached.begun reached.over running one reached.opens within exits
              (not_over calls begins ends next k running fronts timed reached moment at one.index one.call is within)
              (begins_beside calls begins ends next k running fronts timed reached moment at one.index one.call is within end at_end (omega arith))

-- moments behind one that is later than a time are later than it
pub later_behind : (moments : List Moment) (time n : ℕ) (moment : Moment) → slice_get moments n ≡ Some moment → time < moment.time → AreByTime moments → (k : ℕ) (other : Moment) → n ≤ k → slice_get moments k ≡ Some other → time < other.time
later_behind moments time n moment at late by_time k other le at_other = let up = by_time n k moment other le at at_other in omega arith

-- behind the end of the list there is no moment
pub later_past : (moments : List Moment) (time n : ℕ) → length moments ≤ n → AreByTime moments → (k : ℕ) (other : Moment) → n ≤ k → slice_get moments k ≡ Some other → time < other.time
later_past moments time n past by_time k other le at_other = let within = slice_get_within moments k other at_other in absurd (omega arith)
