-- How far the search has come behind the end of a call.
use Rattle.std.specs.Prelude.{◌↔◌}
use Rattle.std.proofs.Common.{◌≡◌, ℕ, ◌+◌, ◌<◌, ◌≤◌, inl, inr, ⊎_elim, true, List, [], ◌∷◌, ◌++◌, length, take, drop, slice_get, Some, refl, sym, ap, subst, ◌∙◌, arith}
use Rattle.std.proofs.lemmas.Bool.{cases_lt}
use Rattle.std.proofs.lemmas.List.{drop_all, take_all, append-nil}
use Rattle.std.proofs.lemmas.Option.{none-some, slice_get_within}
use Rattle.model.specs.rule.Locks.{Locks, no_locks}
use Rattle.lock_table.specs.rule.Tables.{held}
use Rattle.client_history.specs.declared.client_call.ClientCall.{ClientCall}
use Rattle.client_history.specs.declared.open_client_call.OpenClientCall.{OpenClientCall}
use Rattle.client_history.specs.declared.search_front.SearchFront.{SearchFront}
use Rattle.client_history.specs.declared.moment.Moment.{Moment}
use Rattle.client_history.specs.code.Search.{AreOver, AreWithout, HasForgotten, AreForgotten, IsPast, AreTimed, IsReached, GoesTo, GoesPast, AreOpenCalls, IsWay, IsCovered, IsEnding, AreSettled}
use Rattle.client_history.specs.rule.Explained.{EndedBy, Stands, IsExplainedBy, IsUnexplainedFrom}
use Rattle.client_history.specs.code.Moves.{AreByTime, IsBehindAnother, IsBeginOf}
use Rattle.client_history.specs.code.OpenCalls.{IsIn, AreAsked}
use Rattle.client_history.proofs.Closings.{AreGone, AreTakenStill, AreOpenStill, gone_by_exits, open_closed, way_closed, asked_closed}
use Rattle.client_history.proofs.Orders.{last_place, get_one}
use Rattle.client_history.proofs.Places.{call_of, stands_first, stands_more, stands_cases}

module _ (calls : List ClientCall) (begins ends : List Moment) (timed : AreTimed calls begins ends) (p k : ℕ) (end : Moment) (at_end : slice_get ends k ≡ Some end) (later : (m : ℕ) (moment : Moment) → p ≤ m → slice_get begins m ≡ Some moment → end.time < moment.time) where
  abbrev call_x : ClientCall
  call_x = (timed.are_ends.each k end at_end).0

  abbrev there_x : slice_get calls end.call ≡ Some call_x
  there_x = (timed.are_ends.each k end at_end).1

  abbrev ends_x : call_x.end ≡ Some end.time
  ends_x = (timed.are_ends.each k end at_end).2

  -- a call that begins no later than the end is among the begins so far
  begun_no_later : (i : ℕ) (call : ClientCall) → slice_get calls i ≡ Some call → ((time : ℕ) → IsBeginOf calls call time → time ≤ end.time) → IsPast begins p i
  begun_no_later i call there low =
      let begin = timed.are_begins.all i call there in
      let each = timed.are_begins.each begin.0 begin.1 begin.2 in
      let same : each.0 ≡ call = get_one calls begin.1.call i each.0 call begin.3 each.1 there in
      let no_later = low begin.1.time (subst (λ (c : ClientCall). IsBeginOf calls c begin.1.time) same each.2) in
      ⊎_elim (λ lt. (begin.0, begin.1, lt, begin.2, begin.3)) (λ past. let more = later begin.0 begin.1 past begin.2 in absurd (omega arith)) (cases_lt begin.0 p)

  module _ (time : ℕ) (order : List ℕ) (whole : IsExplainedBy time calls order) (j n i : ℕ) (low : j ≤ n) (at_x : slice_get order n ≡ Some end.call) (at : slice_get order j ≡ Some i) where
    found : (call : ClientCall) × (slice_get calls i ≡ Some call)
    found = call_of calls no_locks whole.legal.0 order j i whole.legal.1 at

    -- a call that stands no later than the one that ends began before that end
    no_later : (l other : ℕ) (call : ClientCall) → l ≤ n → slice_get order l ≡ Some other → slice_get calls other ≡ Some call → call.begin ≤ end.time
    no_later l other call le here there = ⊎_elim
        (λ lt. ⊎_elim
        (λ late. absurd (whole.in_time l n call call_x lt (record { index = other; at = here; there = there }) (record { index = end.call; at = at_x; there = there_x }) (end.time, ends_x, late)))
        (λ early. early)
        (cases_lt end.time call.begin))
        (λ past.
        let e : l ≡ n = omega arith in
        let one : call ≡ call_x = get_one calls other end.call call call_x (get_one order l n other end.call e here at_x) there there_x in
        subst (λ (c : ClientCall). c.begin ≤ end.time) (sym one) ((timed.sound end.call call_x there_x).ordered end.time ends_x))
        (cases_lt l n)

    behind_another : found.0.is_last ≡ true → (at_time : ℕ) → IsBehindAnother calls found.0 at_time → at_time ≤ end.time
    behind_another is_last at_time is =
        let stands = whole.whole j is.index found.0 is.other (record { index = i; at = at; there = found.1 }) is_last is.there is.own is.answered in
        let late = is.late in
        let first : stands.0 ≤ j = ⊎_elim
        (λ lt. absurd (whole.last j stands.0 found.0 is.other lt (record { index = i; at = at; there = found.1 }) (record { index = is.index; at = stands.1; there = is.there }) is_last is.own))
        (λ le. le)
        (cases_lt j stands.0) in
        let early = no_later stands.0 is.index is.other (omega arith) stands.1 is.there in
        omega arith

    -- a call that stands no later than the one that ends is among the begins so far
    pub begun_by_end : IsPast begins p i
    begun_by_end = begun_no_later i found.0 found.1 (λ at_time is. ⊎_elim
        (λ e. let early = no_later j i found.0 low at found.1 in omega arith)
        (λ another. behind_another another.0 at_time another.1)
        is.latest)

  module _ (running : List OpenClientCall) (fronts : List SearchFront) (reached : IsReached calls begins ends p k running fronts) where
    over_is : (i : ℕ) → Stands (end.call ∷ reached.over) i ↔ IsPast ends (k + 1) i
    over_is i = (
      (λ s. ⊎_elim
          (λ e. (k, end, omega arith, at_end, sym e))
          (λ old. let was = (reached.are_over i).0 old in let lt = was.2 in (was.0, was.1, omega arith, was.3, was.4))
          (stands_cases end.call reached.over i s)),
      (λ past. ⊎_elim
          (λ lt. stands_more end.call reached.over i ((reached.are_over i).1 (past.0, past.1, lt, past.3, past.4)))
          (λ e. subst (λ (n : ℕ). Stands (end.call ∷ reached.over) n) (ap (λ (m : Moment). m.call) (get_one ends k past.0 end past.1 (sym e) at_end past.3) ∙ past.4) (stands_first end.call reached.over))
          (last_place past.0 k past.2)),
    )

    -- the call was not over before
    not_over : Stands reached.over end.call → ⊥
    not_over s =
        let past = (reached.are_over end.call).0 s in
        let e = timed.are_ends.once past.0 k past.1 end past.3 at_end past.4 in
        let lt = past.2 in
        absurd (omega arith)

    -- the call that ends is open
    is_open : IsIn running end.call
    is_open = ⊎_elim
        (λ past. absurd (not_over past))
        (λ other. ⊎_elim (λ d. absurd (none-some end.time (sym d.silent ∙ ends_x))) (λ found. found) other)
        (reached.opens.known end.call call_x ((reached.are_begun end.call).1 (begun_no_later end.call call_x there_x (λ time is. is.before_end end.time ends_x))) there_x)

    module _ (settled more : List SearchFront) (over : List ℕ) (still : List OpenClientCall) (settles : AreSettled running end.call fronts settled) (is_over : AreOver running end.call over) (without : AreWithout running over still) (forgot : AreForgotten over settled more) where
      gone : AreGone calls running end.call call_x over
      gone = gone_by_exits calls reached.begun reached.over running reached.opens end.call call_x there_x over
          (subst (λ (n : ℕ). Stands over n) is_open.3 (is_over.all is_open.0 is_open.1 is_open.2 (inl is_open.3)))
          (λ i s. let one = is_over.each i s in ⊎_elim (λ e. inl (sym one.3 ∙ e)) (λ exit. inr (one.0, one.1, one.2, one.3, exit.0, exit.1)) one.4)
          (λ n one at exit silent. is_over.all n one at (inr (exit, silent)))

      are_still : AreOpenStill running over still
      are_still = record { was = λ n one at. let was = without.each n one at in (was.0.0, was.0.1, was.1); is = without.all }

      opens : AreOpenCalls calls reached.begun (end.call ∷ reached.over) still
      opens = open_closed calls reached.begun reached.over running reached.opens end.call call_x there_x over gone still are_still

      module _ (time : ℕ) (order : List ℕ) (ended : (i : ℕ) (call : ClientCall) → Stands (end.call ∷ reached.over) i → slice_get calls i ≡ Some call → EndedBy time call) (whole : IsExplainedBy time calls order) where
        ending : IsEnding calls reached.begun reached.over running time end.call
        ending = record {
          sound = timed.sound;
          opens = reached.opens;
          call = call_x;
          there = there_x;
          ends = ended end.call call_x (stands_first end.call reached.over) there_x;
          stays = not_over;
          begun_by = λ order whole j n i le at_x at. (reached.are_begun i).1 (begun_by_end time order whole j n i le at_x at);
        }

        covered : IsCovered calls reached.over running time settled
        covered = settles.covered calls reached.begun reached.over time ending (reached.covers time order (λ i call s there. ended i call (stands_more end.call reached.over i s) there) whole)

        next : (next : SearchFront) × (slice_get more covered.place ≡ Some next) × HasForgotten over covered.front next
        next = forgot covered.place covered.front covered.there

        took : Stands covered.front.taken.items end.call
        took = settles.taken covered.place covered.front covered.there

        takes : AreTakenStill covered.front.taken.items over next.0.taken.items
        takes = record { was = λ i s. (next.2.taken i).0 s; is = λ i s stays. (next.2.taken i).1 (s, stays) }

        closes : IsWay calls (end.call ∷ reached.over) time next.0.taken.items (held covered.front.table) covered.is_on.way covered.is_on.rest
        closes = way_closed calls reached.begun reached.over running reached.opens end.call call_x there_x over gone timed.sound time covered.front.taken.items (held covered.front.table) covered.is_on.way covered.is_on.rest covered.is_on.is_way (ended end.call call_x (stands_first end.call reached.over) there_x) took next.0.taken.items takes

        asked : AreAsked still next.0.taken.items (held covered.front.table)
        asked = asked_closed calls reached.begun reached.over running reached.opens end.call call_x there_x over gone timed.sound time covered.front.taken.items (held covered.front.table) covered.is_on.way covered.is_on.rest covered.is_on.is_way (ended end.call call_x (stands_first end.call reached.over) there_x) took next.0.taken.items takes covered.is_on.asked still are_still

        covered_still : IsCovered calls (end.call ∷ reached.over) still time more
        covered_still = record {
          place = covered.place;
          front = next.0;
          there = next.1;
          is_on = record {
            way = covered.is_on.way;
            rest = covered.is_on.rest;
            is_way = subst (λ (l : Locks). IsWay calls (end.call ∷ reached.over) time next.0.taken.items l covered.is_on.way covered.is_on.rest) (sym next.2.locks) closes;
            asked = subst (λ (l : Locks). AreAsked still next.0.taken.items l) (sym next.2.locks) asked;
          };
        }

      -- the search has come behind the end
      pub goes_past_end : IsReached calls begins ends p (k + 1) still more
      goes_past_end = record {
        begun = reached.begun;
        over = end.call ∷ reached.over;
        are_begun = reached.are_begun;
        are_over = over_is;
        opens = opens;
        covers = λ time order ended whole. covered_still time order ended whole;
        apart = λ m j a b le lt at_m at_j. ⊎_elim (λ below. reached.apart m j a b le below at_m at_j) (λ e. subst (λ (n : Moment). n.time < a.time) (sym (get_one ends j k b end e at_j at_end)) (later m a le at_m)) (last_place j k lt);
        early = λ m j a b lt le. reached.early m j a b lt (omega arith);
      }

-- after the fronts went on and the calls that are over were dropped, the search has come behind the end
pub goes_past : (x : ℕ) (running : List OpenClientCall) (fronts settled more : List SearchFront) (over : List ℕ) (still : List OpenClientCall) → AreSettled running x fronts settled → AreOver running x over → AreWithout running over still → AreForgotten over settled more → GoesPast x running fronts still more
goes_past x running fronts settled more over still settles is_over without forgot calls begins ends p k end timed at same later reached =
    goes_past_end calls begins ends timed p k end at later running fronts reached settled more over still
    (subst (λ (n : ℕ). AreSettled running n fronts settled) (sym same) settles)
    (subst (λ (n : ℕ). AreOver running n over) (sym same) is_over)
    without
    forgot

-- a slice that is written back whole is what its vector has
pub written_back : {X : Type 0} (xs ys : List X) (n : ℕ) → length xs ≡ length ys → n ≡ length ys → take n (xs ++ drop (length xs) ys) ≡ xs
written_back {X = X} xs ys n long is =
    ap (λ (m : ℕ). take n (xs ++ drop m ys)) long ∙ ap (λ (zs : List X). take n (xs ++ zs)) (drop_all (length ys) ys (omega arith)) ∙ ap (take n) (append-nil xs) ∙ ap (λ (m : ℕ). take m xs) (is ∙ sym long) ∙ take_all (length xs) xs (omega arith)

module _ (calls : List ClientCall) (begins ends : List Moment) where
  -- before all calls the one front has no lock
  pub reached_first : (fronts : List SearchFront) (front : SearchFront) → fronts ≡ front ∷ [] → held front.table ≡ no_locks → front.taken.items ≡ [] → IsReached calls begins ends 0 0 [] fronts
  reached_first fronts front are locks taken = record {
    begun = [];
    over = [];
    are_begun = λ i. ((λ s. absurd (none-some i s.1)), (λ past. let lt = past.2 in absurd (omega arith)));
    are_over = λ i. ((λ s. absurd (none-some i s.1)), (λ past. let lt = past.2 in absurd (omega arith)));
    opens = record {
      there = λ k one at. absurd (none-some one at);
      exits = λ k exit one at. absurd (none-some one at);
      opened = λ k one at. absurd (none-some one at);
      known = λ i call s. absurd (none-some i s.1);
      beside = λ i j end a b s. absurd (none-some i s.1);
    };
    covers = λ time order ended whole. record {
      place = 0;
      front = front;
      there = ap (λ (fs : List SearchFront). slice_get fs 0) are;
      is_on = record {
        way = [];
        rest = order;
        is_way = record {
          explains = whole;
          leads = sym locks;
          ended = λ i s. absurd (none-some i s.1);
          noted = λ i call s. absurd (none-some i s.1);
          fresh = λ i left s. none-some i (subst (λ (l : List ℕ). Stands l i) taken s).1;
          changed = λ i call s. absurd (none-some i (subst (λ (l : List ℕ). Stands l i) taken s).1);
        };
        asked = λ k one at. absurd (none-some one at);
      };
    };
    apart = λ m j a b le lt. absurd (omega arith);
    early = λ m j a b lt. absurd (omega arith);
  }

  -- where no front is left behind the end of a call, no order explains the calls up to it
  pub unexplained : AreTimed calls begins ends → (p k : ℕ) (end : Moment) → slice_get ends k ≡ Some end → (running : List OpenClientCall) (fronts : List SearchFront) → length fronts ≡ 0 → IsReached calls begins ends p (k + 1) running fronts → IsUnexplainedFrom calls end.call
  unexplained timed p k end at running fronts none reached =
      let each = timed.are_ends.each k end at in
      record {
        call = each.0;
        there = each.1;
        end = end.time;
        ends = each.2;
        timed = (timed.sound end.call each.0 each.1).timed end.time each.2;
        none = λ time order le whole.
            let is = reached.covers time order (λ i call s there. ended time le i call ((reached.are_over i).0 s) there) whole in
            let within = slice_get_within fronts is.place is.front is.there in absurd (omega arith);
      }
    where
      ended : (time : ℕ) → end.time ≤ time → (i : ℕ) (call : ClientCall) → IsPast ends (k + 1) i → slice_get calls i ≡ Some call → EndedBy time call
      ended time le i call past there =
          let each = timed.are_ends.each past.0 past.1 past.3 in
          let same = get_one calls past.1.call i each.0 call past.4 each.1 there in
          let lt = past.2 in
          let early = timed.are_ends.by_time past.0 k past.1 end (omega arith) past.3 at in
          (past.1.time, ap (λ (c : ClientCall). c.end) (sym same) ∙ each.2, omega arith)

  -- behind the begins up to an end, and that end, the search has come there
  pub reached_next : AreTimed calls begins ends → (p q k : ℕ) (end : Moment) → slice_get ends k ≡ Some end → (running opened still : List OpenClientCall) (fronts begun given more : List SearchFront) → IsReached calls begins ends p k running fronts → GoesTo end.time p running fronts q opened begun calls begins
      → (AreByTime begins → (m : ℕ) (moment : Moment) → q ≤ m → slice_get begins m ≡ Some moment → end.time < moment.time) → given ≡ begun → GoesPast end.call opened given still more → IsReached calls begins ends q (k + 1) still more
  reached_next timed p q k end at running opened still fronts begun given more reached to later same past =
      past calls begins ends q k end timed at refl (later timed.are_begins.by_time) (subst (λ (fs : List SearchFront). IsReached calls begins ends q k opened fs) (sym same) (to ends k end timed at refl reached))
