use Rattle.std.proofs.Common.{◌≡◌, ℕ, true, false, sym, ap, ◌∙◌, subst, option_copied, Result, Ok, Err}
use Rattle.std.proofs.lemmas.Bool.{false≢true}
use Rattle.std.specs.Prelude.{OnErr, OnOk, is_ok}
use Rattle.std.specs.declared.alloc.AllocError.{AllocError}
use Rattle.messages.specs.declared.event.Event.{Event}
use Rattle.messages.specs.declared.outcome.Outcome.{Outcome}
use Rattle.cluster_core.specs.rule.Parts.{world_state}
use Rattle.cluster_core.specs.rule.Journals.{RunFields, GoesOn}
use Rattle.book.specs.rule.States.{SeatFields, StandingFields, standing_state, seat_state, StampFields, StepsTo}
use Rattle.book.specs.rule.Commits.{Commits, seen_at}
use Rattle.book.proofs.Committed.{committed, committed_reached}
use Rattle.book.specs.code.Copies.{AreReached, Noted}
use Rattle.book.proofs.book.Book.commit.Given.{Over}
use Rattle.book.proofs.book.Book.commit.Goals as goal

-- a fact of each good result holds where the result is good
where_ok : {P : Type 0} (r : Result (Unit {0}) AllocError) → is_ok r ≡ true → OnOk r P → P
where_ok (Ok done) is holds = holds
where_ok (Err why) is holds = absurd (false≢true is)

where_not_ok : {P : Type 0} (r : Result (Unit {0}) AllocError) → is_ok r ≡ false → OnErr r P → P
where_not_ok (Ok done) is holds = absurd (false≢true (sym is))
where_not_ok (Err why) is holds = holds

-- the facts of the commit
made : (g : Over) (c : goal.After-new g) → Commits c.self.inside.run c.args.seat.now c.args.prepared (seen_at (option_copied c.args.seen)) c.step_in.new.run c.stand_at.new.self c.new.result
made g c =
    let b = c.self.inside.run in
    let d = c.step_in.new.run in
    let s = c.args.seat.now in
    let r = c.step_in.new.self in
    let p = c.args.prepared in
    let t = c.new.result in
    let parts = c.into_parts-parts in
    let is = c.new.ensures in
    let position = ap (λ (x : StampFields). x.position) is ∙ c.len-2.ensures.value in
    let said = ap (λ (x : StampFields). x.event) is ∙ parts.ensures.told in
    let gave = ap (λ (x : StampFields). x.outcome) is ∙ parts.ensures.answer in
    let seen_is = ap (λ (x : StampFields). x.seen) is in
    let is_ok_there = sym c.map_err.ensures.variant ∙ ap is_ok c.in_ok-map_err.was in
    let went = subst (λ (e : Event). GoesOn b e d) parts.ensures.event (where_ok c.step_in.result is_ok_there c.step_in.ensures.ok) in
    let stepped = subst (λ (e : Event). StepsTo (seat_state s) e (seat_state r) parts.result.step.outcome) parts.ensures.event (where_ok c.step_in.result is_ok_there c.step_in.ensures.steps) in
    let step = subst (λ (o : Outcome). StepsTo (seat_state s) p.event (seat_state r) o) parts.ensures.outcome stepped in
    let commits = where_ok c.step_in.result is_ok_there c.step_in.ensures.commits in
    let at_mark : Commits b s p c.seen_of-seen.result d r t = committed b d s r p c.seen_of-seen.result t c.in_ok-accepts.ensures.tests went step commits position said gave seen_is in
    let seen : Commits b s p (seen_at (option_copied c.args.seen)) d r t = subst (λ (n : ℕ). Commits b s p n d r t) c.seen_of-seen.ensures at_mark in
    subst (λ (x : SeatFields). Commits b s p (seen_at (option_copied c.args.seen)) d x t) (sym c.stand_at.ensures) seen

pub returns-clause-outcome : goal.returns-clause-outcome
returns-clause-outcome g c = subst (λ (x : RunFields). Commits x c.args.seat.now c.args.prepared (seen_at (option_copied c.args.seen)) c.step_in.new.run c.stand_at.new.self c.new.result) c.self.view_is (made g c)

pub invariant_of-self : goal.invariant_of-self
invariant_of-self g c =
    let is_err_there = sym c.map_err.ensures.variant ∙ ap is_ok c.in_err-map_err.was in
    let unchanged = where_not_ok c.step_in.result is_err_there c.step_in.ensures.unchanged in
    subst (λ (r : RunFields). AreReached (world_state r.world) c.self.inside.spots) (sym unchanged.0) c.self.invariant

pub invariant_of-self-2 : goal.invariant_of-self-2
invariant_of-self-2 g c =
    let r = c.stand_at.new.self in
    let old = c.self.inside.spots in
    let new = c.note-spot.new.self in
    let standing : c.standing.result.now ≡ r.standing = c.standing.ensures ∙ sym (ap (λ (x : SeatFields). x.standing) c.stand_at.ensures) in
    let noted : Noted old (seat_state r) new = subst (λ (x : StandingFields). Noted old (standing_state x) new) standing c.note-spot.ensures.noted in
    committed_reached c.self.inside.run c.step_in.new.run c.args.seat.now r c.args.prepared (seen_at (option_copied c.args.seen)) c.new.result old new (made g c) c.self.invariant noted
