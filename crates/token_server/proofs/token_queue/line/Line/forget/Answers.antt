use Rattle.std.specs.Prelude.{◌≡◌, ◌<◌, ℕ, List, Option, Some, None, length}
use Rattle.std.proofs.Common.{ap, subst, sym, ◌∙◌, get_or, arith}
use Rattle.std.proofs.lemmas.List.{get_or_default}
use Rattle.token_server.specs.declared.token_queue.token_request.TokenRequest.{TokenRequest}
use Rattle.token_server.specs.code.Admissions.{request_at}
use Rattle.token_server.proofs.LineLaws.{IsForgotten, IsForgotten-start, IsForgotten-taken, IsForgotten-stays, IsForgotten-none}
use Rattle.token_server.proofs.token_queue.line.Line.forget.Goals.{in-Some-as_slice+then-is_up_to, in-Some-as_slice+else-is_up_to, in_default-as_slice}
use Rattle.token_server.proofs.token_queue.line.Line.forget.Goals as goal

pub loop-place-init : goal.loop-place-init
loop-place-init c =
    subst (λ (slots : List (Option TokenRequest)). IsForgotten c.in-Some.node c.in-Some.incarnation c.args.self.now (length slots) c.self.inside.slots c.self.inside.front c.self.inside.front) (sym c.as_slice-place-end.ensures)
    (IsForgotten-start c.in-Some.node c.in-Some.incarnation c.args.self.now c.self.inside.slots c.self.inside.front c.self.invariant c.self.view_is)

-- a read at a place within the slots gives that slot
read : (shown slots : List (Option TokenRequest)) (place : ℕ) (d x : Option TokenRequest) → shown ≡ slots → place < length slots → get_or shown place d ≡ x → request_at slots place ≡ x
read shown slots place d x same low is = get_or_default slots place None d low ∙ ap (λ s. get_or s place d) (sym same) ∙ is

pub loop-place-preserved : goal.loop-place-preserved
loop-place-preserved c =
    let node = c.in-Some.node in
    let incarnation = c.in-Some.incarnation in
    let count = length c.as_slice-place-end.result.now in
    let now = c.loop-place.self-inside.slots in
    let front = c.loop-place.self-inside.front in
    let place = c.loop-place.place in
    let so_far = c.loop-place.invariant in
    let low : place < length now.slots = omega (arith, so_far.slot_count, c.loop-place-test.true) in
    elim c.match-as_slice-place.branch [
      | in-Some-as_slice+then-is_up_to w ↦ rw w.self-inside-is
          (IsForgotten-taken node incarnation c.args.self.now count now front place c.loop-place-test.true so_far w.in-Some-as_slice.request w.take_out.new.self
          (read c.as_slice.result.now now.slots place _ (Some w.in-Some-as_slice.request) c.as_slice.ensures low w.in-Some-as_slice.is)
          (sym w.is_up_to.ensures ∙ w.if-is_up_to.true) w.take_out.ensures.slots w.take_out.ensures.room)
      | in-Some-as_slice+else-is_up_to w ↦ rw w.self-inside-is
          (IsForgotten-stays node incarnation c.args.self.now count now front place c.loop-place-test.true so_far w.in-Some-as_slice.request
          (read c.as_slice.result.now now.slots place _ (Some w.in-Some-as_slice.request) c.as_slice.ensures low w.in-Some-as_slice.is) (sym w.is_up_to.ensures ∙ w.if-is_up_to.false))
      | in_default-as_slice w ↦ rw w.self-inside-is
          (IsForgotten-none node incarnation c.args.self.now count now front place c.loop-place-test.true so_far
          (read c.as_slice.result.now now.slots place _ None c.as_slice.ensures low w.in_default-as_slice.is))
    ]
