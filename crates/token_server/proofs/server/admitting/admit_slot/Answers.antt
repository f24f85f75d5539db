use Rattle.std.specs.Prelude.{◌≡◌, ◌+◌, List, [], ◌∷◌, ◌++◌, take, Option, Some, None}
use Rattle.std.proofs.Common.{sym, ap, subst, ◌∙◌}
use Rattle.std.proofs.lemmas.List.{get_or_read}
use Rattle.token_server.specs.declared.token_queue.token_request.TokenRequest.{TokenRequest}
use Rattle.token_server.specs.code.Admissions.{request_at, IsAdmitted}
use Rattle.token_server.specs.code.Edits.{served_on, left_in}
use Rattle.token_server.proofs.ComesLaws.{without-nil, without-dropped, without-other, comes-none, comes-stays, comes-goes}
use Rattle.token_server.proofs.server.admitting.admit_slot.Goals.{then-drops-via-then-drops, then-drops-via-else-drops+then-must_stay}
use Rattle.token_server.proofs.server.admitting.admit_slot.Goals as goal

pub returns-in_default : goal.returns-in_default
returns-in_default c =
    let gone = c.args.gone.now in
    let slots = c.args.slots.now in
    let place = c.args.place in
    let at : request_at slots place ≡ None = sym (get_or_read slots place c.index-slots-place.result c.requires.place_in c.index-slots-place.is None) ∙ c.in_default.is in
    comes-none gone (served_on gone c.args.held.now) c.args.front.now slots place c.args.fresh.now.items c.requires.place_in (ap (λ (slot : Option TokenRequest). left_in gone (slot ∷ [])) at ∙ without-nil gone.dropped) c.requires.so_far

pub returns-then-drops : goal.returns-then-drops
returns-then-drops c =
    let gone = c.args.gone.now in
    let slots = c.args.slots.now in
    let place = c.args.place in
    let low = c.requires.place_in in
    let r : TokenRequest = c.in-Some.request in
    let at : request_at slots place ≡ Some r = sym (get_or_read slots place c.index-slots-place.result low c.index-slots-place.is None) ∙ c.in-Some.is in
    let here = ap (λ (slot : Option TokenRequest). left_in gone (slot ∷ [])) at in
    elim c.then-drops.branch [
      | then-drops-via-then-drops w ↦
          comes-none gone (served_on gone c.args.held.now) c.args.front.now slots place c.args.fresh.now.items low (here ∙ without-dropped gone.dropped r (sym c.drops.ensures ∙ w.if-drops.true)) c.requires.so_far
      | then-drops-via-else-drops+then-must_stay w ↦
          comes-stays gone (served_on gone c.args.held.now) c.args.front.now slots place c.args.fresh.now.items r low (here ∙ without-other gone.dropped r (sym c.drops.ensures ∙ w.if-drops.false)) c.requires.distinct c.requires.so_far (sym w.must_stay.ensures ∙ w.if-must_stay.true)
    ]

pub returns : goal.returns
returns c =
    let gone = c.args.gone.now in
    let slots = c.args.slots.now in
    let place = c.args.place in
    let low = c.requires.place_in in
    let r : TokenRequest = c.in-Some.request in
    let at : request_at slots place ≡ Some r = sym (get_or_read slots place c.index-slots-place.result low c.index-slots-place.is None) ∙ c.in-Some.is in
    let one : left_in gone (request_at slots place ∷ []) ≡ r ∷ [] = ap (λ (slot : Option TokenRequest). left_in gone (slot ∷ [])) at ∙ without-other gone.dropped r (sym c.drops.ensures ∙ c.if-drops.false) in
    subst (λ (xs : List TokenRequest). IsAdmitted (served_on gone c.args.held.now) (left_in gone c.args.front.now ++ left_in gone (take (place + 1) slots)) xs) (sym c.in_ok-push.ensures.items)
    (comes-goes gone (served_on gone c.args.held.now) c.args.front.now slots place c.args.fresh.now.items r low one c.requires.distinct c.requires.so_far (sym c.must_stay.ensures ∙ c.if-must_stay.false))
