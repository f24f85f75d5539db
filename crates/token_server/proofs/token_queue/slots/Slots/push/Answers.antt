use Rattle.std.specs.Prelude.{◌≡◌, ◌+◌, cond, find, length, None, Some, Option, ℕ, is_some}
use Rattle.std.proofs.Common.{ap, ◌∙◌, arith}
use Rattle.indexmap.specs.IndexMap.{get, index_map_len}
use Rattle.messages.specs.rule.Messages.{same_call}
use Rattle.token_server.specs.rule.Requests.{is_of_call, requests_in}
use Rattle.token_server.specs.code.Admissions.{SlotParts}
use Rattle.token_server.proofs.PlaceLaws.{get-same_call, updates-same_call, absent, ArePlaced-push}
use Rattle.token_server.proofs.token_queue.slots.Slots.push.Goals as goal

pub invariant_of-self : goal.invariant_of-self
invariant_of-self c =
    let slots = c.self.inside.slots.items in
    let places = c.self.inside.places in
    let r = c.args.request in
    let none : find (is_of_call r.call) (requests_in slots) ≡ None = ap (λ (p : SlotParts). find (is_of_call r.call) (requests_in p.slots)) c.self.view_is ∙ c.requires.new in
    let new : get same_call places r.call ≡ None = absent slots places c.self.invariant.0 r.call none in
    let had : c.in-Ok.field-0 ≡ None = c.in-Ok.ensures.old ∙ get-same_call places r.call ∙ new in
    let len : index_map_len c.insert.new.self ≡ index_map_len places + 1 = c.in-Ok.ensures.len ∙ ap (λ (o : Option ℕ). index_map_len places + cond (is_some o) 0 1) had in
    let last : c.len-place.result ≡ length slots = omega arith in
    let placed = ArePlaced-push slots places c.self.invariant.0 c.insert.new.self r none
    (λ q. updates-same_call places c.insert.new.self r.call (Some c.len-place.result) c.in-Ok.ensures.updates.0 q ∙ ap (λ (place : ℕ). cond (same_call r.call q) (Some place) (get same_call places q)) last)
    len in
    (rw c.in-Ok-push.ensures.items placed, omega arith, omega arith)
