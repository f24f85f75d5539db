use Rattle.std.specs.Prelude.{◌≡◌, find, None, Some}
use Rattle.std.proofs.Common.{ap, sym, ◌∙◌, arith}
use Rattle.std.proofs.lemmas.List.{get_or_read}
use Rattle.indexmap.specs.IndexMap.{get}
use Rattle.messages.specs.rule.Messages.{same_call}
use Rattle.token_server.specs.rule.Requests.{is_of_call, requests_in}
use Rattle.token_server.specs.code.Admissions.{SlotParts}
use Rattle.token_server.proofs.PlaceLaws.{find-none, get-same_call, found-at, within, HasNone-placed}
use Rattle.token_server.proofs.token_queue.slots.Slots.find.Goals as goal

pub returns-in-None : goal.returns-in-None
returns-in-None c =
    let slots = c.self.inside.slots.items in
    let places = c.self.inside.places in
    let none : get same_call places c.args.call ≡ None = sym (get-same_call places c.args.call) ∙ sym c.get.ensures.value ∙ sym c.copied.ensures ∙ c.in-None.is in
    sym (find-none c.args.call slots (HasNone-placed slots places c.self.invariant.0 c.args.call none)) ∙ ap (λ (p : SlotParts). find (is_of_call c.args.call) (requests_in p.slots)) c.self.view_is

pub index-requires : goal.index-requires
index-requires c =
    let slots = c.self.inside.slots.items in
    let places = c.self.inside.places in
    let was : get same_call places c.args.call ≡ Some c.in-Some.place = sym (get-same_call places c.args.call) ∙ sym c.get.ensures.value ∙ sym c.copied.ensures ∙ c.in-Some.is in
    omega (arith, within slots places c.self.invariant.0 c.args.call c.in-Some.place was)

pub returns-in-Some : goal.returns-in-Some
returns-in-Some c =
    let slots = c.self.inside.slots.items in
    let places = c.self.inside.places in
    let was : get same_call places c.args.call ≡ Some c.in-Some.place = sym (get-same_call places c.args.call) ∙ sym c.get.ensures.value ∙ sym c.copied.ensures ∙ c.in-Some.is in
    let low = within slots places c.self.invariant.0 c.args.call c.in-Some.place was in
    get_or_read slots c.in-Some.place _ low c.index.ensures None
    ∙ (sym (found-at slots places c.self.invariant.0 c.args.call c.in-Some.place was) ∙ ap (λ (p : SlotParts). find (is_of_call c.args.call) (requests_in p.slots)) c.self.view_is)
