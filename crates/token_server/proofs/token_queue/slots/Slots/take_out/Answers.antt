use Rattle.std.specs.Prelude.{◌≡◌, ◌+◌, ℕ, cond, Option, None, Some, map, is_some}
use Rattle.std.proofs.Common.{ap, sym, ◌∙◌, arith, length-set}
use Rattle.indexmap.specs.IndexMap.{get, index_map_len}
use Rattle.messages.specs.rule.Messages.{same_call}
use Rattle.token_server.specs.rule.Requests.{is_of_call}
use Rattle.token_server.specs.code.Admissions.{SlotParts, unless}
use Rattle.token_server.proofs.PlaceLaws.{untouched, cleared, get-same_call, updates-same_call, AreApart-placed, HasNone-placed, within, ArePlaced-clear}
use Rattle.token_server.proofs.token_queue.slots.Slots.take_out.Goals as goal

pub returns-in_default-clause-slots : goal.returns-in_default-clause-slots
returns-in_default-clause-slots c =
    let slots = c.self.inside.slots.items in
    let places = c.self.inside.places in
    let none : get same_call places c.args.call ≡ None = sym (get-same_call places c.args.call) ∙ sym c.swap_remove.ensures.value ∙ c.in_default.is in
    sym (untouched c.args.call slots (HasNone-placed slots places c.self.invariant.0 c.args.call none))
    ∙ ap (λ (p : SlotParts). map (unless (is_of_call c.args.call)) p.slots) c.self.view_is

pub index_mut-requires : goal.index_mut-requires
index_mut-requires c =
    let slots = c.self.inside.slots.items in
    let places = c.self.inside.places in
    let was : get same_call places c.args.call ≡ Some c.in-Some.place = sym (get-same_call places c.args.call) ∙ sym c.swap_remove.ensures.value ∙ c.in-Some.is in
    omega (arith, within slots places c.self.invariant.0 c.args.call c.in-Some.place was)

pub invariant_of-self-2 : goal.invariant_of-self-2
invariant_of-self-2 c =
    let slots = c.self.inside.slots.items in
    let places = c.self.inside.places in
    let was : get same_call places c.args.call ≡ Some c.in-Some.place = sym (get-same_call places c.args.call) ∙ sym c.swap_remove.ensures.value ∙ c.in-Some.is in
    let len : index_map_len c.swap_remove.new.self + 1 ≡ index_map_len places = ap (λ (o : Option ℕ). index_map_len c.swap_remove.new.self + cond (is_some o) 1 0) (sym c.in-Some.is) ∙ c.swap_remove.ensures.len in
    let placed = ArePlaced-clear slots places c.self.invariant.0 c.swap_remove.new.self c.args.call c.in-Some.place was
    (updates-same_call places c.swap_remove.new.self c.args.call None c.swap_remove.ensures.updates.0) len in
    (placed, omega arith, omega (arith, length-set slots c.in-Some.place None))

pub returns-clause-slots : goal.returns-clause-slots
returns-clause-slots c =
    let slots = c.self.inside.slots.items in
    let places = c.self.inside.places in
    let was : get same_call places c.args.call ≡ Some c.in-Some.place = sym (get-same_call places c.args.call) ∙ sym c.swap_remove.ensures.value ∙ c.in-Some.is in
    cleared c.args.call slots c.in-Some.place (AreApart-placed slots places c.self.invariant.0) (c.self.invariant.0.held c.args.call c.in-Some.place was)
    ∙ ap (λ (p : SlotParts). map (unless (is_of_call c.args.call)) p.slots) c.self.view_is
