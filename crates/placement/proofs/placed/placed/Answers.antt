use Rattle.std.proofs.Common.{◌≡◌, ◌∙◌, List, arith, length, sym, ap, subst}
use Rattle.messages.specs.declared.entry.Entry.{Entry}
use Rattle.cluster_core.specs.declared.item.Item.{Item}
use Rattle.cluster_core.specs.rule.Histories.{HasHistory, EachAtItsPlace, Rising}
use Rattle.cluster_core.specs.code.Calls.{items_in, slots_of}
use Rattle.placement.specs.declared.slot.Slot.{Slot}
use Rattle.placement.specs.code.Indexes.{standing}
use Rattle.placement.specs.rule.Histories.{HistoryParts}
use Rattle.placement.proofs.placed.placed.Goals as goal

-- the items in the slots are those of the history
in_history : (es given : List Entry) (slots kept : List Slot) (items : List Item) → items ≡ items_in (standing given 0 kept) → given ≡ es → kept ≡ slots → standing es 0 slots ≡ slots_of es → items ≡ items_in (slots_of es)
in_history es given slots kept items is same whole stands =
    is
    ∙ (ap (λ (xs : List Entry). items_in (standing xs 0 kept)) same
    ∙ (ap (λ (ss : List Slot). items_in (standing es 0 ss)) whole
    ∙ ap items_in stands))

pub items_in-requires : goal.items_in-requires
items_in-requires c = omega (arith, ap length c.as_slice.ensures.value, c.in_ok-slots.ensures.few)

pub of_rising-requires : goal.of_rising-requires
of_rising-requires c =
    let made = in_history c.args.journal.now.entries c.entries-entries.result.now c.in_ok-slots.slots.items c.as_slice.result.now c.in_ok-items.items.items c.in_ok-items.ensures c.entries-entries.ensures.value c.as_slice.ensures.value c.in_ok-slots.ensures.stands in
    subst Rising (sym made) c.places.ensures.history.fits.rising

pub returns-clause-history : goal.returns-clause-history
returns-clause-history c =
    let made = in_history c.args.journal.now.entries c.entries-entries.result.now c.in_ok-slots.slots.items c.as_slice.result.now c.in_ok-items.items.items c.in_ok-items.ensures c.entries-entries.ensures.value c.as_slice.ensures.value c.in_ok-slots.ensures.stands in
    subst (HasHistory c.args.journal.now.shape c.args.journal.now.entries) (sym (ap (λ (h : HistoryParts). h.items) c.of_rising.ensures ∙ made)) c.places.ensures.history

pub returns-clause-at_places : goal.returns-clause-at_places
returns-clause-at_places c =
    let made = in_history c.args.journal.now.entries c.entries-entries.result.now c.in_ok-slots.slots.items c.as_slice.result.now c.in_ok-items.items.items c.in_ok-items.ensures c.entries-entries.ensures.value c.as_slice.ensures.value c.in_ok-slots.ensures.stands in
    subst (EachAtItsPlace c.args.journal.now.entries) (sym (ap (λ (h : HistoryParts). h.items) c.of_rising.ensures ∙ made)) c.places.ensures.at_places
