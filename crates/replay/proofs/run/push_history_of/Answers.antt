use Rattle.std.proofs.Common.{◌≡◌, ◌∙◌, ◌++◌, ap, append_assoc, codes, flat_map, refl, string_bytes, List, ℕ}
use Rattle.std.proofs.lemmas.Result.{on_ok_weaker}
use Rattle.cluster_core.specs.declared.item.Item.{Item}
use Rattle.cluster_core.specs.code.Calls.{items_in, slots_of}
use Rattle.lockscript.specs.rule.Listing.{history_line, history_text}
use Rattle.messages.specs.declared.entry.Entry.{Entry}
use Rattle.placement.specs.declared.slot.Slot.{Slot}
use Rattle.placement.specs.code.Indexes.{standing}
use Rattle.replay.proofs.run.push_history_of.Goals as goal

pub returns : goal.returns
returns c =
    let history = items_in (slots_of c.args.journal.now.entries) in
    let lines : List Item → List ℕ = λ items. flat_map history_line items in
    let slots = c.in_ok-slots.slots.items in
    let same : items_in (standing c.entries.result.now 0 c.as_slice.result.now) ≡ history =
    ap (λ (es : List Entry). items_in (standing es 0 c.as_slice.result.now)) c.entries.ensures.value
    ∙ (ap (λ (ss : List Slot). items_in (standing c.args.journal.now.entries 0 ss)) c.as_slice.ensures.value
    ∙ ap items_in c.in_ok-slots.ensures.stands) in
    on_ok_weaker c.push_items.result (λ wrote. (
      history_text history,
      (history, c.places.ensures.history, c.places.ensures.at_places, refl),
      wrote
          ∙ (ap (λ (items : List Item). string_bytes c.push_str.new.self ++ lines items) same
          ∙ (ap (λ (bytes : List ℕ). bytes ++ lines history) c.in_ok-push_str.ensures.bytes
          ∙ append_assoc (string_bytes c.args.out.now) (codes "history\n") (lines history))),
    )) c.push_items.ensures
