use Rattle.std.proofs.Common.{sym, ap, ◌∙◌, ◌++◌, [], Option, Vec, Global, append-nil}
use Rattle.std.specs.List.{cons_option}
use Rattle.cluster_core.specs.declared.item.Item.{Item}
use Rattle.placement.proofs.Placing.{items_all, items_more}
use Rattle.placement.proofs.placed.items_in.Goals.{in-Some+in_ok-push, in_default}
use Rattle.placement.proofs.placed.items_in.Goals as goal

pub loop-index-preserved : goal.loop-index-preserved
loop-index-preserved c =
    let before = c.loop-index.items.items in
    let more = items_more c.args.entries.now c.args.slots.now c.loop-index.index _ before c.item.result c.loop-index-test.true c.item.ensures c.loop-index.invariant in
    elim c.match-item.branch [
      | in-Some+in_ok-push w ↦ ap (λ (v : Vec Item Global). v.items) w.items-is ∙ (w.in_ok-push.ensures.items ∙ (ap (λ (o : Option Item). before ++ cons_option o []) (sym w.in-Some.is) ∙ more))
      | in_default w ↦ ap (λ (v : Vec Item Global). v.items) w.items-is ∙ (sym (append-nil before) ∙ (ap (λ (o : Option Item). before ++ cons_option o []) (sym w.in_default.is) ∙ more))
    ]

pub returns : goal.returns
returns c = items_all c.args.entries.now c.args.slots.now c.loop-index.index c.loop-index.items.items c.loop-index-test.false c.loop-index.invariant
