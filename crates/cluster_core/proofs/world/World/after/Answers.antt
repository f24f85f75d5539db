use Rattle.std.proofs.Common.{◌≡◌, ◌∙◌, ◌<◌, ◌≤◌, List, length, get_or, ap, subst, arith}
use Rattle.messages.specs.declared.entry.Entry.{Entry}
use Rattle.cluster_core.specs.rule.World.{first_world}
use Rattle.cluster_core.specs.rule.Parts.{world_state}
use Rattle.cluster_core.proofs.runs.Replayed.{replayed_none, replayed_count, replayed_next, replayed_more, replayed_all}
use Rattle.cluster_core.proofs.world.World.after.Goals as goal

pub loop-entry-init : goal.loop-entry-init
loop-entry-init c = replayed_none c.args.journal.now.shape c.args.journal.now.entries (world_state c.in_ok-world.world) (c.in_ok-world.ensures.first ∙ ap first_world c.shape.ensures.value) c.entries-entry-items.ensures.run

pub repeat-requires-clause-room : goal.repeat-requires-clause-room
repeat-requires-clause-room c =
    let i = c.loop-entry.entry-index in
    let same = c.entries-entry-items.ensures.value in
    let within : i < length c.args.journal.now.entries = subst (λ (es : List Entry). i < length es) same c.loop-entry-test.true in
    let count = replayed_count c.args.journal.now.shape c.args.journal.now.entries i (world_state c.loop-entry.world) (omega (arith, within)) c.loop-entry.invariant.done in
    omega (arith, within, count, c.entries-entry-items.ensures.few)

pub repeat-requires-clause-made : goal.repeat-requires-clause-made
repeat-requires-clause-made c =
    let i = c.loop-entry.entry-index in
    let e = c.entry-item.result in
    let same = c.entries-entry-items.ensures.value in
    replayed_next c.args.journal.now.shape c.args.journal.now.entries i (world_state c.loop-entry.world) e (subst (λ (es : List Entry). i < length es) same c.loop-entry-test.true) (subst (λ (es : List Entry). e ≡ get_or es i e) same c.entry-item.is) c.loop-entry.invariant

pub loop-entry-preserved : goal.loop-entry-preserved
loop-entry-preserved c =
    let i = c.loop-entry.entry-index in
    let e = c.entry-item.result in
    let same = c.entries-entry-items.ensures.value in
    replayed_more c.args.journal.now.shape c.args.journal.now.entries i (world_state c.loop-entry.world) (world_state c.repeat.new.self) e (subst (λ (es : List Entry). i < length es) same c.loop-entry-test.true) (subst (λ (es : List Entry). e ≡ get_or es i e) same c.entry-item.is) c.loop-entry.invariant c.in_ok-repeat.ensures

pub returns-clause-leads : goal.returns-clause-leads
returns-clause-leads c =
    let i = c.loop-entry.entry-index in
    let past = subst (λ (es : List Entry). length es ≤ i) c.entries-entry-items.ensures.value (omega (arith, c.loop-entry-test.false)) in
    replayed_all c.args.journal.now.shape c.args.journal.now.entries i (world_state c.loop-entry.world) past c.loop-entry.invariant

pub returns-clause-safe : goal.returns-clause-safe
returns-clause-safe c =
    let w = world_state c.loop-entry.world in
    let i = c.loop-entry.entry-index in
    let past = subst (λ (es : List Entry). length es ≤ i) c.entries-entry-items.ensures.value (omega (arith, c.loop-entry-test.false)) in
    c.entries-entry-items.ensures.safe w (replayed_all c.args.journal.now.shape c.args.journal.now.entries i w past c.loop-entry.invariant)
