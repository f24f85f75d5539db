use Rattle.std.proofs.Common.{◌≡◌, ◌∙◌, ◌<◌, ◌≤◌, List, ap, arith, get_or, length, subst, take}
use Rattle.messages.specs.declared.entry.Entry.{Entry}
use Rattle.cluster_core.specs.rule.Parts.{world_state}
use Rattle.cluster_core.specs.rule.Runs.{Leads}
use Rattle.cluster_core.specs.rule.World.{first_world}
use Rattle.cluster_core.proofs.runs.Replayed.{replayed_count, replayed_more, replayed_next, replayed_none}
use Rattle.replay.proofs.Begins.{read-take, same-take}
use Rattle.replay.proofs.state.world_behind.Goals as goal

pub loop-entry-init : goal.loop-entry-init
loop-entry-init c =
    let j = c.args.journal.now in
    record {
      within = omega arith;
      replayed = replayed_none j.shape j.entries (world_state c.in_ok-world.world) (c.in_ok-world.ensures.first ∙ ap first_world c.shape.ensures.value) c.entries.ensures.run;
    }

pub repeat-requires : goal.repeat-requires
repeat-requires c =
    let i = c.loop-entry.entry-index in
    let j = c.args.journal.now in
    let e = c.entry-item.result in
    let cut = c.up_to-entry-items.ensures ∙ ap (take c.args.count) c.entries.ensures.value in
    let here = read-take c.args.count i j.entries e (subst (λ (es : List Entry). i < length es) cut c.loop-entry-test.true) (subst (λ (es : List Entry). e ≡ get_or es i e) cut c.entry-item.is) in
    let r = c.loop-entry.invariant.replayed in
    let count = replayed_count j.shape j.entries i (world_state c.loop-entry.world) (omega (arith, here.1.0)) r.done in
    record {
      room = omega (arith, here.1.0, count, c.entries.ensures.few);
      made = replayed_next j.shape j.entries i (world_state c.loop-entry.world) e here.1.0 here.1.1 r;
    }

pub loop-entry-preserved : goal.loop-entry-preserved
loop-entry-preserved c =
    let i = c.loop-entry.entry-index in
    let j = c.args.journal.now in
    let e = c.entry-item.result in
    let cut = c.up_to-entry-items.ensures ∙ ap (take c.args.count) c.entries.ensures.value in
    let here = read-take c.args.count i j.entries e (subst (λ (es : List Entry). i < length es) cut c.loop-entry-test.true) (subst (λ (es : List Entry). e ≡ get_or es i e) cut c.entry-item.is) in
    record {
      within = omega (arith, here.0);
      replayed = replayed_more j.shape j.entries i (world_state c.loop-entry.world) (world_state c.repeat.new.world) e here.1.0 here.1.1 c.loop-entry.invariant.replayed c.in_ok-repeat.ensures;
    }

pub returns : goal.returns
returns c =
    let i = c.loop-entry.entry-index in
    let j = c.args.journal.now in
    let cut = c.up_to-entry-items.ensures ∙ ap (take c.args.count) c.entries.ensures.value in
    let past : length (take c.args.count j.entries) ≤ i = subst (λ (es : List Entry). length es ≤ i) cut (omega (arith, c.loop-entry-test.false)) in
    subst (λ (es : List Entry). Leads (first_world j.shape) es (world_state c.loop-entry.world)) (same-take c.args.count i j.entries c.loop-entry.invariant.within past) c.loop-entry.invariant.replayed.done
