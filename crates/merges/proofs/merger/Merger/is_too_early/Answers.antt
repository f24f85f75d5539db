use Rattle.std.proofs.Common.{◌≡◌, ◌<◌, true, [], refl, sym, subst, ◌∙◌, arith, length}
use Rattle.std.proofs.lemmas.Option.{slice_get_within, get_or_from_slice_get}
use Rattle.messages.specs.declared.event.Event.TheVariants.{Member}
use Rattle.cluster_core.specs.rule.World.{WorldState}
use Rattle.cluster_core.specs.rule.Parts.{world_state}
use Rattle.merges.specs.rule.Merges.{LogFields, ends}
use Rattle.merges.specs.code.Merging.{current, is_there}
use Rattle.merges.proofs.Readings.{read}
use Rattle.merges.proofs.NextChanges.{used_by_all, not_used}
use Rattle.merges.proofs.merger.Merger.is_too_early.Goals as goal

pub returns-then-is_awaited-clause-yes : goal.returns-then-is_awaited-clause-yes
returns-then-is_awaited-clause-yes c is all =
    let it = c.if-is_awaited.ensures.yes refl in
    let logs = c.args.self.now.logs.items in
    let log : LogFields = c.index.result.now in
    let within : c.loop-index.index < length logs = omega (arith, c.loop-index-test.true, c.len-index-end.ensures, c.args.self.now.logs.ok.0) in
    not_used (world_state c.args.self.now.run.world) logs c.requires.different c.args.event c.loop-index.index log (read LogFields logs c.loop-index.index log within c.index.ensures) it.0 it.1
    ((λ i. current (world_state (sym c.world.ensures.value i)) log.actor) ∙ it.2) all

pub returns-clause-no : goal.returns-clause-no
returns-clause-no c is a ended there =
    let w : WorldState = world_state c.args.self.now.run.world in
    let logs = c.args.self.now.logs.items in
    used_by_all w logs c.requires.different c.args.event
    (λ k l here.
    let within = slice_get_within logs k l here in
    subst (λ (z : LogFields). ends z.actor (Member c.args.event) ≡ true → is_there w z.actor ≡ true → current w z.actor ≡ z.incarnation → z.entries ≡ []) (get_or_from_slice_get logs k l l here)
    (c.loop-index.invariant k l (omega (arith, within, c.loop-index-test.false, c.len-index-end.ensures, c.args.self.now.logs.ok.0))))
    a ended there
