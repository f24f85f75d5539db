use Rattle.cluster_core.specs.rule.Journals.{RunFields}
use Rattle.cluster_core.proofs.runs.JournalRuns.{led_after}
use Rattle.cluster_core.proofs.run.Run.after.Goals as goal

pub invariant_of-result : goal.invariant_of-result
invariant_of-result c =
    let r : RunFields = record { world = c.in_ok-world.world; entries = c.into_entries.result.items } in
    led_after c.args.journal r c.into_entries.ensures.served c.into_entries.ensures.few c.in_ok-world.ensures.leads c.into_entries.ensures.value
