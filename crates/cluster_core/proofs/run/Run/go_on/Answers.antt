use Rattle.std.proofs.Common.{◌∙◌, ◌<◌, ap, sym, subst, List, ◌++◌, ◌∷◌, []}
use Rattle.messages.specs.declared.entry.Entry.{Entry}
use Rattle.cluster_core.specs.rule.Journals.{RunFields}
use Rattle.cluster_core.specs.rule.Parts.{world_state}
use Rattle.cluster_core.specs.rule.World.{journal_limit}
use Rattle.cluster_core.proofs.runs.JournalRuns.{goes_on}
use Rattle.cluster_core.proofs.steps.Steps.{kept_of}
use Rattle.cluster_core.proofs.run.Run.go_on.Goals as goal

pub invariant_of-self-2 : goal.invariant_of-self-2
invariant_of-self-2 c =
    let before : RunFields = record { world = c.self.inside.world; entries = c.self.inside.entries.items } in
    let after : RunFields = record { world = c.apply.new.self; entries = c.push_reserved.new.self.items } in
    let e : Entry = c.in_ok-entry.entry in
    goes_on before after c.args.event c.self.invariant (e, kept_of (world_state c.self.inside.world) c.args.event _ (subst (λ (r : RunFields). r.world.length < journal_limit) (sym c.self.view_is) c.requires.room) c.in_ok-entry.ensures.ok, c.push_reserved.ensures.items ∙ ap (λ (es : List Entry). es ++ e ∷ []) c.reserve.ensures.items)
