use Rattle.std.proofs.Common.{◌∙◌, subst, sym}
use Rattle.std.proofs.lemmas.Bool.{not-false}
use Rattle.messages.specs.rule.Shapes.{IsShape}
use Rattle.cluster_core.specs.rule.Parts.{world_state}
use Rattle.cluster_core.specs.rule.World.{first_world}
use Rattle.cluster_core.proofs.runs.JournalRuns.{leads_shape}
use Rattle.replay.proofs.OnThreads.{are_none}
use Rattle.replay.proofs.threads.may_answer.Goals as goal

pub is_none_stuck-requires : goal.is_none_stuck-requires
is_none_stuck-requires c =
    let journal = c.args.journal.now in
    subst IsShape (c.shape.ensures.value ∙ sym (leads_shape (first_world journal.shape) (world_state c.args.world.now) journal.entries c.requires)) c.shape.ensures.served

pub returns-then-is_empty : goal.returns-then-is_empty
returns-then-is_empty c = λ some may. absurd (some (are_none c.args.open_calls.now (sym c.is_empty.ensures ∙ c.if-is_empty.true)))

pub returns : goal.returns
returns c = λ some may. c.in_ok-is_none_stuck.ensures (not-false _ may)
