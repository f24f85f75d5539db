use Rattle.std.specs.Prelude.{not}
use Rattle.std.proofs.Common.{◌∙◌, ap, arith, sym}
use Rattle.std.proofs.lemmas.Bool.{eqb-false}
use Rattle.cluster_core.specs.rule.Parts.{world_state}
use Rattle.replay.proofs.OnThreads.{told_blocked}
use Rattle.replay.proofs.threads.is_stuck.Goals as goal

pub returns : goal.returns
returns c = λ waits working.
    told_blocked (world_state c.args.world.now) c.args.told.now c.requires (ap not (sym c.is_wait.ensures) ∙ waits)
    (λ none. eqb-false _ _ (sym c.is_empty.ensures ∙ c.if-is_empty.false) (omega arith))
