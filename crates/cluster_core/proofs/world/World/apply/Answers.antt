use Rattle.std.specs.Result.{OnErr}
use Rattle.std.proofs.Common.{◌≢◌, sym, subst, Result, Err}
use Rattle.messages.specs.declared.entry.Entry.{Entry}
use Rattle.messages.specs.declared.refusal.Refused.{Refused}
use Rattle.cluster_core.specs.declared.world.world_change.WorldChange.{WorldChange}
use Rattle.cluster_core.specs.rule.World.{WorldState}
use Rattle.cluster_core.specs.rule.Next.{next}
use Rattle.cluster_core.specs.rule.Parts.{world_state}
use Rattle.cluster_core.specs.code.Changes.{Makes}
use Rattle.cluster_core.proofs.world.World.apply.Goals as goal

pub returns-in-Started-clause-err : goal.returns-in-Started-clause-err
returns-in-Started-clause-err c =
    let r : Result (WorldState × Entry) Refused = next (world_state c.args.self.now) c.args.event in
    let made = subst (λ (x : WorldChange). Makes c.args.self.now c.args.event x r) c.in-Started.is c.requires.made in
    subst (λ (x : Result (WorldState × Entry) Refused). OnErr c.start.result ((e : Refused) → x ≢ Err e)) (sym made.1) c.start.ensures.err
