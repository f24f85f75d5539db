use Rattle.std.specs.Prelude.{IfOk, IfErr, ◌≢◌, ◌-◌, slice_index_or}
use Rattle.std.specs.declared.result.Result.TheVariants.{Ok, Err}
use Rattle.std.proofs.Common.{◌≡◌, true, sym, subst}
use Rattle.messages.specs.rule.Messages.{is_within}
use Rattle.messages.specs.declared.refusal.StepError.{StepError}
use Rattle.messages.specs.declared.refusal.StepError.TheVariants.{NoMemory, Spent}
use Rattle.cluster_core.specs.rule.Parts.{WorldParts, world_state}
use Rattle.token_server.specs.rule.Server.{server_rule}
use Rattle.token_server.specs.rule.State.{ServerState}
use Rattle.token_server.specs.rule.Parts.{ServerParts}
use Rattle.token_server.specs.code.Edits.{planned, Fits}
use Rattle.cluster_core.proofs.steps.WorldSteps.{read_server, server_found}
use Rattle.cluster_core.proofs.world.World.server_plan.Goals as goal

pub returns-clause-ok : goal.returns-clause-ok
returns-clause-ok c =
    let x : ServerParts = c.index.result.now in
    let P : WorldParts → Type 0 = λ p. IfOk c.plan.result (λ change. (y : ServerParts) × (y ≡ slice_index_or p.servers (c.args.file - 1) y) × Fits y change.edit × (server_rule ((world_state p).servers c.args.file) c.args.step.now ≡ Ok (planned y change.edit, change.outcome))) in
    let R : WorldParts → Type 0 = λ p. is_within p.shape.files c.args.file ≡ true in
    let here = read_server (record { shape = c.self.inside.shape; nodes = c.self.inside.nodes.items; members = c.self.inside.members; servers = c.self.inside.servers.items; sent = c.self.inside.sent; length = c.self.inside.length }) c.args.file x c.self.invariant (subst R (sym c.self.view_is) c.requires) c.index.ensures in
    subst P c.self.view_is (server_found c.plan.result x (λ y. y ≡ slice_index_or c.self.inside.servers.items (c.args.file - 1) y) _ c.args.step.now c.index.ensures here c.plan.ensures.fits c.plan.ensures.ok)

pub returns-clause-err : goal.returns-clause-err
returns-clause-err c =
    let P : WorldParts → Type 0 = λ p. IfErr c.plan.result (λ e. e ≢ NoMemory → server_rule ((world_state p).servers c.args.file) c.args.step.now ≡ Err e) in
    let Q : ServerState → Type 0 = λ s. IfErr c.plan.result (λ e. e ≢ NoMemory → server_rule s c.args.step.now ≡ Err e) in
    let R : WorldParts → Type 0 = λ p. is_within p.shape.files c.args.file ≡ true in
    subst P c.self.view_is (subst Q (sym (read_server (record { shape = c.self.inside.shape; nodes = c.self.inside.nodes.items; members = c.self.inside.members; servers = c.self.inside.servers.items; sent = c.self.inside.sent; length = c.self.inside.length }) c.args.file c.index.result.now c.self.invariant (subst R (sym c.self.view_is) c.requires) c.index.ensures)) c.plan.ensures.err)

pub returns-clause-refused : goal.returns-clause-refused
returns-clause-refused c =
    let P : WorldParts → Type 0 = λ p. (r : StepError) → r ≢ Spent → server_rule ((world_state p).servers c.args.file) c.args.step.now ≡ Err r → c.plan.result ≡ Err r in
    let Q : ServerState → Type 0 = λ s. (r : StepError) → r ≢ Spent → server_rule s c.args.step.now ≡ Err r → c.plan.result ≡ Err r in
    let R : WorldParts → Type 0 = λ p. is_within p.shape.files c.args.file ≡ true in
    subst P c.self.view_is (subst Q (sym (read_server (record { shape = c.self.inside.shape; nodes = c.self.inside.nodes.items; members = c.self.inside.members; servers = c.self.inside.servers.items; sent = c.self.inside.sent; length = c.self.inside.length }) c.args.file c.index.result.now c.self.invariant (subst R (sym c.self.view_is) c.requires) c.index.ensures)) c.plan.ensures.refused)
