use Rattle.std.proofs.Common.{◌≡◌, ◌∙◌, ap, arith, false, rules, sym}
use Rattle.std.proofs.lemmas.Result.{IfOk-from_err}
use Rattle.cluster_core.specs.rule.Parts.{WorldParts, world_state}
use Rattle.cluster_core.proofs.listings.TokenLists.{no_files, next_file, all_files}
use Rattle.cluster_core.specs.rule.Listings.{IsTokenOf, IsTokenBefore}
use Rattle.cluster_core.proofs.common.Lists.{adds_none}
use Rattle.cluster_core.proofs.steps.MemberSteps.{dead_token}
use Rattle.cluster_core.proofs.world.World.push_node_tokens.Goals as goal

pub loop-index-init : goal.loop-index-init
loop-index-init c = no_files (world_state c.args.self.now) c.args.node c.args.tokens.now.items

pub returns-in_err-push_file_tokens : goal.returns-in_err-push_file_tokens
returns-in_err-push_file_tokens c = IfOk-from_err c.from_residual.result _ c.from_residual.ensures.0

pub returns : goal.returns
returns c =
    let end : c.files-index-end.result ≡ c.args.self.now.shape.files = c.files-index-end.ensures.value ∙ ap (λ (p : WorldParts). p.shape.files) c.self.view_is in
    all_files (world_state c.args.self.now) c.args.node c.loop-index.index c.args.tokens.now.items c.loop-index.tokens.items (omega (arith, c.loop-index-test.false)) c.loop-index.invariant

pub loop-index-preserved : goal.loop-index-preserved
loop-index-preserved c = next_file (world_state c.args.self.now) c.args.node c.loop-index.index c.args.tokens.now.items c.loop-index.tokens.items c.push_file_tokens.new.tokens.items c.loop-index.invariant c.in_ok-push_file_tokens.ensures

pub returns-then-not-is_alive : goal.returns-then-not-is_alive
returns-then-not-is_alive c =
    let dead : c.is_alive.result ≡ false = search rules in
    adds_none (IsTokenOf (world_state c.args.self.now) c.args.node) IsTokenBefore c.args.tokens.now.items (λ t is. dead_token c.args.self.now c.args.node (sym c.is_alive.ensures ∙ dead) t is)
