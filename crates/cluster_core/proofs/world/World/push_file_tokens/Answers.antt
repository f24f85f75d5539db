use Rattle.std.proofs.Common.{◌∙◌, ◌++◌, ap, map, List}
use Rattle.std.proofs.lemmas.Result.{on_ok_weaker}
use Rattle.intervals.specs.rule.Bytes.{Range}
use Rattle.model.specs.declared.level.Level.{Level}
use Rattle.node_core.specs.rule.Parts.{node_state}
use Rattle.cluster_core.specs.rule.Parts.{world_state}
use Rattle.cluster_core.specs.rule.Listings.{token_run}
use Rattle.cluster_core.proofs.listings.TokenLists.{adds_file}
use Rattle.cluster_core.proofs.world.World.push_file_tokens.Goals as goal

pub returns : goal.returns
returns c =
    let old = c.args.tokens.now.items in
    on_ok_weaker c.push_runs.result (λ made. adds_file (world_state c.args.self.now) c.args.node c.args.file c.incarnation.result (node_state c.node-holder.result.now) c.in_ok-runs.runs.items old c.push_runs.new.tokens.items c.requires.node c.requires.file c.node-holder.ensures c.incarnation.ensures.value c.in_ok-runs.ensures
    (made ∙ ap (λ (runs : List (Range × Level)). old ++ map (token_run c.args.node c.incarnation.result c.args.file) runs) c.deref.ensures.value)) c.push_runs.ensures
