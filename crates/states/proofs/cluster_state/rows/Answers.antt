use Rattle.token_server.specs.rule.Parts.{server_state}
use Rattle.states.proofs.ToldLaws.{rows-shown}
use Rattle.states.proofs.cluster_state.rows.Goals as goal

pub returns : goal.returns
returns c = record {
  nodes = c.in_ok-rows.ensures.nodes;
  each = rows-shown (server_state c.args.server.now) c.in_ok-rows.rows.items c.in_ok-rows.ensures.each;
}
