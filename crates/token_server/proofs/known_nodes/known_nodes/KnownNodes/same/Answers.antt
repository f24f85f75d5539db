use Rattle.std.proofs.Common.{◌∙◌}
use Rattle.token_server.proofs.KnownNodeLaws.{same_known_nodes}
use Rattle.token_server.proofs.known_nodes.known_nodes.KnownNodes.same.Goals as goal

pub returns : goal.returns
returns c =
    same_known_nodes _ _ _ _ _ (c.deref.ensures.value ∙ c.self.view_is) (c.deref-2.ensures.value ∙ c.other.view_is) c.requires c.same_each.ensures
