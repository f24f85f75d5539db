use Rattle.std.proofs.Common.{subst}
use Rattle.token_server.specs.rule.Parts.{ServerParts}
use Rattle.token_server.specs.code.Rows.{NoneExclusive}
use Rattle.token_server.specs.code.Edits.{reached}
use Rattle.token_server.proofs.server.Server.hold.Goals as goal

pub obstacle-at-requires : goal.obstacle-at-requires
obstacle-at-requires c = λ yes. subst (λ (q : ServerParts). NoneExclusive (reached q c.args.rows.now).rows) c.self.view_is (c.excludes_none-readable.ensures yes)
