use Rattle.token_server.specs.rule.RowParts.{rows_of}
use Rattle.token_server.proofs.AwaitLaws.{unfreed-waits}
use Rattle.token_server.proofs.server.Server.at_after.Goals as goal

pub returns : goal.returns
returns c =
    unfreed-waits c.args.self.now c.args.rows.now c.args.changed.now c.args.held.now c.requires.rows c.requires.waits (c.may_be_freed.ensures c.if-may_be_freed.false (rows_of c.args.self.now.known_nodes c.args.changed.now.node))
