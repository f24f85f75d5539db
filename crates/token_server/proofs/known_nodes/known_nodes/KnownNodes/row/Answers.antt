use Rattle.std.specs.Option.{option_copied}
use Rattle.std.proofs.Common.{sym, ap, ◌∙◌}
use Rattle.token_server.specs.rule.RowParts.{row_seen}
use Rattle.token_server.proofs.KnownNodeLaws.{rows_of-there, rows_of-none}
use Rattle.token_server.proofs.known_nodes.known_nodes.KnownNodes.row.Goals as goal

pub returns-in_err-get : goal.returns-in_err-get
returns-in_err-get c = ap (λ o. row_seen (option_copied o)) c.from_residual.ensures ∙ sym (rows_of-none c.args.self.now c.args.node (sym c.in_err-get.ensures.value))

pub returns : goal.returns
returns c = ap row_seen c.as_ref.ensures.value ∙ sym (rows_of-there c.args.self.now c.args.node _ (sym c.in_ok-get.ensures.value))
