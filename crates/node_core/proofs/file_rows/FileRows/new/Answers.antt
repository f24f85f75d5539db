use Rattle.std.proofs.Common.{ap, ◌∙◌}
use Rattle.node_core.specs.rule.Files.{file_state}
use Rattle.node_core.specs.code.Plans.{rows_of}
use Rattle.node_core.proofs.FileLaws.{rows-count, nothing-made}
use Rattle.node_core.proofs.file_rows.FileRows.new.Goals as goal

pub returns-clause-state : goal.returns-clause-state
returns-clause-state c = ap (λ rows. file_state (rows_of c.args.count rows)) c.in_ok-with_capacity.ensures.items ∙ nothing-made c.args.count

pub returns-clause-count : goal.returns-clause-count
returns-clause-count c = rows-count c.args.count c.in_ok-with_capacity.field-0.items
