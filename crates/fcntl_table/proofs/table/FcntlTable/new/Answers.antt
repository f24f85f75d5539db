use Rattle.std.proofs.Common.{◌∙◌, ap}
use Rattle.model.specs.rule.Table.{empty_table}
use Rattle.fcntl_table.proofs.TableLaws.{table-empty}
use Rattle.fcntl_table.proofs.table.FcntlTable.new.Goals as goal

pub returns : goal.returns
returns c = table-empty _ c.new.ensures c.new-2.ensures.locks ∙ ap empty_table c.new-2.ensures.limit
