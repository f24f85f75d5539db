use Rattle.std.proofs.lemmas.Bool.{both_ways}
use Rattle.fcntl_table.specs.rule.Tables.{table_of}
use Rattle.placement.proofs.Waits.{one_answer}
use Rattle.placement.proofs.answers.take_answer.Goals as goal

pub returns-clause-never : goal.returns-clause-never
returns-clause-never c = λ no new other.
    let same = one_answer (table_of c.args.table.now) c.args.process c.args.op c.in_ok-answer.answer c.args.reply (table_of c.step.new.table) new c.in_ok-answer.ensures.goes_on c.requires.names_none c.requires.is_own c.in_ok-answer.ensures.step other in
    both_ways c.is_same.result no (c.is_same.ensures.1 same)
