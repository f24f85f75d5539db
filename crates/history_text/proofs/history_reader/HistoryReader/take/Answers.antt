use Rattle.std.proofs.lemmas.Result.{on_ok_weaker}
use Rattle.history_text.proofs.HistoryLaws.{read_other}
use Rattle.history_text.proofs.history_reader.HistoryReader.take.Goals as goal

pub returns-in_default-clause-read : goal.returns-in_default-clause-read
returns-in_default-clause-read c =
    on_ok_weaker c.take.result (λ losses. read_other c.args.allowed c.args.line c.args.self.now c.take.new.self losses c.requires.read) c.take.ensures.losses
