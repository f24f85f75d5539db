use Rattle.std.proofs.lemmas.Result.{err_from_is_err_and}
use Rattle.journal_text.proofs.Begun.{bad-first, bad-no_line}
use Rattle.journal_text.proofs.Stuck.{refusal-is}
use Rattle.journal_text.proofs.journal_reader.JournalReader.first_line.Goals as goal

pub returns-in_err-line-clause-bad : goal.returns-in_err-line-clause-bad
returns-in_err-line-clause-bad c =
    let p = err_from_is_err_and c.from_residual.result c.from_residual.ensures.1 in
    let none = c.in_err-line.ensures.ok_part in
    rw (p.1, p.2) (rw (refusal-is c.split_line.result _ _ c.in_err-line.ensures.value none) (bad-no_line c.args.self.now.rest.now (rw none at c.split_line.ensures)))

pub returns-in_err-shape-clause-bad : goal.returns-in_err-shape-clause-bad
returns-in_err-shape-clause-bad c =
    let p = err_from_is_err_and c.from_residual-in_err-shape.result c.from_residual-in_err-shape.ensures.1 in
    let none = c.in_err-shape.ensures.ok_part in
    rw (p.1, p.2) (rw (refusal-is c.head_of.result _ _ c.in_err-shape.ensures.value none) (bad-first c.args.self.now.rest.now c.in_ok-line.line.now c.in_ok-line.rest.now (rw c.in_ok-line.ensures.ok_part at c.split_line.ensures) (rw none at c.head_of.ensures)))
