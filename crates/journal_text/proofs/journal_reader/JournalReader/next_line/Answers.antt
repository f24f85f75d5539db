use Rattle.std.proofs.Common.{sym, ◌∙◌}
use Rattle.std.proofs.lemmas.Result.{err_from_is_err_and}
use Rattle.journal_text.specs.code.Places.IsStuck.{misplaced}
use Rattle.journal_text.proofs.Stuck.{misplaced-line, misplaced-none, refusal-is}
use Rattle.journal_text.proofs.journal_reader.JournalReader.next_line.Goals as goal

pub returns-in_err-line-in-Some-clause-stuck : goal.returns-in_err-line-in-Some-clause-stuck
returns-in_err-line-in-Some-clause-stuck c =
    let p = err_from_is_err_and c.from_residual.result c.from_residual.ensures.1 in
    let none = c.in_err-line-in-Some.ensures.ok_part in
    let found = rw none at c.line_of.ensures in
    rw (p.1, p.2) (refusal-is c.line_of.result _ _ c.in_err-line-in-Some.ensures.value none, misplaced c.in-Some.text.now c.in-Some.rest.now c.in-Some.ensures (misplaced-none c.args.version c.args.self.now.place c.in-Some.text.now found))

pub returns-in_err-self-in-Some-clause-stuck : goal.returns-in_err-self-in-Some-clause-stuck
returns-in_err-self-in-Some-clause-stuck c =
    let p = err_from_is_err_and c.from_residual-in_err-self-in-Some.result c.from_residual-in_err-self-in-Some.ensures.1 in
    let none = c.in_err-self-in-Some.ensures.ok_part in
    let line = rw c.in_ok-line-in-Some.ensures.ok_part at c.line_of.ensures in
    rw (p.1, p.2) (refusal-is c.behind.result _ _ c.in_err-self-in-Some.ensures.value none, misplaced c.in-Some.text.now c.in-Some.rest.now c.in-Some.ensures (misplaced-line c.args.version c.args.self.now.place c.in-Some.text.now c.in_ok-line-in-Some.line line.0 line.1 (sym c.behind.ensures ∙ none)))
