use Rattle.std.proofs.Common.{rules, codes, None, Some, [], ◌∷◌, ◌≡◌}
use Rattle.clap.specs.Words.{found_of, one_of, rows_of}
use Rattle.command_line.proofs.Unmet.{no_at, no_state}
use Rattle.command_line.proofs.Tables.{no_value, value_is}
use Rattle.command_line.proofs.command_line.state_in.Goals as goal

pub returns-in_err-journal : goal.returns-in_err-journal
returns-in_err-journal c =
    let none : c.from_residual.result ≡ None = search rules in
    let found = found_of c.args.values.now in
    rw none (no_state (rows_of found) (no_value found (codes "JOURNAL") c.get_str.result c.get_str.ensures (search rules)))

pub returns-in_err-at : goal.returns-in_err-at
returns-in_err-at c =
    let none : c.from_residual-in_err-at.result ≡ None = search rules in
    rw none (no_at (rows_of (found_of c.args.values.now)) c.in_err-at.ensures)

pub returns : goal.returns
returns c =
    let found = found_of c.args.values.now in
    let rows = rows_of found in
    let journal = value_is found (codes "JOURNAL") c.get_str.result c.in_ok-journal.journal c.get_str.ensures (search rules) in
    (one_of (codes "K") rows, (λ i. Some (codes "state", journal i ∷ one_of (codes "K") rows ∷ [])), c.in_ok-at.ensures)
