use Rattle.std.proofs.Common.{rules, codes, None, Some, [], ◌∷◌, ◌≡◌}
use Rattle.clap.specs.Words.{found_of, rows_of}
use Rattle.command_line.proofs.Unmet.{no_audit}
use Rattle.command_line.proofs.Tables.{no_value, value_is}
use Rattle.command_line.proofs.command_line.audit_in.Goals as goal

pub returns-in_err-journal : goal.returns-in_err-journal
returns-in_err-journal c =
    let none : c.from_residual.result ≡ None = search rules in
    let found = found_of c.args.values.now in
    rw none (no_audit (rows_of found) (no_value found (codes "JOURNAL") c.get_str.result c.get_str.ensures (search rules)))

pub returns : goal.returns
returns c =
    let journal = value_is (found_of c.args.values.now) (codes "JOURNAL") c.get_str.result c.in_ok-journal.journal c.get_str.ensures (search rules) in
    λ i. Some (codes "audit", journal i ∷ [])
