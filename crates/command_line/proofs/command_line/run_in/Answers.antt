use Rattle.std.proofs.Common.{rules, codes, None, Some, [], ◌∷◌, ◌≡◌}
use Rattle.clap.specs.Words.{found_of, rows_of}
use Rattle.command_line.proofs.Unmet.{no_calm_flag, no_expect_flag, no_quiet, no_quiet_flag, no_script}
use Rattle.command_line.proofs.Tables.{no_value, same_value, value_is}
use Rattle.command_line.proofs.command_line.run_in.Goals as goal

pub returns-in_err-script : goal.returns-in_err-script
returns-in_err-script c =
    let none : c.from_residual.result ≡ None = search rules in
    let found = found_of c.args.values.now in
    rw none (no_script (rows_of found) (no_value found (codes "SCRIPT") c.get_str.result c.get_str.ensures (search rules)))

pub returns-in_err-expect : goal.returns-in_err-expect
returns-in_err-expect c =
    let none : c.from_residual-in_err-expect.result ≡ None = search rules in
    rw none (no_expect_flag (rows_of (found_of c.args.values.now)) c.in_err-expect.ensures)

pub returns-in_err-quiet : goal.returns-in_err-quiet
returns-in_err-quiet c =
    let none : c.from_residual-in_err-quiet.result ≡ None = search rules in
    rw none (no_quiet_flag (rows_of (found_of c.args.values.now)) c.in_err-quiet.ensures)

pub returns-in_err-calm : goal.returns-in_err-calm
returns-in_err-calm c =
    let none : c.from_residual-in_err-calm.result ≡ None = search rules in
    rw none (no_calm_flag (rows_of (found_of c.args.values.now)) c.in_err-calm.ensures)

pub returns-then-not-may_be_quiet : goal.returns-then-not-may_be_quiet
returns-then-not-may_be_quiet c =
    let found = found_of c.args.values.now in
    let file = same_value found (codes "FILE") c.get_str-journal.result c.get_str-journal.ensures in
    no_quiet (rows_of found) _ c.in_ok-expect.expect c.in_ok-quiet.quiet file c.in_ok-expect.ensures c.in_ok-quiet.ensures (c.may_be_quiet.ensures.may_not (search rules))

pub returns : goal.returns
returns c =
    let found = found_of c.args.values.now in
    let script = value_is found (codes "SCRIPT") c.get_str.result c.in_ok-script.script c.get_str.ensures (search rules) in
    let after = same_value found (codes "JOURNAL") c.get_str-after.result c.get_str-after.ensures in
    let journal = same_value found (codes "FILE") c.get_str-journal.result c.get_str-journal.ensures in
    let expected = c.in_ok-expect.ensures in
    let quiet = c.in_ok-quiet.ensures in
    let calm = c.in_ok-calm.ensures in
    ((λ i. Some (codes "run", script i ∷ after i ∷ journal i ∷ expected i ∷ quiet i ∷ calm i ∷ [])), c.may_be_quiet.ensures.may (search rules))
