use Rattle.std.proofs.Common.{rules, None, ◌≡◌}
use Rattle.clap.specs.Words.{found_of, rows_of}
use Rattle.command_line.proofs.GivenNumbers.{left_out, none_given, one_given}
use Rattle.command_line.proofs.Tables.{no_value, value_is}
use Rattle.command_line.proofs.values.number_if_given.Goals as goal

pub returns-in-None : goal.returns-in-None
returns-in-None c =
    let found = found_of c.args.values.now in
    left_out c.args.least c.args.greatest c.args.id.now (rows_of found) (no_value found c.args.id.now c.get_str.result c.get_str.ensures c.in-None.is)

pub returns-in_err-number-in-Some : goal.returns-in_err-number-in-Some
returns-in_err-number-in-Some c =
    let none : c.from_residual.result ≡ None = search rules in
    let found = found_of c.args.values.now in
    let there = value_is found c.args.id.now c.get_str.result c.in-Some.field-0 c.get_str.ensures c.in-Some.is in
    rw none (none_given c.args.least c.args.greatest c.args.id.now (rows_of found) _ there c.in_err-number-in-Some.ensures)

pub returns-in_ok-number-in-Some : goal.returns-in_ok-number-in-Some
returns-in_ok-number-in-Some c = one_given c.args.least c.args.greatest _ c.in_ok-number-in-Some.number c.in_ok-number-in-Some.ensures
