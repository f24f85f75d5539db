use Rattle.std.proofs.Common.{rules, codes, None, Some, [], ◌∷◌, ◌≡◌}
use Rattle.clap.specs.Words.{found_of, rows_of}
use Rattle.command_line.proofs.Unmet.{no_flag, no_join_flag, no_seed, no_threads_script}
use Rattle.command_line.proofs.Tables.{no_value, same_value, value_is}
use Rattle.command_line.proofs.command_line.threads_in.Goals as goal

pub returns-in_err-script : goal.returns-in_err-script
returns-in_err-script c =
    let none : c.from_residual.result ≡ None = search rules in
    let found = found_of c.args.values.now in
    rw none (no_threads_script (rows_of found) (no_value found (codes "SCRIPT") c.get_str.result c.get_str.ensures (search rules)))

pub returns-in_err-seed : goal.returns-in_err-seed
returns-in_err-seed c =
    let none : c.from_residual-in_err-seed.result ≡ None = search rules in
    rw none (no_seed (rows_of (found_of c.args.values.now)) c.in_err-seed.ensures)

pub returns-in_err-stop_when_stuck : goal.returns-in_err-stop_when_stuck
returns-in_err-stop_when_stuck c =
    let none : c.from_residual-in_err-stop_when_stuck.result ≡ None = search rules in
    rw none (no_flag (rows_of (found_of c.args.values.now)) c.in_err-stop_when_stuck.ensures)

pub returns-in_err-no_join : goal.returns-in_err-no_join
returns-in_err-no_join c =
    let none : c.from_residual-in_err-no_join.result ≡ None = search rules in
    rw none (no_join_flag (rows_of (found_of c.args.values.now)) c.in_err-no_join.ensures)

pub returns : goal.returns
returns c =
    let found = found_of c.args.values.now in
    let script = value_is found (codes "SCRIPT") c.get_str.result c.in_ok-script.script c.get_str.ensures (search rules) in
    let file = same_value found (codes "FILE") c.get_str-file.result c.get_str-file.ensures in
    let seed = c.in_ok-seed.ensures in
    let stop_when_stuck = c.in_ok-stop_when_stuck.ensures in
    let no_join = c.in_ok-no_join.ensures in
    (seed.0, (λ i. Some (codes "threads", script i ∷ seed.1 i ∷ stop_when_stuck i ∷ no_join i ∷ file i ∷ [])), seed.2)
