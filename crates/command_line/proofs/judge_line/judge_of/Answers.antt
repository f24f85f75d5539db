use Rattle.std.proofs.Common.{rules, codes, map, option_map, None, Some, [], ◌∷◌, ◌≡◌}
use Rattle.clap.specs.Words.{found_of, rows_of}
use Rattle.command_line.specs.rule.Tasks.{JudgeTask}
use Rattle.command_line.proofs.Unmet.{no_go_on_flag, no_json_flag, no_judge, no_order_flag, no_stats_flag, no_steps}
use Rattle.command_line.proofs.Tables.{same_value}
use Rattle.command_line.proofs.judge_line.judge_of.Goals as goal

pub returns-in_err-steps : goal.returns-in_err-steps
returns-in_err-steps c =
    let none : c.from_residual.result ≡ None = search rules in
    rw none (no_steps (rows_of (found_of c.args.values.now)) c.in_err-steps.ensures)

pub returns-in_err-order : goal.returns-in_err-order
returns-in_err-order c =
    let none : c.from_residual-in_err-order.result ≡ None = search rules in
    rw none (no_order_flag (rows_of (found_of c.args.values.now)) c.in_err-order.ensures)

pub returns-in_err-go_on : goal.returns-in_err-go_on
returns-in_err-go_on c =
    let none : c.from_residual-in_err-go_on.result ≡ None = search rules in
    rw none (no_go_on_flag (rows_of (found_of c.args.values.now)) c.in_err-go_on.ensures)

pub returns-in_err-stats : goal.returns-in_err-stats
returns-in_err-stats c =
    let none : c.from_residual-in_err-stats.result ≡ None = search rules in
    rw none (no_stats_flag (rows_of (found_of c.args.values.now)) c.in_err-stats.ensures)

pub returns-in_err-json : goal.returns-in_err-json
returns-in_err-json c =
    let none : c.from_residual-in_err-json.result ≡ None = search rules in
    rw none (no_json_flag (rows_of (found_of c.args.values.now)) c.in_err-json.ensures)

pub returns-then-not-may_judge : goal.returns-then-not-may_judge
returns-then-not-may_judge c =
    let found = found_of c.args.values.now in
    let file = same_value found (codes "FILE") c.get_str-explains.result c.get_str-explains.ensures in
    let steps = c.in_ok-steps.ensures in
    let order = c.in_ok-order.ensures in
    let go_on = c.in_ok-go_on.ensures in
    let stats = c.in_ok-stats.ensures in
    let json = c.in_ok-json.ensures in
    let asked : JudgeTask = record {
      histories = map (λ path. path.now) c.args.histories.items;
      steps = c.in_ok-steps.steps;
      explains = option_map (λ path. path.now) c.get_str-explains.result;
      allowed = c.args.allowed.items;
      order = c.in_ok-order.order;
      go_on = c.in_ok-go_on.go_on;
      stats = c.in_ok-stats.stats;
      json = c.in_ok-json.json;
    } in
    no_judge (rows_of found) asked steps.0 (λ i. Some (codes "judge", c.requires.histories i, c.requires.allowed i, steps.1 i ∷ file i ∷ order i ∷ go_on i ∷ stats i ∷ json i ∷ [])) steps.2 (c.may_judge.ensures.may_not (search rules))

pub returns : goal.returns
returns c =
    let found = found_of c.args.values.now in
    let file = same_value found (codes "FILE") c.get_str-explains.result c.get_str-explains.ensures in
    let steps = c.in_ok-steps.ensures in
    let order = c.in_ok-order.ensures in
    let go_on = c.in_ok-go_on.ensures in
    let stats = c.in_ok-stats.ensures in
    let json = c.in_ok-json.ensures in
    (steps.0, (λ i. Some (codes "judge", c.requires.histories i, c.requires.allowed i, steps.1 i ∷ file i ∷ order i ∷ go_on i ∷ stats i ∷ json i ∷ [])), steps.2, c.may_judge.ensures.may (search rules))
