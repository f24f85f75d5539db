use Rattle.std.specs.Prelude.{◌≡◌, List, IfOk}
use Rattle.std.proofs.Common.{subst}
use Rattle.token_set.specs.rule.Tokens.{token_of}
use Rattle.messages.specs.declared.token_run.TokenRun.{TokenRun}
use Rattle.node_core.proofs.NodeLaws.{reported_runs, reported_longest}
use Rattle.node_core.proofs.file_row.runs_of.Goals as goal

pub of-requires : goal.of-requires
of-requires c = reported_longest (token_of c.args.token.now) c.in_ok-runs.runs.items c.deref.result.now c.in_ok-runs.ensures.listed c.in_ok-runs.ensures.bounded c.deref.ensures.value

pub returns : goal.returns
returns c =
    let same = reported_runs (token_of c.args.token.now) c.in_ok-runs.runs.items c.deref.result.now c.in_ok-runs.ensures.listed c.in_ok-runs.ensures.bounded c.deref.ensures.value in
    subst (λ (runs : List TokenRun). IfOk c.of.result (λ made. made ≡ runs)) same c.of.ensures
