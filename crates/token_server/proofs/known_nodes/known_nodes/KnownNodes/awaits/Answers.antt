use Rattle.std.specs.Prelude.{ℕ, ◌+◌, Bool}
use Rattle.std.proofs.Common.{sym, ◌∙◌, arith}
use Rattle.token_set.proofs.TokenLaws.{some_passes-from, none_passes-from}
use Rattle.token_server.specs.rule.Rows.{is_awaited}
use Rattle.token_server.specs.code.Rows.{rows_overlaid}
use Rattle.token_server.proofs.known_nodes.known_nodes.KnownNodes.awaits.Goals as goal

pub returns-then-is_awaited : goal.returns-then-is_awaited
returns-then-is_awaited c =
    let passes : ℕ → Bool = λ n. is_awaited (rows_overlaid c.args.self.now c.args.edit.now n) in
    sym (some_passes-from passes 1 c.args.nodes (c.loop-place.place + 1) (omega arith) (omega arith) (sym c.is_awaited.ensures ∙ c.if-is_awaited.true))

pub returns : goal.returns
returns c =
    let passes : ℕ → Bool = λ n. is_awaited (rows_overlaid c.args.self.now c.args.edit.now n) in
    sym (none_passes-from passes 1 c.args.nodes (λ n above below. c.loop-place.invariant n above (omega arith)))
