use Rattle.std.specs.Prelude.{ℕ}
use Rattle.std.proofs.Common.{ap, sym, subst, ◌∙◌, arith}
use Rattle.intervals.specs.rule.Search.{some_passes}
use Rattle.model.specs.rule.Limits.{IsNumber}
use Rattle.token_server.specs.rule.Rows.{is_awaited}
use Rattle.token_server.specs.rule.RowParts.{rows_of}
use Rattle.token_server.proofs.RebuildLaws.{rebuilt-counted}
use Rattle.token_server.proofs.ReaderLaws.{idle-server}
use Rattle.token_server.proofs.server.Server.rebuild.Goals as goal

pub invariant_of-server : goal.invariant_of-server
invariant_of-server c =
    idle-server c.args.shape c.of-file.result c.args.epoch c.in_ok-known_nodes.known_nodes c.awaits-awaits.result c.new.result c.new-2.result c.new-3.result
    c.in_ok-known_nodes.ensures.len (subst (λ (n : ℕ). IsNumber c.args.shape.files n) (sym c.of-file.ensures) c.requires.file_in) (omega arith, omega arith)
    (c.awaits-awaits.ensures ∙ ap (some_passes (λ n. is_awaited (rows_of c.in_ok-known_nodes.known_nodes n)) 1) c.nodes.ensures.value)
    (rebuilt-counted c.args.shape c.of-file.result c.args.epoch c.args.members.now c.in_ok-known_nodes.known_nodes c.in_ok-known_nodes.ensures.rows)
    c.new.ensures c.new-2.ensures c.new-3.ensures
