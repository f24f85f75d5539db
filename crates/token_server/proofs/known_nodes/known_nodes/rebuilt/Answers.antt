use Rattle.std.specs.Prelude.{◌+◌, length}
use Rattle.std.proofs.Common.{ap, sym, subst, ◌∙◌}
use Rattle.std.proofs.lemmas.List.{length_push}
use Rattle.token_server.specs.code.Rows.{AreRebuilt}
use Rattle.token_server.proofs.RebuildLaws.{rebuilt-push}
use Rattle.token_server.proofs.known_nodes.known_nodes.rebuilt.Goals as goal

pub loop-place-preserved : goal.loop-place-preserved
loop-place-preserved c =
    let n = c.loop-place.place in
    let pushed = c.in_ok-push.ensures.items in
    record {
      rebuilt =
          subst (AreRebuilt c.args.file c.args.number c.args.members.now (n + 1)) (sym pushed)
          (rebuilt-push c.args.file c.args.number c.args.members.now n c.loop-place.known_nodes.items c.rebuilt.result c.loop-place.invariant.len c.rebuilt.ensures.row c.rebuilt.ensures.dead c.loop-place.invariant.rebuilt);
      len = ap length pushed ∙ length_push c.loop-place.known_nodes.items c.rebuilt.result ∙ ap (λ m. m + 1) c.loop-place.invariant.len;
    }
