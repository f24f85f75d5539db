use Rattle.std.specs.Prelude.{◌≡◌, ℕ, ◌+◌, Bool, true, false, List, [], ◌∷◌, ◌++◌}
use Rattle.std.proofs.Common.{sym, ap, ◌∙◌, arith}
use Rattle.token_server.specs.rule.Rows.{is_awaited}
use Rattle.token_server.specs.rule.RowParts.{rows_of}
use Rattle.token_server.specs.rule.Parts.{ServerParts, server_state}
use Rattle.token_server.proofs.ReaderLaws.{nodes_where-passing, nodes_where-missing}
use Rattle.token_server.proofs.server.Server.awaited_nodes.Goals.{then-is_awaited+in_ok-push, else-is_awaited}
use Rattle.token_server.proofs.server.Server.awaited_nodes.Goals as goal

pub loop-place-preserved : goal.loop-place-preserved
loop-place-preserved c =
    let i = c.loop-place.place in
    let passes : ℕ → Bool = λ n. is_awaited ((server_state c.args.self.now).rows n) in
    let next : 1 + i ≡ i + 1 = omega arith in
    let here : c.is_awaited.result ≡ passes (i + 1) = c.is_awaited.ensures ∙ ap (λ (p : ServerParts). is_awaited (rows_of p.known_nodes (i + 1))) c.self.view_is in
    elim c.if-is_awaited.branch [
      | then-is_awaited+in_ok-push w ↦
          let there : passes (i + 1) ≡ true = sym here ∙ w.if-is_awaited.true in
          rw w.nodes-is (w.in_ok-push.ensures.items ∙ ap (λ (ns : List ℕ). ns ++ (i + 1) ∷ []) c.loop-place.invariant ∙ sym (nodes_where-passing passes i (i + 1) next there))
      | else-is_awaited w ↦
          let gone : passes (i + 1) ≡ false = sym here ∙ w.if-is_awaited.false in
          rw w.nodes-is (c.loop-place.invariant ∙ sym (nodes_where-missing passes i (i + 1) next gone))
    ]
