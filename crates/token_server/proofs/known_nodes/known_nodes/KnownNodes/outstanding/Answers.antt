use Rattle.std.specs.Prelude.{◌≡◌, ◌∷◌, ◌++◌, [], List, slice_get, Option, Some, None}
use Rattle.std.specs.List.{cons_option}
use Rattle.std.proofs.Common.{◌+◌, refl, ap, sym, subst, append-nil, ◌∙◌}
use Rattle.std.proofs.lemmas.Option.{slice_get_read}
use Rattle.messages.specs.declared.message.Message.{Message}
use Rattle.token_server.specs.declared.known_nodes.known_node.KnownNode.{KnownNode}
use Rattle.token_server.specs.rule.RowParts.{rows_of}
use Rattle.token_server.specs.rule.Rows.{outstanding_to}
use Rattle.token_server.proofs.KnownNodeLaws.{outstanding-next}
use Rattle.token_server.proofs.known_nodes.known_nodes.KnownNodes.outstanding.Goals as goal
use Rattle.token_server.proofs.known_nodes.known_nodes.KnownNodes.outstanding.Goals.{in-Some+in_ok-push, in_default}

pub loop-known_node-preserved : goal.loop-known_node-preserved
loop-known_node-preserved c =
    let known_node = c.known_node-item.result in
    let i = c.loop-known_node.known_node-index in
    let past = outstanding_to (rows_of c.args.self.now) i in
    let read = slice_get_read c.deref-known_node-items.result.now _ i known_node refl c.loop-known_node-test.true c.known_node-item.is in
    let there = subst (λ (known_nodes : List KnownNode). slice_get known_nodes i ≡ Some known_node) (c.deref-known_node-items.ensures.value ∙ c.self.view_is) read in
    let next = outstanding-next c.args.self.now i known_node c.outstanding.result there c.outstanding.ensures in
    let with : (o : Option Message) → c.outstanding.result ≡ o → outstanding_to (rows_of c.args.self.now) (i + 1) ≡ past ++ cons_option o [] = λ o is. next ∙ ap (λ (x : Option Message). past ++ cons_option x []) is in
    elim c.match-outstanding.branch [
      | in-Some+in_ok-push w ↦ w.commands-is ∙ w.in_ok-push.ensures ∙ ap (λ (ms : List Message). ms ++ w.in-Some.command ∷ []) c.loop-known_node.invariant ∙ sym (with (Some w.in-Some.command) w.in-Some.is)
      | in_default w ↦ w.commands-is ∙ c.loop-known_node.invariant ∙ sym (with None w.in_default.is ∙ append-nil past)
    ]
