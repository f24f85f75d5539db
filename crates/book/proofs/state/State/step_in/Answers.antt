use Rattle.std.specs.Box.{with_value}
use Rattle.std.proofs.Common.{◌∙◌, ap, sym}
use Rattle.book.specs.declared.state.State.TheVariants.{OfNode, OfServer}
use Rattle.book.proofs.Copies.{err_map}
use Rattle.book.proofs.state.State.step_in.Goals as goal

pub returns-in-Node-clause-unchanged : goal.returns-in-Node-clause-unchanged
returns-in-Node-clause-unchanged c =
    let it = c.in-OfNode in
    err_map c.step_node.result (λ kept. (kept.0, ap (λ node. OfNode it.number (with_value it.node node)) (kept.1 ∙ c.deref_mut.ensures.value) ∙ sym it.is)) c.step_node.ensures.unchanged

pub returns-in-Server-edit-clause-unchanged : goal.returns-in-Server-edit-clause-unchanged
returns-in-Server-edit-clause-unchanged c =
    let it = c.in-OfServer in
    err_map c.step_server.result (λ kept. (kept.0, ap (λ server. OfServer it.file (with_value it.server server)) (kept.1 ∙ c.deref_mut-in-Server-edit.ensures.value) ∙ sym it.is)) c.step_server.ensures.unchanged
