use Rattle.std.specs.Prelude.{ℕ}
use Rattle.std.proofs.Common.{subst, ◌∙◌}
use Rattle.messages.specs.rule.Shapes.{before_epoch}
use Rattle.token_server.specs.code.Rows.{AreRebuilt}
use Rattle.token_server.proofs.RebuildLaws.{rebuilt-rows, rebuilt-deaths, rebuilt-free}
use Rattle.token_server.proofs.known_nodes.known_nodes.KnownNodes.rebuilt.Goals.{In_ok-rebuilt}
use Rattle.token_server.proofs.known_nodes.known_nodes.KnownNodes.rebuilt.Goals as goal

each : (c : In_ok-rebuilt) → AreRebuilt c.args.file (before_epoch c.args.epoch) c.args.members.now c.args.shape.nodes c.in_ok-rebuilt.field-0.items
each c =
    subst (λ (n : ℕ). AreRebuilt c.args.file n c.args.members.now c.args.shape.nodes c.in_ok-rebuilt.field-0.items) c.of-number.ensures
    (subst (λ (n : ℕ). AreRebuilt c.args.file c.of-number.result c.args.members.now n c.in_ok-rebuilt.field-0.items) c.nodes.ensures.value c.in_ok-rebuilt.ensures.rebuilt)

pub returns-clause-rows : goal.returns-clause-rows
returns-clause-rows c = rebuilt-rows c.args.shape c.args.file c.args.epoch c.args.members.now _ (c.in_ok-rebuilt.ensures.len ∙ c.nodes.ensures.value) c.requires.of_shape (each (goal.at.returns-clause-rows c).In_ok-rebuilt)

pub returns-clause-deaths : goal.returns-clause-deaths
returns-clause-deaths c = rebuilt-deaths c.args.shape c.args.file c.args.epoch c.args.members.now _ (c.in_ok-rebuilt.ensures.len ∙ c.nodes.ensures.value) c.requires.of_shape (each (goal.at.returns-clause-deaths c).In_ok-rebuilt)

pub invariant_of-result : goal.invariant_of-result
invariant_of-result c = λ unset. rebuilt-free c.args.shape c.args.file c.args.epoch c.args.members.now _ (c.in_ok-rebuilt.ensures.len ∙ c.nodes.ensures.value) c.requires.of_shape (each (goal.at.invariant_of-result c).In_ok-rebuilt)
