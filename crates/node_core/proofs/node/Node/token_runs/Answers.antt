use Rattle.std.proofs.Common.{◌∙◌, ap, sym, ℕ}
use Rattle.messages.specs.rule.Messages.{is_within}
use Rattle.node_core.proofs.NodeLaws.{past_runs, file_in_shape}
use Rattle.node_core.proofs.node.Node.token_runs.Goals as goal

pub returns-then-not-is_within : goal.returns-then-not-is_within
returns-then-not-is_within c =
    rw (← c.self.view_is) (past_runs _ c.args.file _ c.self.invariant.files_in (ap (λ (n : ℕ). is_within n c.args.file) (sym c.files.ensures.value) ∙ sym c.is_within.ensures ∙ c.if-not-is_within.true) c.new.ensures.items)

pub file-requires : goal.file-requires
file-requires c =
    rw (← c.self.view_is) (file_in_shape _ c.args.file (ap (λ (n : ℕ). is_within n c.args.file) (sym c.files.ensures.value) ∙ sym c.is_within.ensures ∙ c.if-not-is_within.false))
