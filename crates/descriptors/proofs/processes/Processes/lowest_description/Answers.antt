use Rattle.std.proofs.Common.{ap, ◌∙◌}
use Rattle.model.specs.rule.Descriptors.{lowest_description}
use Rattle.descriptors.specs.rule.Rows.{processes}
use Rattle.descriptors.proofs.CountLaws.{lowest-unused}
use Rattle.descriptors.proofs.processes.Processes.lowest_description.Goals as goal

pub returns : goal.returns
returns c = c.lowest_unused.ensures ∙ lowest-unused (processes c.self.inside.rows.items) c.self.inside.counts c.self.invariant.2 ∙ ap (λ rows. lowest_description (processes rows)) c.self.view_is
