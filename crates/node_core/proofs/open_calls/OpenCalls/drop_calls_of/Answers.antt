use Rattle.std.specs.Prelude.{◌==◌, not, filter}
use Rattle.std.proofs.Common.{ap, sym, ◌∙◌, rules, tests}
use Rattle.std.proofs.lemmas.Fn.{filter_same}
use Rattle.node_core.specs.code.Plans.{IsHinted}
use Rattle.node_core.proofs.NodeLaws.{filter-absent}
use Rattle.node_core.proofs.open_calls.OpenCalls.drop_calls_of.Goals as goal

pub returns-then-has_caller : goal.returns-then-has_caller
returns-then-has_caller c =
    filter_same _ (λ d. not (d.pid == c.args.pid)) _ (λ x b q k. search (rules, tests)) _ _ c.retain.ensures.filtered
    ∙ ap (filter (λ d. not (d.pid == c.args.pid))) c.self.view_is

pub returns-else-has_caller : goal.returns-else-has_caller
returns-else-has_caller c =
    sym (
    ap (filter (λ d. not (d.pid == c.args.pid))) (sym c.self.view_is)
    ∙ filter-absent (IsHinted c.self.inside.hints) (λ d. d.pid == c.args.pid) (c.has_caller.ensures c.if-has_caller.false) c.self.inside.calls.items c.self.invariant
    ∙ c.self.view_is
    )
