use Rattle.std.specs.Prelude.{◌==◌, not, filter}
use Rattle.std.proofs.Common.{ap, sym, ◌∙◌, rules, tests}
use Rattle.std.proofs.lemmas.Fn.{filter_same}
use Rattle.node_core.specs.code.Plans.{IsHinted}
use Rattle.node_core.proofs.NodeLaws.{filter-absent}
use Rattle.node_core.proofs.open_calls.OpenCalls.drop_call.Goals as goal

pub returns-then-has_number : goal.returns-then-has_number
returns-then-has_number c =
    filter_same _ (λ d. not (d.number == c.args.number)) _ (λ x b q k. search (rules, tests)) _ _ c.retain.ensures.filtered
    ∙ ap (filter (λ d. not (d.number == c.args.number))) c.self.view_is

pub returns-else-has_number : goal.returns-else-has_number
returns-else-has_number c =
    sym (
    ap (filter (λ d. not (d.number == c.args.number))) (sym c.self.view_is)
    ∙ filter-absent (IsHinted c.self.inside.hints) (λ d. d.number == c.args.number) (c.has_number.ensures c.if-has_number.false) c.self.inside.calls.items c.self.invariant
    ∙ c.self.view_is
    )
