use Rattle.std.specs.Prelude.{◌==◌, find}
use Rattle.std.proofs.Common.{ap, sym, ◌∙◌, rules, tests}
use Rattle.std.proofs.lemmas.Iterator.{YieldsList-from_slice}
use Rattle.std.proofs.lemmas.Iterator.Search.{find_from_yields_List}
use Rattle.node_core.specs.code.Plans.{IsHinted}
use Rattle.node_core.proofs.NodeLaws.{find-absent}
use Rattle.node_core.proofs.open_calls.OpenCalls.call_of.Goals as goal

pub returns-then-not-has_caller : goal.returns-then-not-has_caller
returns-then-not-has_caller c =
    sym (
    ap (find (λ d. d.pid == c.args.pid)) (sym c.self.view_is)
    ∙ find-absent (IsHinted c.self.inside.hints) (λ d. d.pid == c.args.pid) (c.has_caller.ensures c.if-not-has_caller.true) c.self.inside.calls.items c.self.invariant
    )

pub returns : goal.returns
returns c =
    c.copied.ensures
    ∙ find_from_yields_List (λ d. d.pid == c.args.pid) _ _ _ c.find.ensures.ran (YieldsList-from_slice _ (c.iter.ensures.rest ∙ c.deref.ensures.value ∙ c.self.view_is)) (λ x b q k. search (rules, tests))
