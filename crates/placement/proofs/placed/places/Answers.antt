use Rattle.std.proofs.Common.{◌≤◌, List, arith, length, sym, subst}
use Rattle.std.proofs.lemmas.Result.{IfOk-weaker}
use Rattle.messages.specs.rule.Shapes.{IsShape}
use Rattle.messages.specs.declared.entry.Entry.{Entry}
use Rattle.cluster_core.specs.rule.World.{journal_limit}
use Rattle.cluster_core.proofs.runs.Runs.{has_history}
use Rattle.placement.proofs.Placing.{length-placed}
use Rattle.placement.proofs.placed.places.Goals as goal

pub slots_of-requires : goal.slots_of-requires
slots_of-requires c =
    let P : List Entry → Type 0 = λ es. length es ≤ journal_limit in
    subst P (sym c.entries.ensures.value) c.entries.ensures.few

pub returns-clause-few : goal.returns-clause-few
returns-clause-few c =
    let es = c.entries.result.now in
    let P : List Entry → Type 0 = λ es. length es ≤ journal_limit in
    let few = subst P (sym c.entries.ensures.value) c.entries.ensures.few in
    IfOk-weaker c.slots_of.result _ _ (λ slots placed. let each = length-placed es es slots.items placed in omega (arith, each, few)) c.slots_of.ensures

pub returns-clause-history : goal.returns-clause-history
returns-clause-history c =
    let run = c.entries.ensures.run in
    (has_history c.args.journal.now.shape c.args.journal.now.entries run.0 (subst IsShape c.shape.ensures.value c.shape.ensures.served) run.1).0

pub returns-clause-at_places : goal.returns-clause-at_places
returns-clause-at_places c =
    let run = c.entries.ensures.run in
    (has_history c.args.journal.now.shape c.args.journal.now.entries run.0 (subst IsShape c.shape.ensures.value c.shape.ensures.served) run.1).1
