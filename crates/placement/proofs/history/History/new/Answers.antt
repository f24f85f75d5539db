use Rattle.std.specs.Prelude.{◌↔◌, IsTrue}
use Rattle.std.proofs.Common.{false, List, subst}
use Rattle.cluster_core.specs.declared.item.Item.{Item}
use Rattle.cluster_core.specs.rule.Histories.{Rising}
use Rattle.placement.proofs.history.History.new.Goals as goal

pub returns-then-not-is_rising-clause-rising : goal.returns-then-not-is_rising-clause-rising
returns-then-not-is_rising-clause-rising c =
    let P : List Item → Type 0 = λ xs. IsTrue false ↔ Rising xs in
    subst P c.deref.ensures.value c.if-not-is_rising.ensures
