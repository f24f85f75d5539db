use Rattle.std.proofs.Common.{◌≡◌, ◌∷◌, ◌++◌, [], ap, subst}
use Rattle.std.specs.Prelude.{if◌then◌else◌}
use Rattle.std.specs.Vec.{with_item}
use Rattle.model.specs.declared.host.Host.{Host}
use Rattle.model.specs.rule.Owners.{host_of_call, same_host}
use Rattle.placement.specs.code.Indexes.{Rows, row_of}
use Rattle.placement.proofs.CallIndexes.{row-pushed}
use Rattle.placement.proofs.call_index.push_next.Goals as goal

pub returns-clause-row : goal.returns-clause-row
returns-clause-row c =
    let old = c.args.rows.now in
    let nodes = c.lengthen.new.lists in
    let hosts = c.lengthen-2.new.lists in
    let host : Host = record { node = c.id.inside.node; incarnation = c.id.inside.incarnation } in
    let new : Rows = with_item (with_item nodes host.node hosts) host.node (with_item c.index_mut-2.result.now host.incarnation c.push.new.self) in
    let P : Host → Type 0 = λ h. (q : Host) → row_of new q ≡ row_of old q ++ (if same_host h q then c.args.index ∷ [] else []) in
    let pushed = row-pushed old nodes c.index_mut.result.now hosts c.index_mut-2.result.now c.index_mut-row.result.now c.push.new.self host c.args.index c.in_ok-lengthen.ensures.same c.in_ok-lengthen.ensures.long c.index_mut.ensures.value c.in_ok-lengthen-2.ensures.same c.in_ok-lengthen-2.ensures.long c.index_mut-2.ensures.value c.index_mut-row.ensures.value c.in_ok-push.ensures.items in
    subst P (ap host_of_call c.id.view_is) pushed
