use Rattle.std.specs.Prelude.{◌-◌, slice_index_or}
use Rattle.std.proofs.Common.{◌≡◌, ◌<◌, ◌∙◌, true, ap, sym, subst}
use Rattle.node_core.specs.rule.Parts.{node_state}
use Rattle.cluster_core.specs.rule.World.{WorldState, journal_limit}
use Rattle.cluster_core.specs.rule.Next.{is_known}
use Rattle.cluster_core.specs.rule.Parts.{WorldParts, world_state}
use Rattle.cluster_core.specs.rule.Actors.{HasNode}
use Rattle.cluster_core.specs.rule.Journals.{RunFields}
use Rattle.cluster_core.proofs.steps.Copies.{node_plans, node_back, where_err, on_err}
use Rattle.cluster_core.proofs.run.Run.step_node.Goals as goal

pub go_on-made-requires : goal.go_on-made-requires
go_on-made-requires c =
    let q = c.exchange_node.new.self in
    let same : world_state q ≡ world_state c.args.self.now.world = c.exchange_node.ensures.world ∙ ap world_state c.keep_index.ensures ∙ ap (λ (r : RunFields). world_state r.world) c.self.view_is in
    let room = subst (λ (w : WorldState). w.length < journal_limit) (sym same) c.requires.room in
    let known = subst (λ (w : WorldState). is_known w c.args.event ≡ true) (sym same) c.requires.known in
    let has = subst (λ (w : WorldState). HasNode w c.args.number (node_state c.args.node.now)) (sym same) c.requires.stands in
    node_plans q c.args.event c.args.number c.args.node.now c.named_incarnation-incarnation.result c.args.change room known has (sym (c.exchange_node.ensures.there c.args.node.now)) c.requires.fits c.requires.steps c.named_incarnation-incarnation.ensures.value c.named_incarnation-incarnation.ensures.incarnated

pub exchange_node-requires-then-is_err : goal.exchange_node-requires-then-is_err
exchange_node-requires-then-is_err c =
    let one = c.exchange_node in
    let stayed = where_err c.go_on-made.result (sym c.is_err.ensures.value ∙ c.if-is_err.true) c.go_on-made.ensures.unchanged in
    let back : c.self-2.inside.world ≡ one.new.self = ap (λ (r : RunFields). r.world) (c.self-2.view_is ∙ stayed) in
    let same : world_state c.self-2.inside.world ≡ world_state c.args.self.now.world = ap world_state back ∙ one.ensures.world ∙ ap world_state c.keep_index.ensures ∙ ap (λ (r : RunFields). world_state r.world) c.self.view_is in
    subst (λ (w : WorldState). HasNode w c.args.number (node_state one.new.node)) (sym same) (subst (λ (s : _). HasNode (world_state c.args.self.now.world) c.args.number s) (sym one.ensures.state) c.requires.stands)

pub returns-then-is_err-clause-unchanged : goal.returns-then-is_err-clause-unchanged
returns-then-is_err-clause-unchanged c =
    let one = c.exchange_node in
    let two = c.exchange_node-then-is_err in
    let stayed = where_err c.go_on-made.result (sym c.is_err.ensures.value ∙ c.if-is_err.true) c.go_on-made.ensures.unchanged in
    let back : c.self-2.inside.world ≡ one.new.self = ap (λ (r : RunFields). r.world) (c.self-2.view_is ∙ stayed) in
    let entries : c.self-2.inside.entries.items ≡ c.self.inside.entries.items = ap (λ (r : RunFields). r.entries) (c.self-2.view_is ∙ stayed) in
    let world : two.new.self ≡ c.self.inside.world = node_back c.keep_index.new.self c.self-2.inside.world two.new.self c.args.number c.args.node.now one.new.node (back ∙ one.ensures.given) (sym (one.ensures.taken one.new.node)) two.ensures.given ∙ c.keep_index.ensures in
    let copy : two.new.node ≡ c.args.node.now = sym (two.ensures.taken c.args.node.now) ∙ ap (λ (p : WorldParts). slice_index_or p.nodes (c.args.number - 1) c.args.node.now) back ∙ one.ensures.there c.args.node.now in
    on_err c.go_on-made.result ((λ i. record { world = world i; entries = entries i }) ∙ c.self.view_is, copy)
