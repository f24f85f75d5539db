use Rattle.std.proofs.Common.{◌≡◌, ◌∙◌, ◌+◌, List, ◌++◌, ap, subst, rules, arith}
use Rattle.std.specs.Ordering.{is_lt}
use Rattle.std.proofs.lemmas.Fn.{always_returns_same}
use Rattle.model.specs.declared.lock_info.LockInfo.{LockInfo}
use Rattle.lock_table.specs.code.Blockers.{lock_cmp}
use Rattle.lock_table.proofs.ListingLemmas.{listing_from, locks_weak}
use Rattle.node_core.specs.rule.Parts.{node_state}
use Rattle.cluster_core.specs.rule.Parts.{WorldParts, world_state}
use Rattle.cluster_core.specs.rule.Union.{union}
use Rattle.cluster_core.proofs.listings.TokenLists.{is_number}
use Rattle.cluster_core.proofs.listings.LockLists.{no_regions, more_regions, all_regions}
use Rattle.cluster_core.proofs.world.World.file_locks.Goals as goal

pub loop-index-init : goal.loop-index-init
loop-index-init c = rw c.new-locks.ensures.items (no_regions (world_state c.args.self.now) c.args.file)

pub loop-index-preserved : goal.loop-index-preserved
loop-index-preserved c =
    let w = world_state c.args.self.now in
    let i = c.loop-index.index in
    let end : c.nodes-index-end.result ≡ c.args.self.now.shape.nodes = c.nodes-index-end.ensures.value ∙ ap (λ (p : WorldParts). p.shape.nodes) c.self.view_is in
    let there = is_number c.args.self.now.shape.nodes (i + 1) (omega arith) (omega (arith, c.loop-index-test.true)) in
    let named = subst (λ (p : WorldParts). ((world_state p).nodes (i + 1)).node ≡ i + 1) c.self.view_is (c.self.invariant.own_number (i + 1)) in
    let made = c.in_ok-extend_from_slice.ensures.items ∙ ap (λ (own : List LockInfo). c.loop-index.locks.items ++ own) c.deref.ensures.value in
    more_regions w c.args.file i (node_state c.node.result.now) c.loop-index.locks.items c.in_ok-own.own.items c.extend_from_slice.new.self.items there named c.node.ensures c.in_ok-own.ensures.own c.in_ok-own.ensures.listing c.loop-index.invariant made

pub returns : goal.returns
returns c =
    let w = world_state c.args.self.now in
    let end : c.nodes-index-end.result ≡ c.args.self.now.shape.nodes = c.nodes-index-end.ensures.value ∙ ap (λ (p : WorldParts). p.shape.nodes) c.self.view_is in
    let all = all_regions w c.args.file c.loop-index.index c.loop-index.locks.items (omega (arith, c.loop-index-test.false)) c.loop-index.invariant in
    let sorted = c.sort_unstable_by.ensures.sorted (λ (a b : LockInfo). is_lt (lock_cmp a b)) locks_weak (always_returns_same _ (λ a r. is_lt r ≡ is_lt (lock_cmp a.0.now a.1.0.now)) _ (λ a r f called. let e : r ≡ lock_cmp a.0.now a.1.0.now = search rules in (ap is_lt e, search rules))) in
    listing_from ((union w).locks c.args.file) _ _ all c.sort_unstable_by.ensures.permutation sorted
