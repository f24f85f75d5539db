use Rattle.std.proofs.Common.{◌≡◌, ◌+◌, ◌-◌, true, suc, length, List, inl, inr, rules, arith}
use Rattle.std.proofs.lemmas.Bool.{cases_lt}
use Rattle.std.proofs.lemmas.List.Sorted.{IsPartitionPoint-from_clause}
use Rattle.lock_table.specs.declared.owner_locks.OwnerLocks.{OwnerLocks}
use Rattle.lock_table.specs.code.Rows.{mark_of, begins_to}
use Rattle.lock_table.proofs.BlockRows.{begins_parted, below_begun, above_begun}
use Rattle.lock_table.proofs.place.block_of.Goals as goal

pub returns-clause-below : goal.returns-clause-below
returns-clause-below c =
    let blocks = c.args.blocks.now in
    let parted = begins_parted blocks c.args.file c.args.owner c.requires.rows c.requires.some in
    let point = IsPartitionPoint-from_clause (λ (l : List OwnerLocks). begins_to l (mark_of c.args.file c.args.owner) c.args.owner) _ _ c.partition_point-begun.ensures.partitioned parted (λ a r q k. search rules) in
    elim (cases_lt 0 c.partition_point-begun.result) [
      | inl some ↦ below_begun blocks c.args.file c.args.owner c.requires.rows c.requires.some c.saturating_sub.result (omega arith) (λ d. point.0 c.saturating_sub.result d (omega arith) (omega arith))
      | inr none ↦ let at : c.saturating_sub.result ≡ 0 = omega arith in rw at tt
    ]

pub returns-clause-above : goal.returns-clause-above
returns-clause-above c =
    let blocks = c.args.blocks.now in
    let parted = begins_parted blocks c.args.file c.args.owner c.requires.rows c.requires.some in
    let point = IsPartitionPoint-from_clause (λ (l : List OwnerLocks). begins_to l (mark_of c.args.file c.args.owner) c.args.owner) _ _ c.partition_point-begun.ensures.partitioned parted (λ a r q k. search rules) in
    above_begun blocks c.args.file c.args.owner c.requires.rows c.requires.some (c.saturating_sub.result + 1) (λ lt d. point.1 (c.saturating_sub.result + 1) d (omega arith) lt)
