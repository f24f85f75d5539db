use Rattle.std.proofs.Common.{◌≡◌, All, None, take}
use Rattle.std.specs.HashMap.{get}
use Rattle.placement.specs.declared.revoke_id.RevokeId.{RevokeId}
use Rattle.placement.specs.code.Indexes.{KnowsDenial, same_revoke, told_at}
use Rattle.placement.proofs.placed.denials.Given as goal

abbrev pub invariant-loop-entry : goal.invariant-loop-entry
invariant-loop-entry l = record {
  untold : (r : RevokeId) → told_at (get same_revoke l.conflicts r) ≡ None;
  known : All (λ e. KnowsDenial l.conflicts e.event) (take l.entry-index l.entries);
}
