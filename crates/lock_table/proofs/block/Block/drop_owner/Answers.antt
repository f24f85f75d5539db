use Rattle.std.proofs.Common.{ap, ◌∙◌, List, rules}
use Rattle.std.specs.List.{filter}
use Rattle.std.proofs.lemmas.Fn.{filter_same}
use Rattle.lock_table.specs.declared.owner_locks.OwnerLocks.{OwnerLocks}
use Rattle.lock_table.proofs.RowLemmas.{is_of_other}
use Rattle.lock_table.proofs.block.Block.drop_owner.Goals as goal

pub returns : goal.returns
returns c = filter_same _ (is_of_other c.args.owner) _ (λ r b f k. search rules) _ _ c.retain.ensures.filtered ∙ ap (λ (l : List OwnerLocks). filter (is_of_other c.args.owner) l) c.self.view_is
