use Rattle.std.proofs.Common.{length, List, refl, subst, sym, ◌∙◌}
use Rattle.std.proofs.lemmas.Bool.{false≢true}
use Rattle.std.proofs.lemmas.Option.{slice_get_read}
use Rattle.model.specs.declared.lock_info.LockInfo.{LockInfo}
use Rattle.lock_table.specs.rule.Tables.{held, IsListing}
use Rattle.client_history.specs.rule.Explained.{the_file}
use Rattle.client_history.proofs.Blocked.{none_more, none_enough, none_blocks, one_blocks}
use Rattle.client_history.proofs.follow.any_denies.Goals as goal

pub loop-lock-preserved : goal.loop-lock-preserved
loop-lock-preserved c =
    let locks = c.deref-lock-items.result.now in
    let at = slice_get_read locks (length locks) c.loop-lock.lock-index c.lock-item.result refl c.loop-lock-test.true c.lock-item.is in
    none_more locks c.args.owner c.args.span c.args.mode c.args.told.now c.loop-lock.lock-index c.lock-item.result c.loop-lock.invariant at (λ denies. false≢true (sym c.if-denies.false ∙ c.denies.ensures.1 denies))

pub returns-then-denies : goal.returns-then-denies
returns-then-denies c =
    let locks = c.deref-lock-items.result.now in
    let all = subst (λ (l : List LockInfo). IsListing (held c.args.table.now the_file) l) (sym c.deref-lock-items.ensures.value) (c.in_ok-locks.ensures {u = tt}) in
    (λ yes. one_blocks locks c.args.owner c.args.span c.args.mode c.args.told.now (held c.args.table.now) the_file all c.loop-lock.lock-index c.lock-item.result c.loop-lock-test.true (sym c.lock-item.is) (c.denies.ensures.0 c.if-denies.true), λ b. refl)

pub returns : goal.returns
returns c =
    let locks = c.deref-lock-items.result.now in
    let all = subst (λ (l : List LockInfo). IsListing (held c.args.table.now the_file) l) (sym c.deref-lock-items.ensures.value) (c.in_ok-locks.ensures {u = tt}) in
    let none = none_enough locks c.args.owner c.args.span c.args.mode c.args.told.now c.loop-lock.lock-index c.loop-lock-test.false c.loop-lock.invariant in
    (λ no. absurd (false≢true no), λ b. absurd (none_blocks locks c.args.owner c.args.span c.args.mode c.args.told.now (held c.args.table.now) the_file all none b))
