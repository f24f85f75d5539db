use Rattle.std.proofs.Common.{◌≡◌, ◌∙◌, ◌+◌, [], List, ◌++◌, map, sym, ap, subst, arith}
use Rattle.std.proofs.lemmas.Result.{IfOk-from_err}
use Rattle.cluster_core.specs.declared.held_lock.HeldLock.{HeldLock}
use Rattle.model.specs.declared.lock_info.LockInfo.{LockInfo}
use Rattle.cluster_core.specs.rule.Parts.{WorldParts, world_state}
use Rattle.cluster_core.specs.rule.Listings.{Adds, IsHeldBefore, held_lock}
use Rattle.cluster_core.proofs.listings.TokenLists.{is_number}
use Rattle.cluster_core.proofs.listings.LockLists.{IsHeldInFirst, adds_locks, held_none, held_next, held_all}
use Rattle.cluster_core.proofs.world.World.locks.Goals as goal

pub loop-index-init : goal.loop-index-init
loop-index-init c =
    let w = world_state c.args.self.now in
    subst (λ (locks : List HeldLock). Adds (IsHeldInFirst w 0) IsHeldBefore [] locks) (sym c.new-locks.ensures.items) (held_none w [])

pub returns-in_err-regions : goal.returns-in_err-regions
returns-in_err-regions c = IfOk-from_err c.from_residual.result _ c.from_residual.ensures.0

pub returns-in_err-push_regions : goal.returns-in_err-push_regions
returns-in_err-push_regions c = IfOk-from_err c.from_residual-in_err-push_regions.result _ c.from_residual-in_err-push_regions.ensures.0

pub loop-index-preserved : goal.loop-index-preserved
loop-index-preserved c =
    let w = world_state c.args.self.now in
    let i = c.loop-index.index in
    let old = c.loop-index.locks.items in
    let new = c.push_regions.new.locks.items in
    let end : c.files-index-end.result ≡ c.args.self.now.shape.files = c.files-index-end.ensures.value ∙ ap (λ (p : WorldParts). p.shape.files) c.self.view_is in
    let within = is_number c.args.self.now.shape.files (i + 1) (omega arith) (omega (arith, c.loop-index-test.true)) in
    let made = c.in_ok-push_regions.ensures ∙ ap (λ (regions : List LockInfo). old ++ map (held_lock (i + 1)) regions) c.deref.ensures.value in
    held_next w i [] old new c.loop-index.invariant (adds_locks w (i + 1) c.in_ok-regions.regions.items old new within c.in_ok-regions.ensures made)

pub returns : goal.returns
returns c =
    let end : c.files-index-end.result ≡ c.args.self.now.shape.files = c.files-index-end.ensures.value ∙ ap (λ (p : WorldParts). p.shape.files) c.self.view_is in
    held_all (world_state c.args.self.now) c.loop-index.index c.loop-index.locks.items (omega (arith, c.loop-index-test.false)) c.loop-index.invariant
