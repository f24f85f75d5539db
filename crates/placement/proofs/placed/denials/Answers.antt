use Rattle.std.proofs.Common.{◌≡◌, ◌+◌, ◌∙◌, ap, sym, subst, take, All, List, None}
use Rattle.std.specs.HashMap.{get}
use Rattle.std.proofs.lemmas.List.{take_all}
use Rattle.messages.specs.declared.entry.Entry.{Entry}
use Rattle.placement.specs.declared.revoke_id.RevokeId.{RevokeId}
use Rattle.placement.specs.code.Indexes.{Conflicts, KnowsDenial, denied, same_revoke, told_at}
use Rattle.placement.proofs.Index.{denials_put, denials_more, untold_put}
use Rattle.placement.proofs.placed.denials.Goals.{in-Some+in_ok-insert, in_default}
use Rattle.placement.proofs.placed.denials.Goals as goal

-- what the loop keeps
abbrev Keeps : List Entry → Conflicts → Type 0
Keeps es conflicts = record {
  untold : (r : RevokeId) → told_at (get same_revoke conflicts r) ≡ None;
  known : All (λ e. KnowsDenial conflicts e.event) es;
}

pub loop-entry-preserved : goal.loop-entry-preserved
loop-entry-preserved c =
    let es = c.args.entries.now in
    let i = c.loop-entry.entry-index in
    let e = c.entry-item.result in
    let before = c.loop-entry.conflicts in
    let named = ap denied (sym c.event.ensures) ∙ sym c.denied.ensures in
    elim c.match-denied.branch [
      | in-Some+in_ok-insert w ↦ subst (Keeps (take (i + 1) es)) (sym w.conflicts-is) (record {
        untold = untold_put before w.insert.new.self w.in-Some.revoke w.in_ok-insert.ensures.updates.0 c.loop-entry.invariant.untold;
        known = denials_put before w.insert.new.self w.in-Some.revoke w.in_ok-insert.ensures.updates.0 es i e c.loop-entry-test.true c.entry-item.is (named ∙ w.in-Some.is) c.loop-entry.invariant.known;
      })
      | in_default w ↦ subst (Keeps (take (i + 1) es)) (sym w.conflicts-is) (record {
        untold = c.loop-entry.invariant.untold;
        known = denials_more before es i e c.loop-entry-test.true c.entry-item.is (named ∙ w.in_default.is) c.loop-entry.invariant.known;
      })
    ]

pub returns-clause-known : goal.returns-clause-known
returns-clause-known c =
    let es = c.args.entries.now in
    subst (All (λ e. KnowsDenial c.loop-entry.conflicts e.event)) (take_all c.loop-entry.entry-index es c.loop-entry-test.false) c.loop-entry.invariant.known
