-- What locks depend on.
use Rattle.std.proofs.Common.{◌≡◌, ℕ, true, ◌&&◌, ◌==◌, refl, subst, ℤ, Option, Some, Ok}
use Rattle.std.proofs.lemmas.Bool.{and_from, eq-eqb}
use Rattle.std.proofs.lemmas.Option.{none-some}
use Rattle.intervals.specs.rule.Segment.{seg}
use Rattle.model.specs.declared.mode.Mode.{Mode}
use Rattle.model.specs.declared.owner.Kind.{Kind}
use Rattle.model.specs.declared.owner.Kind.TheVariants.{OfProcess, OfDescription}
use Rattle.model.specs.declared.owner.Owner.{Owner}
use Rattle.model.specs.declared.opened.Opened.{Opened}
use Rattle.model.specs.declared.process.Process.{Process}
use Rattle.model.specs.declared.reply.Reply.TheVariants.{NoProcess}
use Rattle.model.specs.rule.Locks.{Locks}
use Rattle.model.specs.rule.Descriptors.{Processes, no_processes}
use Rattle.model.specs.rule.Table.{Table, LockTarget, is_running, descriptor, target, target_at, owner_of}
use Rattle.model.specs.rule.Anchors.{Hangs, AreAnchored}
use Rattle.model.proofs.Refusals.{if_then}
use Rattle.model.proofs.Targets.{passes_at}

pub anchored_none : (h : Locks) (n i : ℕ) → ((file : ℕ) (owner : Owner) (b : ℕ) (mode : Mode) → h file owner b ≡ Some mode → ⊥) → AreAnchored no_processes h n i
anchored_none h n i none = record {
  numbers = λ pid r. absurd (cc);
  descriptors = λ pid fd o r. absurd (none-some o r);
  agree = λ pid fd qid k o x r. absurd (none-some o r);
  locks = λ file owner b mode node incarnation held. absurd (none file owner b mode held);
}

-- what a lock depends on still stands where the descriptors stay
pub hangs_on : (file : ℕ) (kind : Kind) (number : ℕ) (before after : Processes) → ((q fd : ℕ) (x : Opened) → before.opened q fd ≡ Some x → after.opened q fd ≡ Some x) → Hangs before file kind number → Hangs after file kind number
hangs_on file OfProcess number before after stays (fd, x, h, of) = (fd, x, stays number fd x h, of)
hangs_on file OfDescription number before after stays (q, fd, x, h, description, of) = (q, fd, x, stays q fd x h, description, of)

-- the lock of a call that passes its tests would depend on the descriptor of the call
pub target_hangs : (t : Table) (p : Process) (need : Option Mode) (fd : ℕ) (kind : Kind) (start len : ℤ) (c : LockTarget) → target t p need fd kind start len ≡ Ok c → Hangs (t.on p.node p.incarnation) c.file c.owner.kind c.owner.number
target_hangs t p need fd kind start len c h =
    let runs = if_then (is_running t p) (target_at p need kind (descriptor t p fd) (seg start len)) c NoProcess h in
    let passes = passes_at p need kind (descriptor t p fd) (seg start len) c runs.1 in
    subst (λ (x : LockTarget). Hangs (t.on p.node p.incarnation) x.file x.owner.kind x.owner.number) passes.is (its kind passes.what passes.there)
  where
    its : (k : Kind) (o : Opened) → descriptor t p fd ≡ Some o → Hangs (t.on p.node p.incarnation) o.file (owner_of p k o).kind (owner_of p k o).number
    its OfProcess o there = (fd, o, there, refl)
    its OfDescription o there = (p.pid, fd, o, there, refl, refl)

-- the node is itself
pub itself : (n i : ℕ) → ((n == n) && (i == i)) ≡ true
itself n i = and_from _ _ (eq-eqb n n refl) (eq-eqb i i refl)
