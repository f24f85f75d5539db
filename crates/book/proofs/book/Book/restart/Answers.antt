use Rattle.std.proofs.Common.{None, refl, sym, subst}
use Rattle.messages.specs.declared.event.Event.TheVariants.{Member}
use Rattle.messages.specs.declared.event.MemberEvent.TheVariants.{Restart}
use Rattle.messages.specs.declared.entry.Entry.{Entry}
use Rattle.node_core.specs.rule.Parts.{node_state}
use Rattle.cluster_core.specs.rule.World.{WorldState}
use Rattle.cluster_core.specs.rule.Parts.{world_state}
use Rattle.cluster_core.specs.rule.Journals.{RunFields}
use Rattle.cluster_core.proofs.steps.Steps.{kept_taken}
use Rattle.book.specs.declared.state.State.TheVariants.{OfNode}
use Rattle.book.specs.rule.States.{SeatFields}
use Rattle.book.specs.rule.Commits.{Restarted}
use Rattle.book.proofs.Steps.{restarted_mine}
use Rattle.book.proofs.Committed.{restarted, turned_reached}
use Rattle.book.proofs.book.Book.restart.Goals as goal

pub returns-clause-ok : goal.returns-clause-ok
returns-clause-ok g c =
    let b = c.self.inside.run in
    let d = c.restart.new.self in
    let n = c.args.node in
    let went = c.in_ok-begun.ensures.ok in
    let q : WorldState × Entry = (world_state d.world, went.0) in
    let seat : SeatFields = record { standing = record { copy = OfNode n c.in_ok-begun.begun; behind = None }; commits = 0 } in
    let stands = restarted_mine (world_state b.world) n q (node_state c.in_ok-begun.begun.value) (kept_taken (world_state b.world) (Member (Restart n)) q went.1).1 c.in_ok-begun.ensures.begun in
    let made : Restarted b n d seat = restarted b d n seat went refl refl stands in
    let same : Restarted b n d c.new.result = subst (λ (x : SeatFields). Restarted b n d x) (sym c.new.ensures) made in
    subst (λ (x : RunFields). Restarted x n d c.new.result) c.self.view_is same

pub invariant_of-self-2 : goal.invariant_of-self-2
invariant_of-self-2 g c = turned_reached c.self.inside.run c.restart.new.self (Restart c.args.node) c.self.inside.spots c.forget.new.self c.in_ok-begun.ensures.ok c.self.invariant c.forget.ensures
