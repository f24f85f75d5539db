use Rattle.std.proofs.Common.{None, refl, sym, ap, ◌∙◌, subst}
use Rattle.messages.specs.declared.event.Event.TheVariants.{Member}
use Rattle.messages.specs.declared.event.MemberEvent.TheVariants.{StartServer}
use Rattle.messages.specs.declared.entry.Entry.{Entry}
use Rattle.token_server.specs.rule.Parts.{server_state}
use Rattle.cluster_core.specs.rule.World.{WorldState}
use Rattle.cluster_core.specs.rule.Parts.{world_state}
use Rattle.cluster_core.specs.rule.Journals.{RunFields}
use Rattle.cluster_core.proofs.steps.Steps.{kept_taken}
use Rattle.book.specs.declared.state.State.TheVariants.{OfServer}
use Rattle.book.specs.rule.States.{SeatFields, StampFields}
use Rattle.book.specs.rule.Commits.{Started}
use Rattle.book.proofs.Steps.{started_mine}
use Rattle.book.proofs.Committed.{started, turned_reached}
use Rattle.book.proofs.book.Book.start_server.Goals as goal

pub returns-clause-ok : goal.returns-clause-ok
returns-clause-ok g c =
    let b = c.self.inside.run in
    let d = c.start.new.self in
    let f = c.args.file in
    let t = c.new-stamp.result in
    let is = c.new-stamp.ensures in
    let went = c.in_ok-begun.ensures.ok in
    let q : WorldState × Entry = (world_state d.world, went.0) in
    let seat : SeatFields = record { standing = record { copy = OfServer f c.in_ok-begun.begun; behind = None }; commits = 0 } in
    let stands = started_mine (world_state b.world) f q (server_state c.in_ok-begun.begun.value) (kept_taken (world_state b.world) (Member (StartServer f)) q went.1).1 c.in_ok-begun.ensures.begun in
    let position = ap (λ (x : StampFields). x.position) is ∙ c.len-position.ensures.value in
    let gave = ap (λ (x : StampFields). x.outcome) is ∙ c.in_ok-begun.ensures.asks in
    let made : Started b f d seat t = started b d f seat t went refl refl stands position (ap (λ (x : StampFields). x.event) is) gave (ap (λ (x : StampFields). x.seen) is) in
    let same : Started b f d c.new.result t = subst (λ (x : SeatFields). Started b f d x t) (sym c.new.ensures) made in
    subst (λ (x : RunFields). Started x f d c.new.result t) c.self.view_is same

pub invariant_of-self-2 : goal.invariant_of-self-2
invariant_of-self-2 g c = turned_reached c.self.inside.run c.start.new.self (StartServer c.args.file) c.self.inside.spots c.forget.new.self c.in_ok-begun.ensures.ok c.self.invariant c.forget.ensures
