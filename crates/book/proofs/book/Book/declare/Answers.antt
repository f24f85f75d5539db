use Rattle.std.proofs.Common.{◌≡◌, sym, ap, ◌∙◌, subst, Err}
use Rattle.std.proofs.lemmas.Result.{err_from_is_err_and}
use Rattle.messages.specs.declared.event.Event.TheVariants.{Member}
use Rattle.messages.specs.declared.event.MemberEvent.TheVariants.{Declare}
use Rattle.messages.specs.declared.refusal.Refused.{Refused}
use Rattle.cluster_core.specs.rule.Next.{kept_next}
use Rattle.cluster_core.specs.rule.Parts.{world_state}
use Rattle.cluster_core.proofs.steps.CertainRefusals.{err_is, declare-unspent}
use Rattle.messages.specs.rule.Messages.{sending}
use Rattle.cluster_core.specs.rule.Journals.{RunFields}
use Rattle.book.specs.rule.States.{StampFields}
use Rattle.book.specs.rule.Commits.{Declared}
use Rattle.book.proofs.Committed.{declared, turned_reached}
use Rattle.book.proofs.book.Book.declare.Goals as goal

pub returns-clause-ok : goal.returns-clause-ok
returns-clause-ok g c =
    let b = c.self.inside.run in
    let d = c.take.new.self in
    let n = c.args.node in
    let t = c.new.result in
    let is = c.new.ensures in
    let position = ap (λ (x : StampFields). x.position) is ∙ c.len-position.ensures.value in
    let gave = ap (λ (x : StampFields). x.outcome) is ∙ c.sending-outcome.ensures ∙ ap sending c.nothing.ensures in
    let made : Declared b n d t = declared b d n t c.in_ok-take.ensures.ok position (ap (λ (x : StampFields). x.event) is) gave (ap (λ (x : StampFields). x.seen) is) in
    subst (λ (x : RunFields). Declared x n d t) c.self.view_is made

pub returns-in_err-take-clause-refused : goal.returns-in_err-take-clause-refused
returns-in_err-take-clause-refused g c = λ e refused.
    let before : kept_next (world_state c.self.inside.run.world) (Member (Declare c.args.node)) ≡ Err e = subst (λ (r : RunFields). kept_next (world_state r.world) (Member (Declare c.args.node)) ≡ Err e) (sym c.self.view_is) refused in
    let told = err_from_is_err_and c.from_residual.result c.from_residual.ensures.1 in
    let same = c.in_err-take.ensures.refused e (declare-unspent (world_state c.self.inside.run.world) c.args.node e before) before in
    told.1 ∙ ap (λ (r : Refused). Err r) (told.2 ∙ err_is _ _ same)

pub invariant_of-self-2 : goal.invariant_of-self-2
invariant_of-self-2 g c = turned_reached c.self.inside.run c.take.new.self (Declare c.args.node) c.self.inside.spots c.forget.new.self c.in_ok-take.ensures.ok c.self.invariant c.forget.ensures
