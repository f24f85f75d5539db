use Rattle.std.proofs.Common.{◌≡◌, sym, ap, ◌∙◌, subst, Err}
use Rattle.std.proofs.lemmas.Result.{err_from_is_err_and}
use Rattle.messages.specs.declared.event.Event.TheVariants.{Member}
use Rattle.messages.specs.declared.event.MemberEvent.TheVariants.{FailServer}
use Rattle.messages.specs.declared.refusal.Refused.{Refused}
use Rattle.cluster_core.specs.rule.Next.{kept_next}
use Rattle.cluster_core.specs.rule.Parts.{world_state}
use Rattle.cluster_core.proofs.steps.CertainRefusals.{err_is, fail-unspent}
use Rattle.messages.specs.rule.Messages.{sending}
use Rattle.cluster_core.specs.rule.Journals.{RunFields}
use Rattle.book.specs.rule.States.{StampFields}
use Rattle.book.specs.rule.Commits.{Failed}
use Rattle.book.proofs.Committed.{failed, turned_reached}
use Rattle.book.proofs.book.Book.fail_server.Goals as goal

pub returns-clause-ok : goal.returns-clause-ok
returns-clause-ok g c =
    let b = c.self.inside.run in
    let d = c.take.new.self in
    let f = c.args.file in
    let t = c.new.result in
    let is = c.new.ensures in
    let position = ap (λ (x : StampFields). x.position) is ∙ c.len-position.ensures.value in
    let gave = ap (λ (x : StampFields). x.outcome) is ∙ c.sending-outcome.ensures ∙ ap sending c.nothing.ensures in
    let made : Failed b f d t = failed b d f t c.in_ok-take.ensures.ok position (ap (λ (x : StampFields). x.event) is) gave (ap (λ (x : StampFields). x.seen) is) in
    subst (λ (x : RunFields). Failed x f d t) c.self.view_is made

pub returns-in_err-take-clause-refused : goal.returns-in_err-take-clause-refused
returns-in_err-take-clause-refused g c = λ e refused.
    let before : kept_next (world_state c.self.inside.run.world) (Member (FailServer c.args.file)) ≡ Err e = subst (λ (r : RunFields). kept_next (world_state r.world) (Member (FailServer c.args.file)) ≡ Err e) (sym c.self.view_is) refused in
    let told = err_from_is_err_and c.from_residual.result c.from_residual.ensures.1 in
    let same = c.in_err-take.ensures.refused e (fail-unspent (world_state c.self.inside.run.world) c.args.file e before) before in
    told.1 ∙ ap (λ (r : Refused). Err r) (told.2 ∙ err_is _ _ same)

pub invariant_of-self-2 : goal.invariant_of-self-2
invariant_of-self-2 g c = turned_reached c.self.inside.run c.take.new.self (FailServer c.args.file) c.self.inside.spots c.forget.new.self c.in_ok-take.ensures.ok c.self.invariant c.forget.ensures
