use Rattle.std.proofs.Common.{◌≡◌}
use Rattle.std.specs.Prelude.{Ok, Err, IfOk, IfErr}
use Rattle.std.proofs.lemmas.Result.{IfOk-weaker}
use Rattle.model.specs.declared.reply.Reply.TheVariants.{NoProcess}
use Rattle.model.specs.rule.Descriptors.{Processes, after}
use Rattle.descriptors.specs.code.Rows.{Refuses}
use Rattle.descriptors.specs.code.Edits.{edited}
use Rattle.fcntl_table.proofs.HostLaws.{by_found, by_not_found, fits_on, none-refused}
use Rattle.fcntl_table.proofs.hosts.Hosts.plan.Goals as goal

pub returns-in-Some-clause-ok : goal.returns-in-Some-clause-ok
returns-in-Some-clause-ok c =
    let P : Processes → Type 0 = λ ps. IfOk c.plan.result (λ planned. after ps c.args.pid c.args.call ≡ Ok (edited ps planned.0, planned.1)) in
    rw (← c.self.view_is) (by_found P _ c.args.host c.in-Some.node.now c.in-Some.ensures.value c.plan.ensures.ok)

pub returns-in-Some-clause-err : goal.returns-in-Some-clause-err
returns-in-Some-clause-err c =
    let P : Processes → Type 0 = λ ps. IfErr c.plan.result (λ error. Refuses error (after ps c.args.pid c.args.call)) in
    rw (← c.self.view_is) (by_found P _ c.args.host c.in-Some.node.now c.in-Some.ensures.value c.plan.ensures.err)

pub returns-in-Some-clause-fits : goal.returns-in-Some-clause-fits
returns-in-Some-clause-fits c =
    rw (← c.self.view_is) (IfOk-weaker c.plan.result _ _ (λ planned fits. fits_on c.self.inside.by_host.entries c.args.host c.in-Some.node.now planned.0 c.in-Some.ensures.value fits) c.plan.ensures.fits)

pub returns-in-None-clause-err : goal.returns-in-None-clause-err
returns-in-None-clause-err c =
    let P : Processes → Type 0 = λ ps. after ps c.args.pid c.args.call ≡ Err NoProcess in
    rw (← c.self.view_is) (by_not_found P _ c.args.host c.in-None.ensures.value (none-refused _ c.args.host c.args.pid c.args.call c.in-None.ensures.value (rw c.self.view_is c.requires.kept)))
