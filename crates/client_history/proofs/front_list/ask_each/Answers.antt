use Rattle.std.proofs.Common.{length, refl, sym, subst, ◌<◌}
use Rattle.std.proofs.lemmas.Option.{slice_get_read}
use Rattle.client_history.specs.declared.search_front.SearchFront.{SearchFront}
use Rattle.client_history.specs.code.Search.{IsAsked}
use Rattle.client_history.proofs.Standing.{each_none, each_more, each_all}
use Rattle.client_history.proofs.front_list.ask_each.Goals as goal

pub loop-front-init : goal.loop-front-init
loop-front-init c = each_none (IsAsked c.args.call.now) c.args.fronts.now

pub loop-front-preserved : goal.loop-front-preserved
loop-front-preserved c =
    let now = c.loop-front.fronts in
    let n = c.loop-front.front-index in
    let within : n < length now = rw c.loop-front.auto.fronts c.loop-front-test.true in
    let at = slice_get_read now (length now) n c.front-item.result refl within c.front-item.is in
    each_more (IsAsked c.args.call.now) c.args.fronts.now now n c.front-item.result c.ask.new.self c.loop-front.invariant within at (subst (λ (f : SearchFront). IsAsked c.args.call.now f c.ask.new.self) (sym c.front-item.is) (c.in_ok-ask.ensures {u = tt}))

pub returns-clause-asked : goal.returns-clause-asked
returns-clause-asked c = each_all (IsAsked c.args.call.now) c.args.fronts.now c.loop-front.fronts c.loop-front.front-index c.loop-front.invariant c.loop-front-test.false
