use Rattle.std.proofs.Common.{length, refl, sym, subst, ⊎_elim, arith}
use Rattle.std.proofs.lemmas.Option.{slice_get_read, slice_get_within}
use Rattle.client_history.specs.code.Search.{IsSound}
use Rattle.client_history.proofs.Orders.{last_place, get_one}
use Rattle.client_history.proofs.sound.are_sound.Goals as goal

pub loop-call-preserved : goal.loop-call-preserved
loop-call-preserved c = λ k call lt there.
    let calls = c.args.calls.now in
    let i = c.loop-call.call-index in
    let at = slice_get_read calls (length calls) i c.call-item.result refl c.loop-call-test.true c.call-item.is in
    ⊎_elim (λ below. c.loop-call.invariant k call below there) (λ e. subst (IsSound calls) (sym (get_one calls k i call c.call-item.result e there at)) (c.is_sound.ensures c.if-not-is_sound.false)) (last_place k i lt)

pub returns : goal.returns
returns c = λ yes k call there. let within = slice_get_within c.args.calls.now k call there in let past = c.loop-call-test.false in c.loop-call.invariant k call (omega arith) there
