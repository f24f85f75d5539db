use Rattle.std.proofs.Common.{length, refl}
use Rattle.std.proofs.lemmas.Option.{slice_get_read}
use Rattle.client_history.proofs.AskLaws.{asked_all, asked_more}
use Rattle.client_history.proofs.search_front.SearchFront.ask_all.Goals as goal

-- the front asked one call more
pub loop-call-preserved : goal.loop-call-preserved
loop-call-preserved c =
    let running = c.args.«open».now in
    let there = slice_get_read running (length running) c.loop-call.call-index c.call-item.result refl c.loop-call-test.true c.call-item.is in
    asked_more running c.args.self.now c.ask.new.self c.loop-call.self c.loop-call.call-index c.call-item.result there c.loop-call.invariant c.in_ok-ask.ensures

-- the front asked all calls
pub returns : goal.returns
returns c = asked_all c.args.«open».now c.args.self.now c.loop-call.self c.loop-call.call-index c.loop-call-test.false c.loop-call.invariant
