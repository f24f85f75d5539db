use Rattle.std.proofs.Common.{sym, ◌∙◌}
use Rattle.std.proofs.lemmas.Result.{on_ok_weaker}
use Rattle.run_clients.specs.code.Times.{IsAnswered}
use Rattle.run_clients.proofs.LastCalls.{answered_here, answered_never, answered_once, noted, unnoted}
use Rattle.run_clients.proofs.call_times.note_reply.Goals as goal

pub returns-in-Some : goal.returns-in-Some
returns-in-Some c = on_ok_weaker c.note.result (λ notes es before there next found.
    let named = sym c.reply.ensures ∙ c.in-Some.is in
    noted (IsAnswered es) c.args.positions.now before c.args.position next found c.note.new.positions c.in-Some.answer.0 notes
    (answered_here es c.args.position c.args.entry.now there c.in-Some.answer.0 c.in-Some.answer.1 named)
    (answered_once es c.args.position c.args.entry.now there c.in-Some.answer.0 c.in-Some.answer.1 named)) c.note.ensures

pub returns-in-None : goal.returns-in-None
returns-in-None c = λ es before there next found.
    unnoted (IsAnswered es) c.args.positions.now before c.args.position next found (answered_never es c.args.position c.args.entry.now there (sym c.reply.ensures ∙ c.in-None.is))
