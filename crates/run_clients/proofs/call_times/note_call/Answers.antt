use Rattle.std.proofs.Common.{sym, ◌∙◌}
use Rattle.std.proofs.lemmas.Result.{on_ok_weaker}
use Rattle.run_clients.specs.code.Times.{IsMade}
use Rattle.run_clients.proofs.LastCalls.{made_here, made_never, made_once, noted, unnoted}
use Rattle.run_clients.proofs.call_times.note_call.Goals as goal

pub returns-in-Some : goal.returns-in-Some
returns-in-Some c = on_ok_weaker c.note.result (λ notes es before there next found.
    let named = sym c.call.ensures.value ∙ c.in-Some.is in
    noted (IsMade es) c.args.positions.now before c.args.position next found c.note.new.positions c.in-Some.id notes
    (made_here es c.args.position c.args.entry.now there c.in-Some.id named c.in-Some.ensures.named)
    (made_once es c.args.position c.args.entry.now there c.in-Some.id named)) c.note.ensures

pub returns-in-None : goal.returns-in-None
returns-in-None c = λ es before there next found.
    unnoted (IsMade es) c.args.positions.now before c.args.position next found (made_never es c.args.position c.args.entry.now there (sym c.call.ensures.value ∙ c.in-None.is))
