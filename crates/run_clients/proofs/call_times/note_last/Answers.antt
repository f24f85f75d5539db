use Rattle.std.proofs.Common.{sym, ◌∙◌}
use Rattle.std.proofs.lemmas.Result.{on_ok_weaker}
use Rattle.run_clients.proofs.LastCalls.{last_noted, last_unnoted}
use Rattle.run_clients.proofs.call_times.note_last.Goals as goal

pub returns-in-Some : goal.returns-in-Some
returns-in-Some c = on_ok_weaker c.note_process.result (λ notes es before there next are.
    last_noted es c.args.position c.args.entry.now there c.args.lasts.now before next are c.note_process.new.lasts c.in-Some.made notes (sym c.made_by.ensures.made ∙ c.in-Some.is) c.made_by.ensures.named) c.note_process.ensures

pub returns-in-None : goal.returns-in-None
returns-in-None c = λ es before there next are. last_unnoted es c.args.position c.args.entry.now there c.args.lasts.now before next are (sym c.made_by.ensures.made ∙ c.in-None.is)
