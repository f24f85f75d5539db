use Rattle.std.proofs.lemmas.Result.{on_ok_weaker}
use Rattle.run_clients.proofs.call_times.CallTimes.note.Goals as goal

pub returns : goal.returns
returns c = on_ok_weaker c.note_last.result (λ lasts es before there next are. record {
  begins = c.in_ok-note_call.ensures es before there next are.begins;
  ends = c.in_ok-note_reply.ensures es before there next are.ends;
  lasts = lasts es before there next are.lasts;
}) c.note_last.ensures
