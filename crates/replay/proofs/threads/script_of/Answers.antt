use Rattle.std.proofs.lemmas.Result.{err_from_is_err_and}
use Rattle.replay.proofs.Stores.{text-held}
use Rattle.replay.proofs.OnThreads.{text_fault}
use Rattle.replay.proofs.threads.script_of.Goals as goal

pub returns-in_err-parse_for_threads-clause-fault : goal.returns-in_err-parse_for_threads-clause-fault
returns-in_err-parse_for_threads-clause-fault g c =
    let Holds = g.S.Store.holds c.args.store.now c.args.path.now in
    let RanShort = g.S.Store.ran_short c.text_of.new.store in
    let text = c.as_str.result.now in
    let held = text-held Holds c.in_ok-text.text c.as_str.result.now c.as_str.ensures.value c.in_ok-text.ensures.text in
    let p = err_from_is_err_and c.from_residual-in_err-parse_for_threads.result c.from_residual-in_err-parse_for_threads.ensures.1 in
    rw (p.1, p.2) (text_fault Holds RanShort c.args.path.now text _ held.0 held.1 c.in_err-parse_for_threads.ensures.refused)
