use Rattle.std.proofs.lemmas.Result.{on_ok_weaker}
use Rattle.history_text.proofs.known_names.KnownNames.next_deed.Goals as goal

pub returns-in-Ok-next_asked-clause-learns : goal.returns-in-Ok-next_asked-clause-learns
returns-in-Ok-next_asked-clause-learns c = on_ok_weaker c.asks.result (λ learns. learns c.args.exit.line) c.asks.ensures.learns
