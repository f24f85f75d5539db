use Rattle.std.specs.Prelude.{◌==◌, not}
use Rattle.std.proofs.Common.{rules, tests}
use Rattle.std.proofs.lemmas.Fn.{filter_same}
use Rattle.seat_text.proofs.writing.forget.Goals as goal

pub returns : goal.returns
returns c = filter_same _ (λ t. not (t.pid == c.args.pid)) _ (λ x b q k. search (rules, tests)) _ _ c.retain.ensures.filtered
