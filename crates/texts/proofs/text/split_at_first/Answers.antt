use Rattle.std.proofs.Common.{rules, arith}
use Rattle.std.proofs.lemmas.Str.{lead_after_ascii}
use Rattle.texts.proofs.text.split_at_first.Goals as goal

pub range_from-requires : goal.range_from-requires
range_from-requires c = search (rules, arith, lead_after_ascii c.args.text.now c.in_ok-at.at c.utf8.text)
