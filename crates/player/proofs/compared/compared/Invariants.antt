use Rattle.std.proofs.Common.{◌≡◌, drop}
use Rattle.std.specs.Prelude.{◌||◌}
use Rattle.player.specs.rule.Expectations.{breaks, breaks_from}
use Rattle.player.proofs.compared.compared.Given as goal

abbrev pub invariant-loop-line : goal.invariant-loop-line
invariant-loop-line l = record {
  counted : l.index ≡ l.line-index;
  read : l.reader.text.now ≡ l.text;
  same : (l.breaks || breaks_from l.text l.answers.items l.index (drop l.line-index l.lines)) ≡ breaks l.text l.lines l.answers.items;
}
