use denote.Shadow.{shadow}
use denote.Text.{Utf8}
use Rattle.std.proofs.Common.{◌≡◌, Some}
use Rattle.player.specs.rule.Expectations.{behind}
use Rattle.player.proofs.compared.behind.Given as goal

abbrev pub invariant-loop-left : goal.invariant-loop-left
invariant-loop-left l = record {
  text : shadow (Utf8 l.rest);
  same : behind l.left (Some l.rest) ≡ behind l.count (Some l.text);
}

abbrev pub decreases-loop-left : goal.decreases-loop-left
decreases-loop-left l = l.left
