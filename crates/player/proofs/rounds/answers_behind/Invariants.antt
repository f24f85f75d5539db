use Rattle.std.proofs.Common.{◌≡◌, ◌≤◌, ◌<◌, ℕ, get_or, None}
use Rattle.messages.specs.declared.entry.Entry.{Entry}
use Rattle.player.proofs.rounds.answers_behind.Given as goal

abbrev pub invariant-loop-index : goal.invariant-loop-index
invariant-loop-index l = record {
  from : l.before ≤ l.index;
  silent : (k : ℕ) (d : Entry) → l.before ≤ k → k < l.index → (get_or l.run.entries k d).reply ≡ None;
}
