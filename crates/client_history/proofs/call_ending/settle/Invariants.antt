use Rattle.std.proofs.Common.{ℕ, ◌<◌, ◌⊎◌, List}
use Rattle.client_history.specs.declared.client_call.ClientCall.{ClientCall}
use Rattle.client_history.specs.code.Search.{IsCovered, IsEnding, AreTaken}
use Rattle.client_history.proofs.call_ending.settle.Given as goal

abbrev pub decreases-loop-left : goal.decreases-loop-left
decreases-loop-left l = l.left

abbrev pub invariant-loop-left : goal.invariant-loop-left
invariant-loop-left l = record {
  taken : AreTaken l.ending.end l.done.items;
  goes : 0 < l.left → (calls : List ClientCall) (begun over : List ℕ) (time : ℕ) → IsEnding calls begun over l.ending.«open».now time l.ending.end → IsCovered calls over l.ending.«open».now time l.fn.fronts.items → IsCovered calls over l.ending.«open».now time l.layer.items ⊎ IsCovered calls over l.ending.«open».now time l.done.items;
}
