-- The outcome of the files before this one is true.
use Rattle.history_text.proofs.JudgedLaws.{SoFar}
use Rattle.history_text.proofs.judged.files_judged.Given as goal

abbrev pub invariant-loop-file : goal.invariant-loop-file
invariant-loop-file l = SoFar l.history l.outcome l.file
