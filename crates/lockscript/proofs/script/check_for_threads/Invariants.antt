use Rattle.std.proofs.Common.{length}
use Rattle.lockscript.specs.rule.Scripts.{ScriptFields}
use Rattle.lockscript.proofs.ThreadScripts.{BegunForThreads}
use Rattle.lockscript.proofs.script.check_for_threads.Given as goal

abbrev pub invariant-loop-line : goal.invariant-loop-line
invariant-loop-line l = (s : ScriptFields) × BegunForThreads l.text s l.source.rest.now l.source.taken

abbrev pub decreases-loop-line : goal.decreases-loop-line
decreases-loop-line l = length l.source.rest.now
