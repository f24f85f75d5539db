use Rattle.std.proofs.Common.{length}
use Rattle.lockscript.specs.rule.Scripts.{Begun, ScriptFields}
use Rattle.lockscript.proofs.script.check.Given as goal

abbrev pub invariant-loop-line : goal.invariant-loop-line
invariant-loop-line l = (s : ScriptFields) × Begun l.text s l.source.rest.now l.source.taken

abbrev pub decreases-loop-line : goal.decreases-loop-line
decreases-loop-line l = length l.source.rest.now
