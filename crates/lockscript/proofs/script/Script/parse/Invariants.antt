use Rattle.std.proofs.Common.{length}
use Rattle.lockscript.specs.rule.Scripts.{Begun, script_of}
use Rattle.lockscript.proofs.script.Script.parse.Given as goal

abbrev pub invariant-loop-lines : goal.invariant-loop-lines
invariant-loop-lines l = Begun l.text (script_of l.shape l.lines.items) l.source.rest.now l.source.taken

abbrev pub decreases-loop-lines : goal.decreases-loop-lines
decreases-loop-lines l = length l.source.rest.now
