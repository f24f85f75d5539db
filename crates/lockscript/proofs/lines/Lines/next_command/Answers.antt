use Rattle.std.proofs.Common.{◌≡◌, ◌+◌, ◌∙◌, sym, true, [], arith}
use Rattle.texts.specs.rule.LineFeeds.{is_skipped}
use Rattle.lockscript.proofs.Passes.{passes-join, passes-skipped, shorter-line}
use Rattle.lockscript.proofs.lines.Lines.next_command.Goals as goal

pub loop-line-preserved : goal.loop-line-preserved
loop-line-preserved c =
    let start = c.args.self.now in
    let here = c.loop-line.self in
    let line = rw c.in-Some.is at c.in_ok-line.ensures.line in
    let skipped : is_skipped c.in-Some.line.text.now ≡ true = sym c.is_skipped.ensures ∙ c.if-not-is_skipped.false in
    let next = passes-skipped here.rest.now c.in-Some.line.text.now c.next_line.new.self.rest.now here.taken line.0 skipped in
    record {
      passes = rw (line.2, line.1) (passes-join start.rest.now start.taken [] here.rest.now here.taken [] c.next_line.new.self.rest.now (here.taken + 1) c.loop-line.invariant.passes next);
      shrinks = omega (arith, shorter-line here.rest.now c.in-Some.line.text.now c.next_line.new.self.rest.now line.0);
    }
