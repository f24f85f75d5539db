use Rattle.replay.proofs.Paths.{nothing, now_of}
use Rattle.replay.proofs.Stores.{same-after}
use Rattle.std.proofs.Common.{get_or}
use Rattle.seat_text.specs.rule.Logs.{IsLog}
use Rattle.seat_commands.proofs.Having.{has_text, read_more}
use Rattle.seat_commands.proofs.logs.logs_of.Goals as goal

pub loop-path-preserved : goal.loop-path-preserved
loop-path-preserved g c =
    let holds = g.S.Store.holds in
    let at_loop = c.loop-path.invariant in
    let path = now_of (get_or c.args.paths.now c.loop-path.path-index nothing) in
    let has =
    has_text (holds c.loop-path.store path) c.in_ok-text.text c.as_str.result.now (λ text. IsLog text c.in-Ok.log.head c.in-Ok.log.logs.items c.in-Ok.log.changes.items) c.as_str.ensures.value c.in_ok-text.ensures.text
    c.in-Ok.ensures in
    record {
      have =
          read_more (holds c.args.store.now) (holds c.loop-path.store) c.args.paths.now c.loop-path.path-index nothing c.loop-path.logs.items c.push.new.self.items _
          c.loop-path-test.true at_loop.have at_loop.files has c.in_ok-push-in-Ok.ensures.items;
      files = same-after (holds c.args.store.now) (holds c.loop-path.store) (holds c.text_of.new.store) at_loop.files c.text_of.ensures.files;
    }
