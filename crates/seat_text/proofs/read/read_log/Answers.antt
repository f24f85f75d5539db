use Rattle.std.proofs.Common.{sym, ◌∙◌}
use Rattle.seat_text.proofs.Reading.{log_is}
use Rattle.seat_text.proofs.read.read_log.Goals as goal

pub returns-in-Ok : goal.returns-in-Ok
returns-in-Ok c =
    let torn = c.torn_end-torn.ensures in
    let made = c.in_ok-read_blocks.ensures in
    let parts = c.new-parts.ensures in
    log_is c.args.text.now c.in-Some.head c.in-Some.ensures.0 torn.whole c.torn_end-torn.result.now c.head.new.self.text.now c.read_blocks.new.reader.text.now c.new-parts.result c.read_blocks.new.parts made.0 c.in-Ok.logs.items c.in-Ok.changes.items
    torn.parts torn.is_torn (sym c.new-reader.ensures ∙ c.in-Some.ensures.1) made.1 made.2 parts.actor parts.now parts.nothing parts.none made.3 c.in-Ok.ensures.entries c.in-Ok.ensures.own c.in-Ok.ensures.told
