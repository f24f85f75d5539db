use Rattle.std.proofs.Common.{inl, inr, refl, rules}
use Rattle.seat_text.proofs.Reading.{tears_more, tears_none}
use Rattle.seat_text.proofs.read.torn_end.Goals as goal

pub loop-line-init : goal.loop-line-init
loop-line-init c = (c.utf8.text, c.utf8.text, tears_none c.args.text.now)

pub loop-line-preserved-then-ends_block : goal.loop-line-preserved-then-ends_block
loop-line-preserved-then-ends_block c =
    let t = c.split_line.type_inv in
    let i = c.in-Some.is in (
      search rules,
      search rules,
      tears_more c.args.text.now c.loop-line.torn.now c.loop-line.rest.now c.in-Some.line.now c.in-Some.behind.now c.in-Some.behind.now c.loop-line.invariant.2 c.in-Some.ensures (inr refl),
    )

pub loop-line-preserved : goal.loop-line-preserved
loop-line-preserved c =
    let t = c.split_line.type_inv in
    let i = c.in-Some.is in (
      search rules,
      c.loop-line.invariant.1,
      tears_more c.args.text.now c.loop-line.torn.now c.loop-line.rest.now c.in-Some.line.now c.in-Some.behind.now c.loop-line.torn.now c.loop-line.invariant.2 c.in-Some.ensures (inl (c.ends_block.ensures c.if-ends_block.false, refl)),
    )
