use Rattle.std.proofs.Common.{arith}
use Rattle.lock_table.proofs.PageLemmas.{next_in, next_past}
use Rattle.lock_table.proofs.flag_set.FlagSet.next.Goals as goal

pub returns-then-low-lt-WORD-clause-none_below : goal.returns-then-low-lt-WORD-clause-none_below
returns-then-low-lt-WORD-clause-none_below c = next_in c.args.self.now c.args.flag c.lowest_bit-low.result c.lowest_bit-low.ensures.none_below c.lowest_bit-low.ensures.within

pub loop-word-init : goal.loop-word-init
loop-word-init c = λ k from below. next_in c.args.self.now c.args.flag c.lowest_bit-low.result c.lowest_bit-low.ensures.none_below c.lowest_bit-low.ensures.within k from (omega arith)

pub loop-word-preserved : goal.loop-word-preserved
loop-word-preserved c = λ k from below. next_past c.args.self.now c.args.flag c.loop-word.word c.lowest_bit-low-in-loop-word.result c.loop-word.invariant c.lowest_bit-low-in-loop-word.ensures.none_below c.lowest_bit-low-in-loop-word.ensures.within k from (omega arith)
