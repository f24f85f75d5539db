use Rattle.std.proofs.Common.{rules}
use Rattle.texts.proofs.FirstWords.{none-with}
use Rattle.texts.proofs.OfKinds.{reads-made}
use Rattle.lockscript.proofs.OperationKinds.{begins-op, opens, queries, sets, unlocks, waits}
use Rattle.lockscript.proofs.operations.op_with.Goals as goal

pub returns-in-open : goal.returns-in-open
returns-in-open c = rw c.in-open.is (reads-made opens.kind c.args.operands.now c.read-in-open.result c.map-in-open.result c.read-in-open.ensures c.map-in-open.ensures.cases (λ f x made. search rules))

pub returns-in-set : goal.returns-in-set
returns-in-set c = rw c.in-set.is (reads-made sets.kind c.args.operands.now c.read-in-set.result c.map-in-set.result c.read-in-set.ensures c.map-in-set.ensures.cases (λ f x made. search rules))

pub returns-in-wait : goal.returns-in-wait
returns-in-wait c = rw c.in-wait.is (reads-made waits.kind c.args.operands.now c.read-in-wait.result c.map-in-wait.result c.read-in-wait.ensures c.map-in-wait.ensures.cases (λ f x made. search rules))

pub returns-in-unlock : goal.returns-in-unlock
returns-in-unlock c = rw c.in-unlock.is (reads-made unlocks.kind c.args.operands.now c.read-in-unlock.result c.map-in-unlock.result c.read-in-unlock.ensures c.map-in-unlock.ensures.cases (λ f x made. search rules))

pub returns-in-query : goal.returns-in-query
returns-in-query c = rw c.in-query.is (reads-made queries.kind c.args.operands.now c.read-in-query.result c.map-in-query.result c.read-in-query.ensures c.map-in-query.ensures.cases (λ f x made. search rules))

pub returns-in_default : goal.returns-in_default
returns-in_default c =
    let other = c.in_default in
    none-with begins-op c.args.word.now c.args.operands.now c.requires (other.not-fork, (other.not-open, (other.not-dup, (other.not-close, (other.not-set, (other.not-wait, (other.not-unlock, (other.not-query, tt))))))))
