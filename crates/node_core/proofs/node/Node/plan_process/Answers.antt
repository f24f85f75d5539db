use Rattle.std.proofs.Common.{◌≡◌, Result, subst, sym, true}
use Rattle.model.specs.declared.op.Op.TheVariants as op
use Rattle.model.specs.declared.reply.Reply.{Reply}
use Rattle.model.specs.rule.Descriptors.{Processes, after}
use Rattle.descriptors.proofs.RowLaws.{can_begin}
use Rattle.node_core.specs.rule.Calls.{is_in_shape}
use Rattle.node_core.specs.rule.Parts.{node_state}
use Rattle.node_core.proofs.NodeLaws.{beside-ok, beside-err, call-within, possible_call}
use Rattle.node_core.proofs.node.Node.plan_process.Goals as goal

pub plan-requires : goal.plan-requires
plan-requires c = can_begin c.args.pid c.args.call c.requires.pid (possible_call (node_state c.args.self.now).shape c.args.call c.requires.file)

pub returns-in-Ok-clause-value : goal.returns-in-Ok-clause-value
returns-in-Ok-clause-value c = rw (← c.self.view_is) (beside-ok _ c.args.pid c.in-Ok.edit _ (λ ps. after ps c.args.pid c.args.call) c.in-Ok.ensures.ok)

pub returns-in-Ok-clause-fits : goal.returns-in-Ok-clause-fits
returns-in-Ok-clause-fits c =
    let file = subst (λ n. is_in_shape (node_state n).shape (op.Process c.args.call) ≡ true) (sym c.self.view_is) c.requires.file in
    rw (← c.self.view_is) (call-within _ c.in-Ok.edit c.args.pid c.args.call c.in-Ok.reply c.in-Ok.ensures.ok file c.in-Ok.ensures.fits c.self.invariant)

pub returns-in_ok-reply-in-Err-clause-value : goal.returns-in_ok-reply-in-Err-clause-value
returns-in_ok-reply-in-Err-clause-value c =
    let f : Processes → Result (Processes × Reply) Reply = λ ps. after ps c.args.pid c.args.call in
    rw (← c.self.view_is) (beside-err _ c.args.pid _ f (c.in_ok-reply-in-Err.ensures _ c.in-Err.ensures.err))
