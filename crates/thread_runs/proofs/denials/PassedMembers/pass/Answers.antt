use Rattle.std.specs.Prelude.{true}
use Rattle.std.specs.BTreeMap as tree
use Rattle.std.specs.Ordering.{nat_cmp}
use Rattle.std.proofs.Common.{◌≡◌, ◌⊎◌, ℕ, Some, sym, ◌∙◌, subst}
use Rattle.messages.specs.rule.Members.{MembersParts, members_state}
use Rattle.thread_runs.specs.rule.Runs.{parts, MayCallCome, declares}
use Rattle.thread_runs.specs.code.Awaited.{members_of}
use Rattle.lockscript.specs.declared.script_line.ScriptCommand.{ScriptCommand}
use Rattle.thread_runs.proofs.Denied.{call_may, if_ok, met_past}
use Rattle.thread_runs.proofs.denials.PassedMembers.pass.Goals as goal

pub returns-in-Call-clause-may : goal.returns-in-Call-clause-may
returns-in-Call-clause-may c = if_ok c.pass_call.result _ _
    (λ may p e behind met.
    let r = p e (parts c.args.no_join) behind met in
    let call = subst (λ (ms : MembersParts). MayCallCome (parts c.args.no_join) c.args.shape (members_state ms.nodes) c.in-Call.node c.in-Call.pid c.in-Call.op c.args.line.now.outcome behind) c.meet.ensures.members r.0 in
    let does = subst (λ (k : ScriptCommand). (n after : ℕ) → tree.get nat_cmp c.args.self.now.awaited n ≡ Some after → (declares n after k c.args.line.now.outcome ≡ true) ⊎ (tree.get nat_cmp c.meet.new.self.awaited n ≡ Some after)) c.command-command.ensures.value (c.meet.ensures.awaited c.if-not-meet.false) in (
      call_may (parts c.args.no_join) c.args.shape (members_of c.args.self.now.members) c.args.line.now.line.command c.in-Call.node c.in-Call.pid c.in-Call.op c.args.line.now.outcome behind (sym c.command-command.ensures.value ∙ c.in-Call.is) call,
      met_past (parts c.args.no_join) c.args.self.now.awaited c.meet.new.self.awaited c.args.line.now behind (c.may_part.ensures c.if-not-may_part.false) does r.1,
    ))
    c.pass_call.ensures.may
