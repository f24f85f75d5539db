use Rattle.std.proofs.Common.{◌≡◌, ℕ, subst}
use Rattle.model.specs.rule.Locks.{IsRegion}
use Rattle.lock_table.specs.rule.Tables.{held}
use Rattle.token_set.specs.rule.Tokens.{IsRevocable, IsGivenUp}
use Rattle.messages.specs.rule.TokenRuns.{Wants}
use Rattle.node_core.proofs.NodeLaws.{node-gives}
use Rattle.node_core.proofs.node.Node.gives.Goals as goal

pub returns : goal.returns
returns c =
    let w = c.args.wanted in
    let mode = c.args.command.now.mode in
    let required = c.wanted-inside.invariant in
    let revocable : IsRevocable w.required w.desired = record {
      ordered = rw (← c.wanted.view_is) (rw (← c.wanted-inside.view_is) required.0);
      within = rw (← c.wanted.view_is) (rw (← c.wanted-inside.view_is) required.1);
      starts = rw (← c.wanted.view_is) c.wanted.invariant.0;
      ends = rw (← c.wanted.view_is) c.wanted.invariant.1;
    } in
    let gives = c.by_locks.result in
    let file : c.get-file.result ≡ c.args.command.now.file = c.get-file.ensures.value in
    let of_wanted = subst (λ (x : Wants). IsGivenUp (IsRegion (held c.self.inside.locks c.get-file.result)) mode x.required x.desired gives) c.wanted.view_is c.by_locks.ensures in
    let given = subst (λ (f : ℕ). IsGivenUp (IsRegion (held c.self.inside.locks f)) mode w.required w.desired gives) file of_wanted in
    rw (← c.self.view_is) (node-gives _ c.args.command.now.file mode w.required w.desired _ c.self.invariant revocable given)
