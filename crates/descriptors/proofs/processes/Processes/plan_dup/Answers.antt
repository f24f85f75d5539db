use Rattle.std.proofs.Common.{◌<◌, ℕ, sym, ap, subst, ◌∙◌, inl}
use Rattle.model.proofs.DescriptorLaws.{lowest_fd-free}
use Rattle.descriptors.specs.rule.Rows.{processes}
use Rattle.descriptors.proofs.RowLaws.{runs-numbered, resolved-runs, resolved-opened}
use Rattle.descriptors.proofs.CountLaws.{descriptor-open}
use Rattle.descriptors.proofs.processes.Processes.plan_dup.Goals as goal

pub returns-clause-fits : goal.returns-clause-fits
returns-clause-fits c =
    let ps = processes c.args.self.now in
    let P : ℕ → Type 0 = λ n. n < 64 in
    let found = sym c.in_ok-found.ensures.value in
    let runs = resolved-runs ps c.args.pid c.args.fd c.in_ok-found.found found in
    let was = resolved-opened ps c.args.pid c.args.fd c.in_ok-found.found found in
    let number = runs-numbered c.self.inside.rows.items c.args.pid c.self.invariant.0 (ap (λ rows. (processes rows).runs c.args.pid) c.self.view_is ∙ runs) in
    let lowest = subst P c.in-Some.ensures.1 c.in-Some.ensures.0 in
    (runs, c.in-Some.ensures.0, c.in_ok-found.ensures.number, ap (ps.opened c.args.pid) c.in-Some.ensures.1 ∙ lowest_fd-free ps c.args.pid lowest, inl (descriptor-open ps c.args.pid c.args.fd c.in_ok-found.found number c.in_ok-found.ensures.within was))
