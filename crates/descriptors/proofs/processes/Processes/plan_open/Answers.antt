use Rattle.std.proofs.Common.{◌≡◌, ℕ, ◌<◌, true, sym, ap, ◌∙◌, subst, inr}
use Rattle.model.specs.rule.Limits.{IsNumber, most_descriptions}
use Rattle.model.specs.rule.Descriptors.{lowest_fd}
use Rattle.model.proofs.DescriptorLaws.{lowest_description-number, lowest_fd-free}
use Rattle.descriptors.specs.rule.Rows.{processes}
use Rattle.descriptors.proofs.RowLaws.{runs-numbered}
use Rattle.descriptors.proofs.processes.Processes.plan_open.Goals as goal

pub returns-clause-fits : goal.returns-clause-fits
returns-clause-fits c =
    let ps = processes c.args.self.now in
    let P : ℕ → Type 0 = λ n. n < 64 in
    let Q : ℕ → Type 0 = λ n. IsNumber most_descriptions n in
    let runs : ps.runs c.args.pid ≡ true = sym c.is_running.ensures ∙ c.if-not-is_running.false in
    let lowest = subst P c.in-Some.ensures.1 c.in-Some.ensures.0 in
    let free = lowest_fd-free ps c.args.pid lowest in
    let is = c.lowest_description-description.ensures in
    let number = runs-numbered c.self.inside.rows.items c.args.pid c.self.invariant.0 (ap (λ rows. (processes rows).runs c.args.pid) c.self.view_is ∙ runs) in
    (runs, c.in-Some.ensures.0, subst Q (sym is) (lowest_description-number ps c.args.pid (lowest_fd ps c.args.pid) number lowest free), ap (ps.opened c.args.pid) c.in-Some.ensures.1 ∙ free, inr is)
