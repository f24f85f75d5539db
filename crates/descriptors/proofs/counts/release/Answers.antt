use Rattle.std.proofs.Common.{◌≡◌, ◌+◌, ℕ, List, Some, length, refl, ap, sym, ◌∙◌}
use Rattle.descriptors.specs.code.Rows.{count_of, references_below}
use Rattle.std.proofs.lemmas.List.{length-set}
use Rattle.descriptors.specs.rule.Rows.{processes}
use Rattle.descriptors.proofs.RowLaws.{opened-number}
use Rattle.descriptors.proofs.CountLaws.{released-more, shared-none, below-none, left-counted}
use Rattle.descriptors.proofs.counts.release.Goals as goal
use Rattle.descriptors.proofs.counts.release.Goals.{in-Some, in_default}

pub lower-requires-clause-some : goal.lower-requires-clause-some
lower-requires-clause-some c =
    let ps = processes c.args.rows.now in
    let was : ps.opened c.args.pid c.loop-fd.fd ≡ Some c.in-Some.opened = sym c.in-Some.ensures.value in
    let number = opened-number c.args.rows.now c.args.pid c.loop-fd.fd c.in-Some.opened c.requires.rows was in
    left-counted ps c.args.pid c.loop-fd.fd c.in-Some.opened c.args.counts.now c.loop-fd.counts number c.in-Some.ensures.within was c.requires.counts (c.loop-fd.invariant.1 c.in-Some.opened.description)

pub loop-fd-init : goal.loop-fd-init
loop-fd-init c = (refl, λ d. sym (shared-none ((processes c.args.rows.now).opened c.args.pid) d (count_of c.args.counts.now d)))

pub loop-fd-preserved : goal.loop-fd-preserved
loop-fd-preserved c =
    let ps = processes c.args.rows.now in
    let fds = ps.opened c.args.pid in
    let fd = c.loop-fd.fd in
    elim c.match-opened_at.branch [
      | in-Some w ↦
          let was : fds fd ≡ Some w.in-Some.opened = sym w.in-Some.ensures.value in
          let number = opened-number c.args.rows.now c.args.pid fd w.in-Some.opened c.requires.rows was in
          let some = left-counted ps c.args.pid fd w.in-Some.opened c.args.counts.now c.loop-fd.counts number w.in-Some.ensures.within was c.requires.counts (c.loop-fd.invariant.1 w.in-Some.opened.description) in
          let new = w.counts-is ∙ w.lower.ensures.counts in (
            ap length new ∙ length-set c.loop-fd.counts w.in-Some.opened.description _ ∙ c.loop-fd.invariant.0,
            λ d. ap (λ (l : List ℕ). count_of l d + references_below fds d (fd + 1)) new ∙ released-more fds d fd c.args.counts.now c.loop-fd.counts w.in-Some.opened some was (c.loop-fd.invariant.1 d),
          )
      | in_default w ↦ (
        ap length w.counts-is ∙ c.loop-fd.invariant.0,
        λ d. ap (λ (l : List ℕ). count_of l d + references_below fds d (fd + 1)) w.counts-is ∙ ap (λ n. count_of c.loop-fd.counts d + n) (below-none fds d fd (sym w.in_default.ensures.value)) ∙ c.loop-fd.invariant.1 d,
      )
    ]
