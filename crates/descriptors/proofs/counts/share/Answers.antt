use Rattle.std.proofs.Common.{◌≡◌, ◌<◌, ◌+◌, ℕ, List, Some, length, refl, ap, sym, subst, ◌∙◌}
use Rattle.std.proofs.lemmas.List.{length-set}
use Rattle.descriptors.specs.rule.Rows.{processes}
use Rattle.descriptors.specs.code.Rows.{count_of, references_below}
use Rattle.descriptors.proofs.RowLaws.{opened-number}
use Rattle.descriptors.proofs.CountLaws.{shared-more, shared-none, below-none, counted-place, descriptor-counted, shared-room, shared-some}
use Rattle.descriptors.proofs.counts.share.Goals as goal
use Rattle.descriptors.proofs.counts.share.Goals.{in-Some, in_default}

pub raise-requires-clause-place : goal.raise-requires-clause-place
raise-requires-clause-place c =
    let ps = processes c.args.rows.now in
    let was : ps.opened c.args.pid c.loop-fd.fd ≡ Some c.in-Some.opened = sym c.in-Some.ensures.value in
    let number = opened-number c.args.rows.now c.args.pid c.loop-fd.fd c.in-Some.opened c.requires.rows was in
    let counted = descriptor-counted ps c.args.pid c.loop-fd.fd c.in-Some.opened c.args.counts.now number c.in-Some.ensures.within was c.requires.counts in
    subst (λ n. c.in-Some.opened.description < n) (sym c.loop-fd.invariant.0) (counted-place c.args.counts.now c.in-Some.opened.description counted)

pub raise-requires-clause-room : goal.raise-requires-clause-room
raise-requires-clause-room c =
    shared-room (processes c.args.rows.now) c.args.pid c.in-Some.opened.description c.loop-fd.fd c.args.counts.now c.loop-fd.counts c.requires.counts (c.loop-fd.invariant.1 c.in-Some.opened.description) c.in-Some.ensures.within

pub raise-requires-clause-lowest : goal.raise-requires-clause-lowest
raise-requires-clause-lowest c = λ none.
    let ps = processes c.args.rows.now in
    let was : ps.opened c.args.pid c.loop-fd.fd ≡ Some c.in-Some.opened = sym c.in-Some.ensures.value in
    let number = opened-number c.args.rows.now c.args.pid c.loop-fd.fd c.in-Some.opened c.requires.rows was in
    let counted = descriptor-counted ps c.args.pid c.loop-fd.fd c.in-Some.opened c.args.counts.now number c.in-Some.ensures.within was c.requires.counts in
    absurd (shared-some _ (count_of c.args.counts.now c.in-Some.opened.description) (references_below (ps.opened c.args.pid) c.in-Some.opened.description c.loop-fd.fd) (c.loop-fd.invariant.1 c.in-Some.opened.description) counted none)

pub loop-fd-init : goal.loop-fd-init
loop-fd-init c = (refl, λ d. shared-none ((processes c.args.rows.now).opened c.args.pid) d (count_of c.args.counts.now d))

pub loop-fd-preserved : goal.loop-fd-preserved
loop-fd-preserved c =
    let ps = processes c.args.rows.now in
    let fds = ps.opened c.args.pid in
    let fd = c.loop-fd.fd in
    elim c.match-opened_at.branch [
      | in-Some w ↦
          let was : fds fd ≡ Some w.in-Some.opened = sym w.in-Some.ensures.value in
          let number = opened-number c.args.rows.now c.args.pid fd w.in-Some.opened c.requires.rows was in
          let counted = descriptor-counted ps c.args.pid fd w.in-Some.opened c.args.counts.now number w.in-Some.ensures.within was c.requires.counts in
          let place = subst (λ n. w.in-Some.opened.description < n) (sym c.loop-fd.invariant.0) (counted-place c.args.counts.now w.in-Some.opened.description counted) in
          let new = w.counts-is ∙ w.raise.ensures in (
            ap length new ∙ length-set c.loop-fd.counts w.in-Some.opened.description _ ∙ c.loop-fd.invariant.0,
            λ d. ap (λ (l : List ℕ). count_of l d) new ∙ shared-more fds d fd c.args.counts.now c.loop-fd.counts w.in-Some.opened place was (c.loop-fd.invariant.1 d),
          )
      | in_default w ↦ (
        ap length w.counts-is ∙ c.loop-fd.invariant.0,
        λ d. ap (λ (l : List ℕ). count_of l d) w.counts-is ∙ c.loop-fd.invariant.1 d ∙ ap (λ n. count_of c.args.counts.now d + n) (sym (below-none fds d fd (sym w.in_default.ensures.value))),
      )
    ]
