use Rattle.std.proofs.Common.{◌≡◌, ◌-◌, None, Some, ap, arith, sym, subst, ◌∙◌, take, drop, ◌++◌, length, rules}
use Rattle.std.proofs.Math.Seq.{take-append_seam}
use Rattle.std.proofs.lemmas.List.{length-set}
use Rattle.std.specs.Prelude.{not}
use Rattle.model.specs.rule.Descriptors.{with_descriptor, is_open}
use Rattle.descriptors.specs.code.Rows.{resolved, AreCounts, count_of, places}
use Rattle.descriptors.specs.rule.Rows.{processes}
use Rattle.descriptors.proofs.RowLaws.{runs_within, processes-runs, opened-number, resolved-opened, resolved-runs}
use Rattle.descriptors.proofs.CountLaws.{counts-closed, count-closed, descriptor-counted}
use Rattle.descriptors.proofs.processes.Processes.free.Goals as goal

pub refer-requires-clause-within : goal.refer-requires-clause-within
refer-requires-clause-within c =
    let runs = resolved-runs (processes c.args.self.now) c.args.pid c.args.fd c.args.opened c.requires.was in
    runs_within _ _ (sym (processes-runs c.deref_mut.result.now c.args.pid) ∙ ap (λ rows. (processes rows).runs c.args.pid) (c.deref_mut.ensures.value ∙ c.self.view_is) ∙ runs)

pub lower-requires-clause-some : goal.lower-requires-clause-some
lower-requires-clause-some c =
    let was : (processes c.self.inside.rows.items).opened c.args.pid c.args.fd ≡ Some c.args.opened = resolved-opened (processes c.self.inside.rows.items) c.args.pid c.args.fd c.args.opened (ap (λ rows. resolved (processes rows) c.args.pid c.args.fd) c.self.view_is ∙ c.requires.was) in
    let number = opened-number c.self.inside.rows.items c.args.pid c.args.fd c.args.opened c.self.invariant.0 was in
    descriptor-counted (processes c.self.inside.rows.items) c.args.pid c.args.fd c.args.opened c.self.inside.counts number c.requires.fd was c.self.invariant.2

pub invariant_of-self : goal.invariant_of-self
invariant_of-self c =
    let was : (processes c.self.inside.rows.items).opened c.args.pid c.args.fd ≡ Some c.args.opened = resolved-opened (processes c.self.inside.rows.items) c.args.pid c.args.fd c.args.opened (ap (λ rows. resolved (processes rows) c.args.pid c.args.fd) c.self.view_is ∙ c.requires.was) in
    let number = opened-number c.self.inside.rows.items c.args.pid c.args.fd c.args.opened c.self.invariant.0 was in
    let old = c.self.inside in
    let is : processes c.refer.new.rows ≡ with_descriptor (processes old.rows.items) c.args.pid c.args.fd None = rw (← c.deref_mut.ensures.value) c.refer.ensures.processes in
    let counts : AreCounts (processes c.refer.new.rows) c.lower.new.self = subst (λ ps. AreCounts ps c.lower.new.self) (sym is) (subst (AreCounts (with_descriptor (processes old.rows.items) c.args.pid c.args.fd None)) (sym c.lower.ensures.counts) (counts-closed (processes old.rows.items) c.args.pid c.args.fd c.args.opened old.counts number c.requires.fd was c.self.invariant.2)) in
    let rest = drop (length c.refer.new.rows) old.rows.items in
    let len : old.rows.len ≡ length c.refer.new.rows = search rules in
    let back : take old.rows.len (c.refer.new.rows ++ rest) ≡ c.refer.new.rows = ap (λ n. take n (c.refer.new.rows ++ rest)) len ∙ take-append_seam c.refer.new.rows rest in
    let ok = old.rows.ok in
    let before = c.self.invariant.1 in
    let same : length c.lower.new.self ≡ length old.counts = ap length c.lower.ensures.counts ∙ length-set old.counts c.args.opened.description (count_of old.counts c.args.opened.description - 1) in
    let many : length c.lower.new.self ≡ places c.refer.new.rows = omega arith in
    rw back (c.refer.ensures.rows, many, counts)

pub returns-clause-gone : goal.returns-clause-gone
returns-clause-gone c =
    let was : (processes c.self.inside.rows.items).opened c.args.pid c.args.fd ≡ Some c.args.opened = resolved-opened (processes c.self.inside.rows.items) c.args.pid c.args.fd c.args.opened (ap (λ rows. resolved (processes rows) c.args.pid c.args.fd) c.self.view_is ∙ c.requires.was) in
    let number = opened-number c.self.inside.rows.items c.args.pid c.args.fd c.args.opened c.self.invariant.0 was in
    let counts = subst (AreCounts (with_descriptor (processes c.self.inside.rows.items) c.args.pid c.args.fd None)) (sym c.lower.ensures.counts) (counts-closed (processes c.self.inside.rows.items) c.args.pid c.args.fd c.args.opened c.self.inside.counts number c.requires.fd was c.self.invariant.2) in
    c.lower.ensures.last ∙ count-closed (with_descriptor (processes c.self.inside.rows.items) c.args.pid c.args.fd None) c.lower.new.self c.args.opened.description counts ∙ ap (λ rows. not (is_open (with_descriptor (processes rows) c.args.pid c.args.fd None) c.args.opened.description)) c.self.view_is
