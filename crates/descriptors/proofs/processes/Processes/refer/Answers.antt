use Rattle.std.proofs.Common.{◌≡◌, ◌+◌, Some, ap, arith, sym, subst, ◌∙◌, take, drop, ◌++◌, length, rules}
use Rattle.std.proofs.Math.Seq.{take-append_seam}
use Rattle.std.proofs.lemmas.List.{length-set}
use Rattle.model.specs.rule.Descriptors.{with_descriptor}
use Rattle.descriptors.specs.rule.Rows.{processes}
use Rattle.descriptors.specs.code.Rows.{AreCounts, count_of, places}
use Rattle.descriptors.specs.code.Edits.{IsKnown}
use Rattle.descriptors.proofs.RowLaws.{runs_within, runs-numbered, processes-runs}
use Rattle.descriptors.proofs.CountLaws.{counts-opened, known-lowest, room-for-one, known-place}
use Rattle.descriptors.proofs.processes.Processes.refer.Goals as goal

pub refer-requires-clause-within : goal.refer-requires-clause-within
refer-requires-clause-within c =
    runs_within _ _ (sym (processes-runs c.deref_mut.result.now c.args.pid) ∙ ap (λ rows. (processes rows).runs c.args.pid) (c.deref_mut.ensures.value ∙ c.self.view_is) ∙ c.requires.runs)

pub raise-requires-clause-place : goal.raise-requires-clause-place
raise-requires-clause-place c =
    let old = c.self.inside in
    let runs = ap (λ rows. (processes rows).runs c.args.pid) c.self.view_is ∙ c.requires.runs in
    let free = ap (λ rows. (processes rows).opened c.args.pid c.args.fd) c.self.view_is ∙ c.requires.free in
    known-place old.rows.items old.counts c.args.pid c.args.fd c.args.opened.description c.self.invariant.0 c.self.invariant.1 c.self.invariant.2 runs c.requires.fd free (subst (λ rows. IsKnown (processes rows) c.args.opened.description) (sym c.self.view_is) c.requires.known)

pub raise-requires-clause-room : goal.raise-requires-clause-room
raise-requires-clause-room c = room-for-one (processes c.self.inside.rows.items) c.self.inside.counts c.args.opened.description c.self.invariant.2

pub raise-requires-clause-lowest : goal.raise-requires-clause-lowest
raise-requires-clause-lowest c =
    known-lowest (processes c.self.inside.rows.items) c.self.inside.counts c.args.opened.description c.self.invariant.2 (subst (λ rows. IsKnown (processes rows) c.args.opened.description) (sym c.self.view_is) c.requires.known)

pub invariant_of-self : goal.invariant_of-self
invariant_of-self c =
    let runs = ap (λ rows. (processes rows).runs c.args.pid) c.self.view_is ∙ c.requires.runs in
    let free = ap (λ rows. (processes rows).opened c.args.pid c.args.fd) c.self.view_is ∙ c.requires.free in
    let number = runs-numbered c.self.inside.rows.items c.args.pid c.self.invariant.0 runs in
    let place = known-place c.self.inside.rows.items c.self.inside.counts c.args.pid c.args.fd c.args.opened.description c.self.invariant.0 c.self.invariant.1 c.self.invariant.2 runs c.requires.fd free (subst (λ rows. IsKnown (processes rows) c.args.opened.description) (sym c.self.view_is) c.requires.known) in
    let old = c.self.inside in
    let is : processes c.refer.new.rows ≡ with_descriptor (processes old.rows.items) c.args.pid c.args.fd (Some c.args.opened) = rw (← c.deref_mut.ensures.value) c.refer.ensures.processes in
    let counts : AreCounts (processes c.refer.new.rows) c.raise.new.self = subst (λ ps. AreCounts ps c.raise.new.self) (sym is) (subst (AreCounts (with_descriptor (processes old.rows.items) c.args.pid c.args.fd (Some c.args.opened))) (sym c.raise.ensures) (counts-opened (processes old.rows.items) c.args.pid c.args.fd c.args.opened old.counts number c.requires.fd free place c.self.invariant.2)) in
    let rest = drop (length c.refer.new.rows) old.rows.items in
    let len : old.rows.len ≡ length c.refer.new.rows = search rules in
    let back : take old.rows.len (c.refer.new.rows ++ rest) ≡ c.refer.new.rows = ap (λ n. take n (c.refer.new.rows ++ rest)) len ∙ take-append_seam c.refer.new.rows rest in
    let ok = old.rows.ok in
    let was = c.self.invariant.1 in
    let same : length c.raise.new.self ≡ length old.counts = ap length c.raise.ensures ∙ length-set old.counts c.args.opened.description (count_of old.counts c.args.opened.description + 1) in
    let many : length c.raise.new.self ≡ places c.refer.new.rows = omega arith in
    rw back (c.refer.ensures.rows, many, counts)
