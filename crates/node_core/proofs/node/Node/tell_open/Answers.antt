use Rattle.std.specs.Prelude.{◌≡◌, ℕ, ◌<◌, ◌+◌, Bool, List, All}
use Rattle.std.proofs.Common.{arith, ap, sym, subst, ◌∙◌}
use Rattle.std.proofs.lemmas.List.Elements.{All-nil}
use Rattle.model.specs.rule.Descriptors.{has_open}
use Rattle.descriptors.specs.rule.Rows.{processes}
use Rattle.node_core.specs.rule.Try.{with_freed, with_freed_of}
use Rattle.node_core.specs.rule.Parts.{node_state}
use Rattle.node_core.specs.declared.node_edit.NodeEdit.{NodeEdit}
use Rattle.node_core.specs.code.Plans.{drafted, effect_of}
use Rattle.node_core.proofs.NodeLaws.{if-both}
use Rattle.node_core.proofs.PlanLaws.{told-nothing}
use Rattle.node_core.proofs.ShutLaws.{freed-zero, freed-more, next-file, last-file}
use Rattle.node_core.proofs.node.Node.tell_open.Goals as goal

pub loop-before-init : goal.loop-before-init
loop-before-init c = record {
  value = freed-zero (has_open (processes c.args.self.now.processes) c.args.pid) (effect_of c.args.self.now c.args.effect);
  fits = c.requires.fits;
  rises = subst (λ (files : List ℕ). All (λ f. f < 0 + 1) files) (sym c.requires.first) (All-nil (λ f. f < 0 + 1));
}

pub owes_freed-requires : goal.owes_freed-requires
owes_freed-requires c = rw (← c.self.view_is) (next-file _ c.loop-before.before _ c.files-before-end.ensures.value (omega (arith, c.loop-before-test.true)))

-- a file for which no Freed is owed is passed
pub loop-before-preserved-then-not-owes_freed : goal.loop-before-preserved-then-not-owes_freed
loop-before-preserved-then-not-owes_freed c =
    let passes = has_open (processes c.args.self.now.processes) c.args.pid in
    let e = effect_of c.args.self.now c.loop-before.told in
    let owes : NodeEdit → Bool = λ k. ((drafted c.args.self.now k.draft).files (c.loop-before.before + 1)).owes_freed in
    let owed = ap owes (sym c.deref.ensures) ∙ sym c.owes_freed.ensures ∙ c.if-not-owes_freed.true in
    let same = told-nothing c.args.self.now c.loop-before.told (c.loop-before.before + 1) c.loop-before.invariant.rises owed in
    record {
      value = freed-more passes c.loop-before.before (effect_of c.args.self.now c.args.effect) e c.loop-before.invariant.value ∙ if-both (passes (c.loop-before.before + 1)) (with_freed (c.loop-before.before + 1) e) e same;
      fits = c.loop-before.invariant.fits;
      rises = λ k d lt. let low = c.loop-before.invariant.rises k d lt in omega arith;
    }

pub tell_if_open-requires-clause-file : goal.tell_if_open-requires-clause-file
tell_if_open-requires-clause-file c = rw (← c.self.view_is) (next-file _ c.loop-before.before _ c.files-before-end.ensures.value (omega (arith, c.loop-before-test.true)))

pub loop-before-preserved : goal.loop-before-preserved
loop-before-preserved c = record {
  value = freed-more (has_open (processes c.args.self.now.processes) c.args.pid) c.loop-before.before (effect_of c.args.self.now c.args.effect) (effect_of c.args.self.now c.loop-before.told) c.loop-before.invariant.value ∙ c.in_ok-told.ensures.value;
  fits = c.in_ok-told.ensures.fits;
  rises = c.in_ok-told.ensures.rises;
}

pub returns-clause-value : goal.returns-clause-value
returns-clause-value c =
    let last : (node_state c.args.self.now).shape.files ≡ c.loop-before.before = rw (← c.self.view_is) (last-file _ c.loop-before.before _ c.files-before-end.ensures.value (omega (arith, c.loop-before-test.false))) in
    ap (λ (n : ℕ). with_freed_of (has_open (processes c.args.self.now.processes) c.args.pid) n (effect_of c.args.self.now c.args.effect)) last
    ∙ c.loop-before.invariant.value
