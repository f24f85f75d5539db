use Rattle.std.proofs.Common.{◌≡◌, ◌∷◌, [], List, true, false, refl, sym, ap, ◌∙◌}
use Rattle.cluster_core.specs.rule.Parts.{world_state}
use Rattle.merges.specs.declared.logged.LoggedEntry.{LoggedEntry}
use Rattle.merges.specs.rule.Merges.{LogFields, takes}
use Rattle.merges.specs.code.Merging.{fields_of}
use Rattle.merges.proofs.Readings.{got, current_there, not_current_there}
use Rattle.merges.proofs.NextEntries.{no_entry, not_own, not_allowed, not_current}
use Rattle.merges.proofs.merger.Merger.next_event.Goals as goal

pub returns-in_default-first-clause-none : goal.returns-in_default-first-clause-none
returns-in_default-first-clause-none c is =
    let there = got LogFields c.deref.result.now c.args.self.now.logs.items c.args.index c.in-Some.log.now c.in-Some.ensures.lookup.0 c.in-Some.ensures.lookup.1 c.deref.ensures.value in
    let none : c.in-Some.log.now.entries ≡ [] = c.in_default-first.ensures in
    no_entry (fields_of c.args.self.now) c.args.index c.requires.different c.in-Some.log.now there none

pub returns-then-not-takes-clause-none : goal.returns-then-not-takes-clause-none
returns-then-not-takes-clause-none c is =
    let there = got LogFields c.deref.result.now c.args.self.now.logs.items c.args.index c.in-Some.log.now c.in-Some.ensures.lookup.0 c.in-Some.ensures.lookup.1 c.deref.ensures.value in
    let next : (xs : List LoggedEntry) × (c.in-Some.log.now.entries ≡ c.in-Some-first.next.now ∷ xs) = c.in-Some-first.ensures in
    let other : false ≡ takes c.actor.result c.event-event.result.now = c.if-not-takes.ensures in
    not_own (fields_of c.args.self.now) c.args.index c.requires.different c.in-Some.log.now there c.in-Some-first.next.now next.0 next.1
    (sym (other ∙ (λ i. takes (c.actor.ensures i) (c.event-event.ensures i))))

pub returns-then-not-allows-clause-none : goal.returns-then-not-allows-clause-none
returns-then-not-allows-clause-none c is =
    let there = got LogFields c.deref.result.now c.args.self.now.logs.items c.args.index c.in-Some.log.now c.in-Some.ensures.lookup.0 c.in-Some.ensures.lookup.1 c.deref.ensures.value in
    let next : (xs : List LoggedEntry) × (c.in-Some.log.now.entries ≡ c.in-Some-first.next.now ∷ xs) = c.in-Some-first.ensures in
    not_allowed (fields_of c.args.self.now) c.args.index c.requires.different c.in-Some.log.now there c.in-Some-first.next.now next.0 next.1
    (c.if-not-allows.ensures.no refl)

pub returns-then-not-is_current-clause-none : goal.returns-then-not-is_current-clause-none
returns-then-not-is_current-clause-none c is =
    let there = got LogFields c.deref.result.now c.args.self.now.logs.items c.args.index c.in-Some.log.now c.in-Some.ensures.lookup.0 c.in-Some.ensures.lookup.1 c.deref.ensures.value in
    not_current (fields_of c.args.self.now) c.args.index c.requires.different c.in-Some.log.now there
    (not_current_there (world_state c.world.result.now) (world_state c.args.self.now.run.world) c.actor-2.result c.in-Some.log.now.actor c.incarnation.result c.in-Some.log.now.incarnation
    (ap world_state c.world.ensures.value) c.actor-2.ensures c.incarnation.ensures c.if-not-is_current.ensures)

pub returns-clause-tried : goal.returns-clause-tried
returns-clause-tried c =
    let there = got LogFields c.deref.result.now c.args.self.now.logs.items c.args.index c.in-Some.log.now c.in-Some.ensures.lookup.0 c.in-Some.ensures.lookup.1 c.deref.ensures.value in
    let next : (xs : List LoggedEntry) × (c.in-Some.log.now.entries ≡ c.in-Some-first.next.now ∷ xs) = c.in-Some-first.ensures in
    let own : true ≡ takes c.actor.result c.event-event.result.now = c.if-not-takes.ensures in
    record {
      log = c.in-Some.log.now;
      there = there;
      entry = c.in-Some-first.next.now;
      rest = next.0;
      first = next.1;
      is = c.in_ok-copy.ensures ∙ c.event-event.ensures;
      own = sym (own ∙ (λ i. takes (c.actor.ensures i) (sym c.in_ok-copy.ensures i)));
      now = current_there (world_state c.world.result.now) (world_state c.args.self.now.run.world) c.actor-2.result c.in-Some.log.now.actor c.incarnation.result c.in-Some.log.now.incarnation
          (ap world_state c.world.ensures.value) c.actor-2.ensures c.incarnation.ensures c.if-not-is_current.ensures;
      allows = c.if-not-allows.ensures.yes refl;
    }
