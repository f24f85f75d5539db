use Rattle.std.proofs.Common.{◌≡◌, ℕ, ◌<◌, refl, subst, ap, arith, length, Option, Some}
use Rattle.std.specs.Prelude.{IfSome}
use Rattle.std.proofs.lemmas.Option.{slice_get_within}
use Rattle.messages.specs.declared.event.Event.{Event}
use Rattle.cluster_core.specs.rule.World.{journal_limit}
use Rattle.merges.specs.code.Merging.{MergerFields, MayBeTried, fields_of}
use Rattle.merges.proofs.Mergers.{entry_full, entry_other, entry_done, to_compare, longer_by_one}
use Rattle.merges.proofs.NextEntries.{not_taken}
use Rattle.merges.proofs.merger.Merger.put_entry.Goals as goal

is_tried : (m : MergerFields) (k : ℕ) (event : Event) (found : Option Event) → found ≡ Some event → IfSome found (λ e. MayBeTried m k e) → MayBeTried m k event
is_tried m k event found is tried = subst (λ (o : Option Event). IfSome o (λ e. MayBeTried m k e)) is tried

pub returns-in_default-clause-cannot : goal.returns-in_default-clause-cannot
returns-in_default-clause-cannot c is = c.in_ok-event.ensures.none c.in_default.is

pub returns-then-len-ge-JOURNAL_LIMIT-clause-fails : goal.returns-then-len-ge-JOURNAL_LIMIT-clause-fails
returns-then-len-ge-JOURNAL_LIMIT-clause-fails c =
    let m : MergerFields = fields_of c.args.self.now in
    let t = is_tried m c.args.index c.in-Some.event c.in_ok-event.field-0 c.in-Some.is c.in_ok-event.ensures.tried in
    entry_full m c.args.index c.in-Some.event t c.requires.different (omega (arith, c.if-len-ge-JOURNAL_LIMIT.true, c.len.ensures.value))

pub returns-then-not-branch-clause-cannot : goal.returns-then-not-branch-clause-cannot
returns-then-not-branch-clause-cannot c is =
    let m : MergerFields = fields_of c.args.self.now in
    let t = is_tried m c.args.index c.in-Some.event c.in_ok-event.field-0 c.in-Some.is c.in_ok-event.ensures.tried in
    not_taken m c.args.index c.in-Some.event t c.requires.different (c.in_ok-took.ensures.refused c.if-not-branch.true)

pub returns-then-not-is_as_logged-clause-fails : goal.returns-then-not-is_as_logged-clause-fails
returns-then-not-is_as_logged-clause-fails c =
    let m : MergerFields = fields_of c.args.self.now in
    let t = is_tried m c.args.index c.in-Some.event c.in_ok-event.field-0 c.in-Some.is c.in_ok-event.ensures.tried in
    let goes = c.in_ok-took.ensures.took c.if-not-branch.false in
    entry_other m c.args.index c.in-Some.event t c.took.new.run c.requires goes
    (c.if-not-is_as_logged.ensures.no (to_compare m c.args.index c.in-Some.event t c.took.new.run c.requires goes) refl)

pub pass-requires : goal.pass-requires
pass-requires c =
    let t = is_tried (fields_of c.args.self.now) c.args.index c.in-Some.event c.in_ok-event.field-0 c.in-Some.is c.in_ok-event.ensures.tried in
    slice_get_within c.args.self.now.logs.items c.args.index t.log t.there

pub returns-clause-puts : goal.returns-clause-puts
returns-clause-puts c =
    let m : MergerFields = fields_of c.args.self.now in
    let t = is_tried m c.args.index c.in-Some.event c.in_ok-event.field-0 c.in-Some.is c.in_ok-event.ensures.tried in
    let goes = c.in_ok-took.ensures.took c.if-not-branch.false in
    let same = c.if-not-is_as_logged.ensures.yes (to_compare m c.args.index c.in-Some.event t c.took.new.run c.requires goes) refl in
    entry_done m c.args.index c.in-Some.event t c.took.new.run c.requires goes (fields_of c.pass.new.self) same (c.pass.ensures t.log t.entry t.rest t.there t.first)

pub returns-clause-longer : goal.returns-clause-longer
returns-clause-longer c is =
    let m : MergerFields = fields_of c.args.self.now in
    let t = is_tried m c.args.index c.in-Some.event c.in_ok-event.field-0 c.in-Some.is c.in_ok-event.ensures.tried in
    let goes = c.in_ok-took.ensures.took c.if-not-branch.false in
    let room : length m.run.entries < journal_limit = omega (arith, c.if-len-ge-JOURNAL_LIMIT.false, c.len.ensures.value) in
    longer_by_one m (fields_of c.pass.new.self) c.in-Some.event c.took.new.run room goes (ap (λ (z : MergerFields). z.run) (c.pass.ensures t.log t.entry t.rest t.there t.first))
