use Rattle.std.proofs.Common.{ap, sym, ◌∙◌, option_copied}
use Rattle.placement.proofs.Index.{found_before}
use Rattle.placement.proofs.placed.slot_of.Goals as goal

pub returns-clause-within : goal.returns-clause-within
returns-clause-within c =
    found_before c.args.conflicts.now c.args.own c.in_ok-place.field-0.now c.in-Some.revoke c.requires.before (sym (ap option_copied c.in_ok-place.was) ∙ c.get.ensures.value) c.if-place-eq0.false
