use Rattle.std.proofs.Common.{rules, ◌≡◌, ◌++◌, ◌∷◌, [], ap}
use Rattle.seat_text.specs.code.Parts.{Changes, Makes, Takes}
use Rattle.seat_text.specs.rule.Logs.{change_of, changed, now_behind, steps_of}
use Rattle.seat_text.specs.declared.parts.Parts.{Parts}
use Rattle.seat_text.proofs.Taking.{on_ok, takes_did}
use Rattle.seat_text.proofs.parts.Parts.take.Goals as goal

pub returns : goal.returns
returns c =
    let a = c.args.self.now in
    let interval = c.interval_of-interval.result in
    let between : Parts = c.take_change.new.self in
    let told = c.in_ok-take_change.ensures in
    let now : between.current ≡ now_behind a.actor a.current c.in-Did.change = search rules in
    let changes : between.changes.items ≡ a.changes.items ++ changed interval c.in-Did.change = search rules in
    let makes = Makes between interval c.in-Did.steps.items c.take_steps.new.self in
    let did : Changes a interval c.in-Did.change between = record { same_actor = told.same_actor; now_is = now; told = changes; same_entries = told.same_entries; good = told.good } in
    on_ok c.take_steps.result makes (Takes a (c.args.block ∷ []) c.take_steps.new.self)
    (λ made. takes_did a between c.take_steps.new.self c.args.block interval c.in-Did.change c.in-Did.steps.items c.interval_of-interval.ensures (ap change_of c.in-Did.is) (ap steps_of c.in-Did.is) did made) (search rules)
