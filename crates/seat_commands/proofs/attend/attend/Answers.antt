use Rattle.std.proofs.Common.{ℕ, List, Option, ap, inl, inr, subst}
use Rattle.command_line.specs.declared.refusal.Refusal.TheVariants.{NoMemory}
use Rattle.replay.proofs.Stores.{same}
use Rattle.seat_commands.specs.rule.Doings.{DoesSo}
use Rattle.seat_commands.proofs.attend.attend.Goals as goal

pub returns-in_default-clause-done : goal.returns-in_default-clause-done
returns-in_default-clause-done g c =
    let told = c.refuse-in_default.ensures.refused (λ help. help) in
    inr (NoMemory, tt, same (g.S.Store.holds c.args.store.now), (ap g.O.Write.contents told.1, told.0))

pub returns-clause-done : goal.returns-clause-done
returns-clause-done g c =
    let holds = g.S.Store.holds in
    let Does : Option (List ℕ) → Type 0 = λ unread. DoesSo g.R.File.Write.contents g.R.File.Read.remaining (holds c.args.store.now) (holds c.done.new.store) unread (g.O.Write.contents c.args.out.now) (g.O.Write.contents c.done.new.out) c.in-Ok.line c.done.result in
    inl (c.in-Ok.line, c.in-Ok.ensures.asked, subst Does c.in-Ok-buffered.ensures c.done.ensures)
