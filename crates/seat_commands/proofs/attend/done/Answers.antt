use Rattle.std.proofs.Common.{sym, subst}
use Rattle.seat_commands.specs.declared.lines.Asked.{Asked}
use Rattle.seat_commands.specs.rule.Doings.{DoesSo}
use Rattle.seat_commands.proofs.attend.done.Goals as goal

pub returns-in-Merge : goal.returns-in-Merge
returns-in-Merge g c =
    let holds = g.S.Store.holds in
    let Does : Asked → Type 0 = λ asked. DoesSo g.R.File.Write.contents g.R.File.Read.remaining (holds c.args.store.now) (holds c.merge_command.new.store) (g.I.Read.remaining c.args.reader.now) (g.O.Write.contents c.args.out.now) (g.O.Write.contents c.merge_command.new.out) asked c.merge_command.result in
    subst Does (sym c.in-Merge.is) c.merge_command.ensures
