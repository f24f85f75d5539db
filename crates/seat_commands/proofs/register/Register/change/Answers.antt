use Rattle.std.proofs.Common.{rules, ◌≡◌, Ok}
use Rattle.std.proofs.lemmas.Result.{on_ok_weaker}
use Rattle.seat_commands.specs.rule.Changes.{list_rule, list_state}
use Rattle.seat_commands.specs.rule.Clocks.{IsMoment}
use Rattle.seat_commands.proofs.Registers.{change_added}
use Rattle.seat_commands.proofs.register.Register.change.Goals as goal

pub returns-in-Ok : goal.returns-in-Ok
returns-in-Ok g c =
    let read : IsMoment c.args.self.now.last c.moment-began.result c.self.inside.watch = search rules in
    let keeper : c.args.self.now.keeper ≡ c.self.inside.file = search rules in
    let added : list_rule (list_state c.args.self.now.list) c.args.change ≡ Ok (list_state c.add.new.self, c.in-Ok.incarnation) = search rules in
    on_ok_weaker _
    (change_added g.F.Write.contents c.args.change c.in-Ok.incarnation c.moment-began.result c.args.self.now (record { list = c.add.new.self; last = c.self.inside.watch; keeper = c.self.inside.file }) c.note.new.self _ _ read keeper added)
    c.note.ensures
