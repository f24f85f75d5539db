use Rattle.std.proofs.Common.{◌≡◌, refl, subst}
use Rattle.std.specs.Prelude.{Err}
use Rattle.model.specs.rule.Table.{around}
use Rattle.model.specs.declared.op.ProcessCall.{ProcessCall}
use Rattle.model.specs.rule.Descriptors.{after}
use Rattle.fcntl_table.specs.rule.Tables.{table_of}
use Rattle.fcntl_table.proofs.TableLaws.{refused-kept}
use Rattle.fcntl_table.proofs.table.FcntlTable.call.Goals as goal

pub returns-in_err-make_room-clause-refused : goal.returns-in_err-make_room-clause-refused
returns-in_err-make_room-clause-refused c = λ refusal refused.
    let P : ProcessCall → Type 0 = λ call. after (around (table_of c.args.self.now) c.args.process) c.args.process.pid call ≡ Err refusal in
    let known = c.in_err-make_room.ensures.known (refused-kept c.args.self.now c.args.process _ refusal refl (subst P c.in_err-make_room.ensures.spawn refused)) in
    absurd (cc)
