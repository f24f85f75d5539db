use Rattle.std.proofs.Common.{Some, refl}
use Rattle.std.proofs.lemmas.Result.{IfOk-weaker}
use Rattle.clap.specs.Words.{found_of}
use Rattle.seat_commands.specs.declared.lines.Asked.TheVariants.{Play}
use Rattle.seat_commands.proofs.Asking.{met_if}
use Rattle.seat_commands.proofs.words.line_of.Goals as goal

pub returns-in-seat-clause-met : goal.returns-in-seat-clause-met
returns-in-seat-clause-met c = met_if _ _ _ c.in-Some.name.now _ _ c.seat_in.result c.in-Some.ensures.name c.in-Some.ensures.rows c.in-seat.is c.seat_in.ensures

pub returns-in-members-clause-met : goal.returns-in-members-clause-met
returns-in-members-clause-met c = met_if _ _ _ c.in-Some.name.now _ _ c.members_in.result c.in-Some.ensures.name c.in-Some.ensures.rows c.in-members.is c.members_in.ensures

pub returns-in-merge-clause-met : goal.returns-in-merge-clause-met
returns-in-merge-clause-met c = IfOk-weaker c.merge_in.result _ _ (λ asked named. met_if _ _ _ c.in-Some.name.now _ _ asked c.in-Some.ensures.name c.in-Some.ensures.rows c.in-merge.is named) c.merge_in.ensures

pub returns-in-play-clause-met : goal.returns-in-play-clause-met
returns-in-play-clause-met c = met_if _ _ _ c.in-Some.name.now _ (found_of c.in-Some.values.now) (Some Play) c.in-Some.ensures.name c.in-Some.ensures.rows c.in-play.is (refl, tt)
