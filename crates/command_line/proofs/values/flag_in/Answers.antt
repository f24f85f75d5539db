use Rattle.clap.specs.Words.{found_of, one_of, one_text, rows_of}
use Rattle.clap.proofs.WalkLemmas.{one_text-rows}
use Rattle.command_line.proofs.Flags.{flag_of_value}
use Rattle.command_line.proofs.values.flag_in.Goals as goal

pub returns : goal.returns
returns c =
    let found = found_of c.args.values.now in
    let id = c.args.id.now in
    flag_of_value _ (one_text found id) (one_of id (rows_of found)) c.get_one.result (one_text-rows found id) c.get_one.ensures.none c.get_one.ensures.value
