use Rattle.std.proofs.Common.{rules, ap, codes, map, sym, ◌≡◌, ◌∙◌, List, Some}
use Rattle.clap.specs.Words.{found_of, rows_of}
use Rattle.command_line.proofs.Unmet.{no_histories}
use Rattle.command_line.proofs.Tables.{no_texts, texts_are}
use Rattle.command_line.proofs.judge_line.judge_in.Goals as goal

pub returns-in_default : goal.returns-in_default
returns-in_default c =
    let found = found_of c.args.values.now in
    no_histories (rows_of found) (no_texts found (codes "HISTORY") c.get_strs.result c.get_strs.ensures c.in_default.is)

pub judge_of-requires-clause-histories : goal.judge_of-requires-clause-histories
judge_of-requires-clause-histories c =
    let texts = texts_are (found_of c.args.values.now) (codes "HISTORY") c.get_strs.result c.in-Some.paths c.get_strs.ensures c.in-Some.is in
    let items : c.extend_from_slice.new.self.items ≡ c.in-Some.paths.now = search rules in
    texts ∙ ap (λ (paths : List _). Some (map (λ path. path.now) paths)) (sym items)
