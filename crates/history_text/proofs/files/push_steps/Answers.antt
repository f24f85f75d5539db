use Rattle.std.proofs.Common.{length, subst, sym}
use Rattle.std.proofs.lemmas.List.Elements.{All-set}
use Rattle.history_text.specs.code.Readings.{IsFileOf, second_step}
use Rattle.history_text.proofs.FileLaws.{file_push_two, one_more_for_two, second_is}
use Rattle.history_text.proofs.files.push_steps.Goals as goal

pub returns-clause-files : goal.returns-clause-files
returns-clause-files c = λ lives lines within one two all.
    let files = c.args.files.now.items in
    let old = c.index_mut.result.now in
    let pushed = c.in_ok-push_steps.ensures in
    let first = length old.calls.items in
    All-set (IsFileOf lives lines) files c.args.file c.push_steps.new.self
    (file_push_two lives lines c.args.line c.args.first.now (second_step first c.args.second.now) old c.push_steps.new.self pushed.calls pushed.lines within one (second_is lives first c.args.second.now two) (subst (IsFileOf lives lines) (sym c.index_mut.ensures.value) (all c.args.file old c.requires.within))) all

pub returns-clause-lines : goal.returns-clause-lines
returns-clause-lines c = one_more_for_two c.args.files.now.items c.args.file c.args.line c.index_mut.result.now c.push_steps.new.self c.requires.within c.index_mut.ensures.value c.requires.before c.in_ok-push_steps.ensures.lines
