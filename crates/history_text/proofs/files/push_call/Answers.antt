use Rattle.history_text.proofs.FileLaws.{one_more, stay_alone}
use Rattle.history_text.proofs.files.push_call.Goals as goal

pub returns-clause-lines : goal.returns-clause-lines
returns-clause-lines c = one_more c.args.files.now.items c.args.file c.args.line c.index_mut.result.now c.push.new.self c.requires.within c.index_mut.ensures.value c.requires.before c.in_ok-push.ensures.lines

pub returns-clause-alone : goal.returns-clause-alone
returns-clause-alone c = stay_alone c.args.files.now.items c.args.file c.args.line c.index_mut.result.now c.push.new.self c.requires.within c.index_mut.ensures.value c.requires.before c.in_ok-push.ensures.lines
