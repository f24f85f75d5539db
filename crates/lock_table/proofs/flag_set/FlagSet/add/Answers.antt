use Rattle.std.proofs.Common.{rules}
use Rattle.lock_table.proofs.PageLemmas.{has-kept, has-added}
use Rattle.lock_table.proofs.flag_set.FlagSet.add.Goals as goal

pub returns-clause-kept : goal.returns-clause-kept
returns-clause-kept c = λ k h. has-kept c.args.self.now.words _ _ k h

pub returns-clause-added : goal.returns-clause-added
returns-clause-added c = has-added c.args.self.now.words c.args.flag (search rules)
