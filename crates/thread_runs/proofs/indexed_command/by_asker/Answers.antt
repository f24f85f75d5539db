use Rattle.std.proofs.Common.{rules, ◌∙◌, sym}
use Rattle.std.proofs.lemmas.List.Sorted.{answers_always}
use Rattle.thread_runs.specs.rule.Runs.{asker}
use Rattle.thread_runs.specs.declared.indexed_command.IndexedCommand.{IndexedCommand}
use Rattle.thread_runs.proofs.Askers.{filter_same, ties}
use Rattle.thread_runs.proofs.indexed_command.by_asker.Goals as goal

pub returns-clause-same : goal.returns-clause-same
returns-clause-same c = λ c'.
    let stable = c.sort_by_key.ensures.stable (λ a. asker a.command) (answers_always _ _ _ (λ f a r g h. search rules)) in
    let as_asked = λ (y : IndexedCommand). ties (asker c').0 (asker c').1 (asker y.command).0 (asker y.command).1 in
    sym (filter_same _ _ as_asked c.sort_by_key.new.self.items) ∙ (stable (record { index = 0; command = c' }) ∙ filter_same _ _ as_asked c.args.asked.items)

pub returns-clause-sorted : goal.returns-clause-sorted
returns-clause-sorted c = c.in_ok-sort_by_key.ensures.sorted (λ a. asker a.command) (answers_always _ _ _ (λ f a r g h. search rules))
