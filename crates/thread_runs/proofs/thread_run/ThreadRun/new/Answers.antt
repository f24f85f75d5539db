use Rattle.std.specs.Prelude.{List, All, filter_map}
use Rattle.std.proofs.Common.{rules, subst}
use Rattle.messages.specs.declared.entry.Entry.{Entry}
use Rattle.thread_runs.specs.declared.played_line.PlayedLine.{PlayedLine}
use Rattle.thread_runs.specs.rule.Runs.{AreBarred, IsUnanswered, killed_by, MayAllCome, first_of, parts}
use Rattle.thread_runs.proofs.thread_run.ThreadRun.new.Goals as goal

pub returns-clause-of_script : goal.returns-clause-of_script
returns-clause-of_script c =
    let barred = c.in_ok-are_of_script.ensures.barred c.if-not-branch.false in
    let come = c.in_ok-are_of_script.ensures.come c.if-not-branch.false in
    let killed = c.in_ok-are_of_script.ensures.killed c.if-not-branch.false in
    record {
      shape = search rules;
      lines = search rules;
      fit = search rules;
      phases = search rules;
      come = subst (MayAllCome (parts c.args.manner.no_join) c.args.script.now.shape (first_of c.args.script.now.shape)) c.as_slice-told.ensures.value come;
      killed = subst (λ (es : List Entry). All (IsUnanswered es) (filter_map (λ l. killed_by es l.outcome) c.args.lines.items)) c.entries-entries.ensures.value
          (subst (λ (ls : List PlayedLine). All (IsUnanswered c.entries-entries.result.now) (filter_map (λ l. killed_by c.entries-entries.result.now l.outcome) ls)) c.as_slice-told.ensures.value killed);
      receipts = search rules;
      refused = search rules;
      open_calls = search rules;
      unanswered = search rules;
      barred = subst (AreBarred (parts c.args.manner.no_join)) c.as_slice-told.ensures.value barred;
      whole = search rules;
    }
