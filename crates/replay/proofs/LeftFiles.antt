-- Which files a command leaves as they were.
use Rattle.std.proofs.Common.{ℕ, Bool, List, Option, Some, None, subst, sym}
use Rattle.cluster_core.specs.rule.Journals.{JournalFields}
use Rattle.command_line.specs.rule.Tasks.{Task, run, threads, audit, history, state, judge, journal_path}
use Rattle.replay.specs.declared.fault.Fault.{Fault}
use Rattle.replay.specs.declared.fault.Fault.TheVariants.{BadLine, CannotRead, CannotWrite, CannotWriteOutput, NoMemory, JournalFull, OldJournal, Faulty}
use Rattle.replay.specs.declared.shown.Shown.{Shown}
use Rattle.replay.specs.declared.shown.Shown.TheVariants.{Text, Wanting, Partial, Undecided, CutShort, Yes, No}
use Rattle.replay.specs.rule.Commands.{Does, GoesOn, IsFault, KeepsJournal, SameBut}
use Rattle.replay.specs.rule.Stores.{Files, SameFiles}

-- where no file changed
same-but : (old new : Files) (to : Option (List ℕ)) → SameFiles old new → SameBut to old new
same-but old new None same = same
same-but old new (Some path) same = λ other file differs. same other file

-- where the journal was kept
kept-but : (old new : Files) (to : Option (List ℕ)) (text : List ℕ) → KeepsJournal old to text new → SameBut to old new
kept-but old new None text kept = kept
kept-but old new (Some path) text kept = kept.1

gone-on : (old new : Files) (script : List ℕ) (to : Option (List ℕ)) (compares quiet calm : Bool) (j : JournalFields) (shown : Shown) → GoesOn old script j to compares quiet calm new shown → SameBut to old new
gone-on old new script to compares quiet calm j (Text text) is = kept-but old new to _ is.1.4
gone-on old new script to compares quiet calm j (Wanting text) is = absurd is.1.3
gone-on old new script to compares quiet calm j (Partial text told) is = kept-but old new to _ is.1.4
gone-on old new script to compares quiet calm j (Undecided text) is = absurd is.1.3
gone-on old new script to compares quiet calm j (CutShort text) is = absurd is.1.3
gone-on old new script to compares quiet calm j Yes is = absurd is.1.3
gone-on old new script to compares quiet calm j (No position) is = same-but old new to is.1

-- where it was done
pub done-files : (old new : Files) (task : Task) (shown : Shown) → Does old task new shown → SameBut (journal_path task) old new
done-files old new (run script None to compares quiet calm) shown is = kept-but old new to _ is.4
done-files old new (run script (Some after) to compares quiet calm) shown is = gone-on old new script to compares quiet calm is.0 shown is.2
done-files old new (threads script seed may_stop no_join to) shown is = kept-but old new to _ is.3
done-files old new (audit path) shown is = is.3
done-files old new (history path as_clients) shown is = is.3
done-files old new (state path at) shown is = is.3
done-files old new (judge t) shown is = is.1

-- where there is a fault
pub fault-files : (old new : Files) (RanShort : Type 0) (Refuses : List ℕ → Type 0) (task : Task) (fault : Fault) → IsFault old RanShort Refuses task new fault → SameBut (journal_path task) old new
fault-files old new RanShort Refuses task (BadLine line) is = same-but old new (journal_path task) is.1
fault-files old new RanShort Refuses task (CannotRead path reason) is = same-but old new (journal_path task) is.1
fault-files old new RanShort Refuses task (CannotWrite path reason) is = subst (λ (to : Option (List ℕ)). SameBut to old new) (sym is.0) is.3
fault-files old new RanShort Refuses task CannotWriteOutput is = done-files old new task is.0 is.1
fault-files old new RanShort Refuses task NoMemory is = same-but old new (journal_path task) is.1
fault-files old new RanShort Refuses task JournalFull is = same-but old new (journal_path task) is.1
fault-files old new RanShort Refuses task OldJournal is = same-but old new (journal_path task) is.1
fault-files old new RanShort Refuses task (Faulty report) is = same-but old new (journal_path task) is.1
