use Rattle.std.proofs.Common.{◌≡◌, ◌<◌, ℕ, false, List, map, arith, inl, inr, refl, subst, sym, ◌∙◌}
use Rattle.std.specs.Io.KnownBytes.{Appends}
use Rattle.command_line.specs.rule.Tasks.{Task, journal_path, task_of}
use Rattle.command_line.specs.declared.refusal.Refusal.{Refusal}
use Rattle.command_line.proofs.CommandLine.{asks_one, asks_refused}
use Rattle.replay.specs.declared.fault.Fault.{Fault}
use Rattle.replay.specs.declared.fault.Fault.TheVariants.{CannotWriteOutput, NoMemory}
use Rattle.replay.specs.rule.Commands.{Does, IsFaultOrShort, Leaves, Shows, TellsFault, says_why, IsHelp, refusal_status, refusal_text}
use Rattle.replay.specs.rule.Faults.{fault_line}
use Rattle.replay.specs.rule.Stores.{AppendsPart, WritesOrFails, TellsBeside}
use Rattle.replay.proofs.Refused.{refused-short, refused-unshown, short-leaves}
use Rattle.replay.proofs.Stores.{same, same-unless}
use Rattle.replay.proofs.respond.respond.Goals as goal

pub returns-in-Ok-clause-done : goal.returns-in-Ok-clause-done
returns-in-Ok-clause-done g c = λ task asks done.
    let words = map g.W.AsStr.text c.args.words.now in
    let P : Task → Type 0 = λ t. Shows (Does (g.S.Store.holds c.args.store.now) t (g.S.Store.holds c.perform.new.store)) (g.O.Output.taken c.args.out.now) (g.O.Output.taken c.perform.new.out) (TellsBeside g.E.Output.taken g.E.Output.has_failed c.args.err.now c.perform.new.err) c.perform.result in
    subst P (asks_one words (task_of c.in-Ok.line) task c.in-Ok.ensures.asked asks) (c.perform.ensures.done done)

pub returns-in-Ok-clause-fault : goal.returns-in-Ok-clause-fault
returns-in-Ok-clause-fault g c = λ task asks failed known.
    let words = map g.W.AsStr.text c.args.words.now in
    let old = g.S.Store.holds c.args.store.now in
    let new = g.S.Store.holds c.perform.new.store in
    let Refuses = g.S.Store.refuses c.perform.new.store in
    let RanShort = g.S.Store.ran_short c.perform.new.store in
    let Told : Task → Fault → Type 0 = λ t fault. says_why t ≡ false → WritesOrFails (g.E.Output.taken c.args.err.now) (g.E.Output.taken c.perform.new.err) (g.E.Output.has_failed c.perform.new.err) (fault_line fault) in
    let P : Task → Type 0 = λ t. TellsFault (IsFaultOrShort old RanShort Refuses t new) (Leaves (Does old t new) g.O.Output.taken g.O.Output.has_failed c.args.out.now c.perform.new.out) (Told t) c.perform.result in
    let fails : 1 < c.perform.result = omega (arith, failed) in
    let told = c.perform.ensures.fault fails known in
    let asked = task_of c.in-Ok.line in
    subst P (asks_one words asked task c.in-Ok.ensures.asked asks) (told.0, inl told.1, told.2, told.3, told.4)

pub returns-in-Ok-clause-files : goal.returns-in-Ok-clause-files
returns-in-Ok-clause-files g c = λ path file owing_nothing.
    let words = map g.W.AsStr.text c.args.words.now in
    same-unless (g.S.Store.holds c.args.store.now) (g.S.Store.holds c.perform.new.store) (journal_path (task_of c.in-Ok.line)) path file c.perform.ensures.files
    (owing_nothing (task_of c.in-Ok.line) c.in-Ok.ensures.asked)

pub returns-in-Err-clause-fault : goal.returns-in-Err-clause-fault
returns-in-Err-clause-fault g c = λ task asks failed known.
    let words = map g.W.AsStr.text c.args.words.now in
    let old = g.S.Store.holds c.args.store.now in
    let P : Refusal → Type 0 = λ r. ¬ (IsHelp r) → (c.refuse.result ≡ refusal_status r) × (c.refuse.new.out ≡ c.args.out.now)
    × WritesOrFails (g.E.Output.taken c.args.err.now) (g.E.Output.taken c.refuse.new.err) (g.E.Output.has_failed c.refuse.new.err) (refusal_text r) in
    let told = subst P (asks_refused words task c.in-Err.refusal asks c.in-Err.ensures.refused) c.refuse.ensures.refused (λ help. help) in
    (NoMemory, inr (refl, same old), told.1, (λ fixed. told.2), told.0)

pub returns-in-Ok-clause-unshown : goal.returns-in-Ok-clause-unshown
returns-in-Ok-clause-unshown g c = λ three. inl (task_of c.in-Ok.line, c.in-Ok.ensures.asked)

pub returns-in-Ok-clause-short : goal.returns-in-Ok-clause-short
returns-in-Ok-clause-short g c = λ four.
    let old = g.S.Store.holds c.args.store.now in
    let new = g.S.Store.holds c.perform.new.store in
    let asked = task_of c.in-Ok.line in
    let told = c.perform.ensures.fault (omega (arith, four)) (λ five. omega (arith, four, five)) in
    (short-leaves (Does old asked new) g.O.Output.taken g.O.Output.has_failed c.args.out.now c.perform.new.out told.0 (sym told.4 ∙ four) told.2, inl (asked, c.in-Ok.ensures.asked))

pub returns-in-Err-clause-unshown : goal.returns-in-Err-clause-unshown
returns-in-Err-clause-unshown g c = λ three.
    let words = map g.W.AsStr.text c.args.words.now in
    let taken = g.O.Output.taken in
    let text = refusal_text c.in-Err.refusal in
    let T : List ℕ → Type 0 = λ t. WritesOrFails (g.E.Output.taken c.args.err.now) (g.E.Output.taken c.refuse.new.err) (g.E.Output.has_failed c.refuse.new.err) t in
    inr (refused-unshown words c.in-Err.refusal c.refuse.result (Appends (taken c.args.out.now) (taken c.refuse.new.out) text) (g.O.Output.is_flushed c.refuse.new.out) (c.refuse.new.err ≡ c.args.err.now) (AppendsPart (taken c.args.out.now) (taken c.refuse.new.out) text) (g.O.Output.has_failed c.refuse.new.out) (T (fault_line CannotWriteOutput)) (c.refuse.new.out ≡ c.args.out.now) (T text) c.in-Err.ensures.refused c.refuse.ensures.help c.refuse.ensures.refused three)

pub returns-in-Err-clause-short : goal.returns-in-Err-clause-short
returns-in-Err-clause-short g c = λ four.
    let words = map g.W.AsStr.text c.args.words.now in
    let taken = g.O.Output.taken in
    let text = refusal_text c.in-Err.refusal in
    let T : List ℕ → Type 0 = λ t. WritesOrFails (g.E.Output.taken c.args.err.now) (g.E.Output.taken c.refuse.new.err) (g.E.Output.has_failed c.refuse.new.err) t in
    let told = refused-short words c.in-Err.refusal c.refuse.result (Appends (taken c.args.out.now) (taken c.refuse.new.out) text) (g.O.Output.is_flushed c.refuse.new.out) (c.refuse.new.err ≡ c.args.err.now) (AppendsPart (taken c.args.out.now) (taken c.refuse.new.out) text) (g.O.Output.has_failed c.refuse.new.out) (T (fault_line CannotWriteOutput)) (c.refuse.new.out ≡ c.args.out.now) T c.in-Err.ensures.refused c.refuse.ensures.help c.refuse.ensures.refused four in
    (told.0, inr told.1)

pub returns-in-Ok-clause-undecided : goal.returns-in-Ok-clause-undecided
returns-in-Ok-clause-undecided g c = λ five.
    let is = c.perform.ensures.undecided five in
    (task_of c.in-Ok.line, c.in-Ok.ensures.asked, is.0, is.1, is.2)
