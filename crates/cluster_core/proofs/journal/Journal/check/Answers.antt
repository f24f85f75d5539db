use Rattle.std.specs.Prelude.{slice_index_or}
use Rattle.std.proofs.Common.{◌≡◌, ◌∙◌, ℕ, ◌+◌, ◌<◌, ◌≤◌, sym, subst, arith, List, length, take}
use Rattle.std.proofs.lemmas.List.{take_all}
use Rattle.messages.specs.declared.entry.Entry.{Entry}
use Rattle.messages.specs.rule.Shapes.{ShapeFields}
use Rattle.cluster_core.specs.rule.World.{WorldState, first_world, journal_limit}
use Rattle.cluster_core.specs.rule.Parts.{world_state}
use Rattle.cluster_core.specs.rule.Runs.{Leads}
use Rattle.cluster_core.specs.rule.Journals.{IsFirstWrong}
use Rattle.cluster_core.proofs.runs.JournalRuns.{leads_read}
use Rattle.cluster_core.proofs.runs.Checked.{first_wrong, none_wrong}
use Rattle.cluster_core.proofs.runs.Replayed.{replayed_count}
use Rattle.cluster_core.proofs.runs.Runs.{every_run, every_plain, safe_run, every_denial, no_number}
use Rattle.cluster_core.proofs.journal.Journal.check.Goals as goal

pub returns-then-len-clause-accepted : goal.returns-then-len-clause-accepted
returns-then-len-clause-accepted c = λ run few. absurd (omega (arith, few, c.if-len.true, c.len.ensures))

pub loop-index-preserved : goal.loop-index-preserved
loop-index-preserved c =
    let taken = c.in_ok-is_taken.ensures.taken in
    let here : c.loop-index.index < length c.args.entries.items = omega (arith, c.loop-index-test.true) in
    let within = subst (λ (es : List Entry). c.loop-index.index < length es) (sym c.loop-index.invariant.kept) here in
    let led = leads_read (first_world c.args.shape) (world_state c.loop-index.world) (world_state c.is_taken.new.world) c.loop-index.entries.items c.loop-index.index taken.0 within taken.1 c.loop-index.invariant.leads (taken.2 c.if-not-branch.false) in
    record {
      leads = subst (λ (es : List Entry). Leads (first_world c.args.shape) (take (c.loop-index.index + 1) es) (world_state c.is_taken.new.world)) (sym c.is_taken.ensures.kept) led;
      kept = c.is_taken.ensures.kept ∙ c.loop-index.invariant.kept;
    }

pub returns-then-not-branch-clause-accepted : goal.returns-then-not-branch-clause-accepted
returns-then-not-branch-clause-accepted c = λ run few.
    let taken = c.in_ok-is_taken.ensures.taken in
    let w = world_state c.loop-index.world in
    let led = subst (λ (es : List Entry). Leads (first_world c.args.shape) (take c.loop-index.index es) w) c.loop-index.invariant.kept c.loop-index.invariant.leads in
    let read = subst (λ (es : List Entry). taken.0 ≡ slice_index_or es c.loop-index.index taken.0) c.loop-index.invariant.kept taken.1 in
    let within : c.loop-index.index < length c.args.entries.items = omega (arith, c.loop-index-test.true) in
    let count = replayed_count c.args.shape c.args.entries.items c.loop-index.index w (omega (arith, within)) led in
    let room : w.length < journal_limit = omega (arith, count, few, within) in
    let wrong = first_wrong c.args.shape c.args.entries.items c.loop-index.index w taken.0 within read led (taken.3 c.if-not-branch.true room) in
    absurd (none_wrong c.args.shape c.args.entries.items (c.loop-index.index + 1) wrong run)

pub returns-then-not-branch-clause-wrong : goal.returns-then-not-branch-clause-wrong
returns-then-not-branch-clause-wrong c = λ position told.
    let taken = c.in_ok-is_taken.ensures.taken in
    let w = world_state c.loop-index.world in
    let led = subst (λ (es : List Entry). Leads (first_world c.args.shape) (take c.loop-index.index es) w) c.loop-index.invariant.kept c.loop-index.invariant.leads in
    let read = subst (λ (es : List Entry). taken.0 ≡ slice_index_or es c.loop-index.index taken.0) c.loop-index.invariant.kept taken.1 in
    let within : c.loop-index.index < length c.args.entries.items = omega (arith, c.loop-index-test.true) in
    let count = replayed_count c.args.shape c.args.entries.items c.loop-index.index w (omega (arith, within)) led in
    let room : w.length < journal_limit = omega (arith, count, c.if-len.false, c.len.ensures, within) in
    let wrong = first_wrong c.args.shape c.args.entries.items c.loop-index.index w taken.0 within read led (taken.3 c.if-not-branch.true room) in
    let P : ℕ → Type 0 = λ k. IsFirstWrong c.args.shape c.args.entries.items k in
    let same : c.loop-index.index + 1 ≡ position = cc in
    subst P same wrong

-- all entries are taken
all_led : (shape : ShapeFields) (all es : List Entry) (index : ℕ) (w : WorldState) → es ≡ all → Leads (first_world shape) (take index es) w → length all ≤ index → Leads (first_world shape) all w
all_led shape all es index w kept leads past =
    let led = subst (λ (xs : List Entry). Leads (first_world shape) (take index xs) w) kept leads in
    subst (λ (xs : List Entry). Leads (first_world shape) xs w) (take_all index all past) led

pub returns-clause-one_table : goal.returns-clause-one_table
returns-clause-one_table c = every_run c.args.shape c.args.entries.items (world_state c.loop-index.world) c.in_ok-world.ensures.within (all_led c.args.shape c.args.entries.items c.loop-index.entries.items c.loop-index.index (world_state c.loop-index.world) c.loop-index.invariant.kept c.loop-index.invariant.leads (omega (arith, c.loop-index-test.false)))

pub returns-clause-plain : goal.returns-clause-plain
returns-clause-plain c = every_plain c.args.shape c.args.entries.items (world_state c.loop-index.world) c.in_ok-world.ensures.within (all_led c.args.shape c.args.entries.items c.loop-index.entries.items c.loop-index.index (world_state c.loop-index.world) c.loop-index.invariant.kept c.loop-index.invariant.leads (omega (arith, c.loop-index-test.false)))

pub returns-clause-safe : goal.returns-clause-safe
returns-clause-safe c = λ w leads. safe_run c.args.shape c.args.entries.items w c.in_ok-world.ensures.within leads

pub returns-clause-numbers : goal.returns-clause-numbers
returns-clause-numbers c = no_number c.args.shape c.args.entries.items c.in_ok-world.ensures.within

pub returns-clause-evidence : goal.returns-clause-evidence
returns-clause-evidence c = every_denial c.args.shape c.args.entries.items c.in_ok-world.ensures.within
