-- Rounds that no refusal ends leave no call stuck.
use Rattle.std.proofs.Common.{◌≡◌, ℕ, true, refl, sym, ◌∙◌, subst, arith, List, [], ◌++◌, Contains}
use Rattle.std.specs.Prelude.{◌&&◌}
use Rattle.std.proofs.lemmas.Bool.{and_parts}
use Rattle.messages.specs.declared.entry.Entry.{Entry}
use Rattle.messages.specs.rule.Messages.{is_within}
use Rattle.messages.specs.rule.Shapes.{ShapeFields, IsShape}
use Rattle.node_core.specs.declared.open_call.OpenCall.{OpenCall}
use Rattle.cluster_core.specs.rule.Runs.{Leads}
use Rattle.cluster_core.specs.rule.World.{WorldState, first_world, has_file}
use Rattle.cluster_core.proofs.rounds.Stretches.{members_stay}
use Rattle.cluster_core.proofs.rounds.Stuck.{no_call_is_stuck}
use Rattle.player.specs.declared.rounds.Calm.{Calm}
use Rattle.player.specs.declared.rounds.Calm.TheVariants as calm
use Rattle.player.specs.rule.Rounds.{EndsAs, EndsSilent, IsCalmed, IsQuietRun, LeavesNoneStuck, NoneOpen, NoneStuck, works}
use Rattle.player.proofs.FileRounds.{all_quiet, round_about}
use Rattle.player.proofs.QuietRuns.{leads_append}

-- a server that works after a stretch worked before it
worked : (w v : WorldState) (es : List Entry) (file : ℕ) → IsQuietRun w es v → works v file ≡ true → works w file ≡ true
worked w v es file run working =
    let same = members_stay es w v run.leads (all_quiet es run.quiet) in
    (λ i. is_within (sym same.shape i).files file && sym same.working i file) ∙ working

silent_none_stuck : (shape : ShapeFields) → IsShape shape → (past es : List Entry) (w v : WorldState) → Leads (first_world shape) past w → EndsSilent w es v → NoneStuck v
silent_none_stuck shape is past es w v led ends n c alive at working =
    let begun = ends.begun in
    let before : Leads (first_world shape) (past ++ ends.before) begun = leads_append (first_world shape) w begun past ends.before led ends.leads in
    let mid = leads_append (first_world shape) begun ends.mid (past ++ ends.before) ends.first before ends.round.run.leads in
    let still = worked ends.mid v ends.second c.file ends.silent.run working in
    let first = worked begun ends.mid ends.first c.file ends.round.run still in
    no_call_is_stuck shape (past ++ ends.before) ends.first ends.second begun ends.mid v c.file is before (and_parts (has_file begun c.file) (begun.working c.file) first).1
    (round_about shape (past ++ ends.before) ends.first begun ends.mid c.file is before ends.round first)
    (round_about shape ((past ++ ends.before) ++ ends.first) ends.second ends.mid v c.file is mid ends.silent still)
    ends.answers_none n c alive at refl

none_open_none_stuck : (v : WorldState) → NoneOpen v → NoneStuck v
none_open_none_stuck v none n c alive at working =
    let gone : Contains [] c = subst (λ (cs : List OpenCall). Contains cs c) (none n alive) at in
    absurd (let lt = gone.1 in omega arith)

-- behind any run, rounds leave no call stuck, unless an event was refused
pub calmed_none_stuck : (shape : ShapeFields) → IsShape shape → (past es : List Entry) (w v : WorldState) (end : Calm) → Leads (first_world shape) past w → IsCalmed w es v end → LeavesNoneStuck end v
calmed_none_stuck shape is past es w v end led calmed = by end calmed.ends
  where
    by : (its : Calm) → EndsAs its w es v → LeavesNoneStuck its v
    by calm.NoneOpen ends = none_open_none_stuck v ends
    by calm.Silent ends = silent_none_stuck shape is past es w v led ends
    by (calm.Refused refusal) ends = tt
