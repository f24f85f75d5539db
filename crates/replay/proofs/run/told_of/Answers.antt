use Rattle.std.proofs.Common.{◌∙◌, ℕ, List, Bool, String, ap, drop, subst, sym}
use Rattle.std.specs.Global.{Global}
use Rattle.std.specs.Option.{option_map}
use Rattle.std.specs.Prelude.{◌&&◌, string_bytes}
use Rattle.std.proofs.lemmas.Result.{IfOk-weaker}
use Rattle.player.specs.rule.Expectations.{breaks_in_run, IsCompared}
use Rattle.lockscript.specs.declared.refused_line.RefusedLine.{RefusedLine}
use Rattle.lockscript.specs.rule.Scripts.{LineFields}
use Rattle.messages.specs.rule.Entries.{EntryFields}
use Rattle.cluster_core.specs.rule.Journals.{JournalFields}
use Rattle.replay.proofs.run.told_of.Goals as goal

pub returns-in-Some : goal.returns-in-Some
returns-in-Some c = λ compares text lines is.
    let known = rw c.in-Some.is at is in
    let played = c.args.played.now in
    let behind = c.entries_behind.result.now in
    let entries = drop c.args.earlier played.journal.entries in
    let same_text = c.as_str.ensures.value ∙ known.1 in
    let same_lines = c.as_slice.ensures.value ∙ known.2 in
    let same_entries = c.entries_behind.ensures ∙ ap (λ (es : List EntryFields). drop c.args.earlier es) (c.entries.ensures.value ∙ ap (λ (j : JournalFields). j.entries) c.journal.ensures) in
    let same =
    ap (λ (t : List ℕ). breaks_in_run t c.as_slice.result.now c.refused.result.now behind) same_text
    ∙ ap (λ (ls : List LineFields). breaks_in_run text ls c.refused.result.now behind) same_lines
    ∙ ap (λ (rs : List RefusedLine). breaks_in_run text lines rs behind) c.refused.ensures
    ∙ ap (λ (es : List EntryFields). breaks_in_run text lines played.refused es) same_entries
    ∙ sym (ap (λ (b : Bool). b && breaks_in_run text lines played.refused entries) known.0) in
    IfOk-weaker c.compared.result _ _ (λ told judged. subst (λ (b : Bool). IsCompared b (option_map (λ (t : String Global). string_bytes t) told)) same judged) c.compared.ensures
