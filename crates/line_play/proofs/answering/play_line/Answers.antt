use Rattle.std.proofs.Common.{rules, ◌≡◌, ◌∙◌, ◌≤◌, ◌++◌, ℕ, List, Some, ap, ap₂, drop, length, string_bytes, subst, sym}
use Rattle.messages.specs.declared.entry.Entry.{Entry}
use Rattle.cluster_core.specs.rule.Journals.{RunFields}
use Rattle.lockscript.specs.declared.refused_line.RefusedLine.{RefusedLine}
use Rattle.lockscript.specs.rule.Scripts.{IsLine, command_text}
use Rattle.player.specs.code.Rounds.{progress}
use Rattle.player.specs.rule.Progress.{Does}
use Rattle.line_play.specs.rule.Answers.{answer_text}
use Rattle.line_play.proofs.Playings.{entries_stay, plays_to, refusals_stay}
use Rattle.line_play.proofs.answering.play_line.Goals as goal

pub refused_behind-added-requires : goal.refused_behind-added-requires
refused_behind-added-requires c =
    let stay = refusals_stay c.in_ok-number.number c.in_ok-command.command (progress c.args.player.now) (progress c.carry_out.new.self) c.in_ok-carry_out.ensures.ok in
    subst (λ (rs : List RefusedLine). length rs ≤ length c.carry_out.new.self.refused) (sym c.refused-refused.ensures) stay

pub push_answer-requires : goal.push_answer-requires
push_answer-requires c =
    let stay = entries_stay c.in_ok-number.number c.in_ok-command.command (progress c.args.player.now) (progress c.carry_out.new.self) c.in_ok-carry_out.ensures.ok in
    let before = c.entries-entries.ensures ∙ ap (λ (r : RunFields). r.entries) c.run.ensures in
    let behind = c.entries.ensures ∙ ap (λ (r : RunFields). r.entries) c.run-2.ensures in
    subst (λ (es : List Entry). length es ≤ length c.entries.result.now) (sym before)
    (subst (λ (es : List Entry). length c.args.player.now.run.entries ≤ length es) (sym behind) stay)

pub returns-clause-said : goal.returns-clause-said
returns-clause-said c =
    let from = progress c.args.player.now in
    let to = progress c.carry_out.new.self in
    let command = c.in_ok-command.command in
    let number : c.in_ok-number.number ≡ c.args.number = search rules in
    let is_line : IsLine (record { number = c.args.number; command = command }) = search rules in
    let text : c.args.text.now ≡ command_text command = search rules in
    let does = subst (λ (n : ℕ). Does n command from (Some to)) number c.in_ok-carry_out.ensures.ok in
    let before = c.entries-entries.ensures ∙ ap (λ (r : RunFields). r.entries) c.run.ensures in
    let behind = c.entries.ensures ∙ ap (λ (r : RunFields). r.entries) c.run-2.ensures in
    let added = c.refused_behind-added.ensures ∙ ap (λ (rs : List RefusedLine). drop (length rs) to.refused) c.refused-refused.ensures in
    let own : List Entry → List Entry → List RefusedLine → List ℕ = λ old all refused. answer_text command (length old) (drop (length old) all) refused in
    let same : own c.entries-entries.result.now c.entries.result.now c.refused_behind-added.result.now ≡ own from.entries to.entries (drop (length from.refused) to.refused) =
    ap₂ (λ old all. own old all c.refused_behind-added.result.now) before behind ∙ ap (λ (rs : List RefusedLine). own from.entries to.entries rs) added in
    (own from.entries to.entries (drop (length from.refused) to.refused), plays_to c.args.number c.args.text.now command from to is_line text does, c.in_ok-push_answer.ensures ∙ ap (λ (l : List ℕ). string_bytes c.args.out.now ++ l) same)
