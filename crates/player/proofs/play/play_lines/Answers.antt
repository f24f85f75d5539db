use Rattle.std.proofs.Common.{◌≡◌, rules, refl, subst, sym, true}
use Rattle.std.specs.Prelude.{Bool}
use Rattle.model.specs.rule.Limits.{IsNumber, most_nodes}
use Rattle.messages.specs.rule.Shapes.{IsShape, most_files}
use Rattle.cluster_core.specs.rule.Parts.{world_state}
use Rattle.cluster_core.specs.rule.World.{first_world}
use Rattle.cluster_core.proofs.runs.JournalRuns.{leads_shape}
use Rattle.player.specs.code.Rounds.{ComesOn, progress, state_of}
use Rattle.player.specs.rule.Progress.{played_of}
use Rattle.player.proofs.Progresses.{lines_lead}
use Rattle.player.proofs.RoundEnds.{calm_leads, ends_calm}
use Rattle.player.proofs.play.play_lines.Goals as goal

pub finish-requires : goal.finish-requires
finish-requires g c = lines_lead (first_world c.args.shape) (progress c.args.player) c.args.lines.items (progress c.run_lines.new.player) c.requires c.in_ok-run_lines.ensures.ok

pub calm-requires : goal.calm-requires
calm-requires g c =
    let led = lines_lead (first_world c.args.shape) (progress c.args.player) c.args.lines.items (progress c.run_lines.new.player) c.requires c.in_ok-run_lines.ensures.ok in
    leads_shape (first_world c.args.shape) (world_state c.run_lines.new.player.run.world) c.run_lines.new.player.run.entries led

pub finish-requires-2 : goal.finish-requires-2
finish-requires-2 g c =
    let led = lines_lead (first_world c.args.shape) (progress c.args.player) c.args.lines.items (progress c.run_lines.new.player) c.requires c.in_ok-run_lines.ensures.ok in
    calm_leads (first_world c.args.shape) c.run_lines.new.player.run c.calm.new.self.run _ led c.in_ok-end.ensures.calm

pub returns-clause-played : goal.returns-clause-played
returns-clause-played g c =
    let calm : c.args.calm ≡ true = search rules in
    let led = lines_lead (first_world c.args.shape) (progress c.args.player) c.args.lines.items (progress c.run_lines.new.player) c.requires c.in_ok-run_lines.ensures.ok in
    let served : IsShape c.args.shape = record { nodes_in = subst (IsNumber most_nodes) c.nodes.ensures.value c.nodes.ensures.within; files_in = subst (IsNumber most_files) c.files.ensures.value c.files.ensures.within } in
    let ends = ends_calm c.args.shape served c.run_lines.new.player c.calm.new.self _ _ led c.finish-2.ensures.value c.in_ok-end.ensures.refused c.in_ok-end.ensures.calm in
    subst (λ (b : Bool). ComesOn b c.args.shape (progress c.args.player) c.args.lines.items (state_of c.finish-2.result) c.refusal_of.result) (sym calm)
    (played_of c.args.shape (progress c.run_lines.new.player), c.in_ok-end.end, (progress c.run_lines.new.player, c.in_ok-run_lines.ensures.ok, refl), ends, c.refusal_of.ensures)
