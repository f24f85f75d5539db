use Rattle.std.specs.Prelude.{slice_index_or}
use Rattle.std.proofs.Common.{arith, ap, sym, take, ◌<◌, length, ◌∙◌}
use Rattle.std.proofs.lemmas.List.{take_more}
use Rattle.node_core.specs.rule.Files.{file_state}
use Rattle.node_core.specs.code.Plans.{told, files_told}
use Rattle.node_core.proofs.PlanLaws.{told-push}
use Rattle.node_core.proofs.file_rows.FileRows.clear_owed.Goals as goal

pub loop-file-preserved : goal.loop-file-preserved
loop-file-preserved c =
    let i = c.loop-file.file-index in
    let freed = c.args.freed.now in
    let files = file_state c.args.self.now in
    let within : i < length freed = omega (arith, c.loop-file-test.true) in
    record {
      state =
          c.clear_one.ensures.state
          ∙ ap (λ known. told known (slice_index_or freed i 0)) c.loop-file.invariant.state
          ∙ sym (told-push files (take i freed) (slice_index_or freed i 0))
          ∙ sym (ap (files_told files) (take_more freed i 0 within));
      count = c.clear_one.ensures.count ∙ c.loop-file.invariant.count;
    }
