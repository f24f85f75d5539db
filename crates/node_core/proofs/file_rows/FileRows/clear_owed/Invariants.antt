use Rattle.std.proofs.Common.{◌≡◌, length, take}
use Rattle.node_core.specs.rule.Files.{file_state}
use Rattle.node_core.specs.code.Plans.{files_told}
use Rattle.node_core.proofs.file_rows.FileRows.clear_owed.Given as goal

abbrev pub invariant-loop-file : goal.invariant-loop-file
invariant-loop-file l = record {
  state : file_state l.self ≡ files_told (file_state l.fn.self) (take l.file-index l.freed);
  count : length l.self ≡ length l.fn.self;
}
