use Rattle.std.specs.Prelude.{◌≡◌, length}
use Rattle.token_server.specs.code.Rows.{AreRebuilt}
use Rattle.token_server.proofs.known_nodes.known_nodes.rebuilt.Given as goal

abbrev pub invariant-loop-place : goal.invariant-loop-place
invariant-loop-place l = record {
  rebuilt : AreRebuilt l.file l.number l.members l.place l.known_nodes.items;
  len : length l.known_nodes.items ≡ l.place;
}
