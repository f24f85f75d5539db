use Rattle.std.specs.Prelude.{◌≡◌, All, take}
use Rattle.token_set.specs.rule.Tokens.{token_of}
use Rattle.messages.specs.rule.Messages.{reported}
use Rattle.token_server.proofs.KnownNodeLaws.{HasByte}
use Rattle.token_server.proofs.known_nodes.reports.token_told.Given as goal

abbrev pub invariant-loop-place : goal.invariant-loop-place
invariant-loop-place l = (token_of l.token ≡ reported (take l.place l.runs)) × All HasByte (take l.place l.runs)
