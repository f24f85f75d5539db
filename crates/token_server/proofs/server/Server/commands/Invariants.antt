use Rattle.std.specs.Prelude.{◌++◌}
use Rattle.std.proofs.Common.{take}
use Rattle.token_server.specs.code.Edits.{held_after, drafted, kept_of, AreServed}
use Rattle.token_server.proofs.server.Server.commands.Given as goal

abbrev pub invariant-loop-held : goal.invariant-loop-held
invariant-loop-held l =
    AreServed (drafted l.self l.draft) (held_after l.draft l.self.active.held) (kept_of l.draft l.self.active.held ++ take l.held-index l.draft.fresh.items) l.told.items
