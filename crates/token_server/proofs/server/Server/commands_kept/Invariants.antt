use Rattle.std.proofs.Common.{take}
use Rattle.token_server.specs.rule.Actives.{waiting_for}
use Rattle.token_server.specs.code.Edits.{held_after, drafted, kept, AreServed}
use Rattle.token_server.proofs.server.Server.commands_kept.Given as goal

abbrev pub invariant-loop-place : goal.invariant-loop-place
invariant-loop-place l =
    AreServed (drafted l.self l.draft) (held_after l.draft l.self.active.held) (kept l.draft (take l.place (waiting_for l.draft.ats.items l.self.active.held))) l.told.items
