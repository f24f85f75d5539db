use Rattle.std.specs.Prelude.{◌≤◌}
use Rattle.std.specs.List.{count_by}
use Rattle.std.proofs.Common.{sym, subst}
use Rattle.token_server.specs.rule.Requests.{is_of_call}
use Rattle.token_server.specs.rule.Actives.{ActiveParts, requests_of}
use Rattle.token_server.proofs.token_queue.active.Active.end_one.Goals as goal

pub end_one-requires : goal.end_one-requires
end_one-requires c = subst (λ (a : ActiveParts). count_by (is_of_call c.in-Some.call) (requests_of a.held) ≤ 1) (sym c.self.view_is) (c.requires c.in-Some.call)
