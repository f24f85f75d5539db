use Rattle.std.specs.Prelude.{not}
use Rattle.std.proofs.Common.{rules}
use Rattle.std.proofs.lemmas.Fn.{filter_same}
use Rattle.token_server.specs.rule.Requests.{is_up_to}
use Rattle.token_server.proofs.token_queue.active.forget.Goals as goal

pub returns-clause-items : goal.returns-clause-items
returns-clause-items c = filter_same _ (λ h. not (is_up_to c.args.node c.args.incarnation h.request)) _ (λ x b f k. search rules) _ _ c.retain.ensures.filtered
