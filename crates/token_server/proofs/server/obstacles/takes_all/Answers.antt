use Rattle.std.proofs.Common.{ap, ◌∙◌}
use Rattle.token_server.specs.declared.known_nodes.known_change.KnownChange.{KnownChange}
use Rattle.token_server.specs.code.Admissions.{frees}
use Rattle.token_server.proofs.AwaitLaws.{apart-part}
use Rattle.token_server.proofs.server.obstacles.takes_all.Goals as goal

pub returns : goal.returns
returns c = λ all row s apart.
    let bounds = c.needs_all_of.ensures all in
    ap (λ (n : KnownChange). frees n row s) c.in-Relieved.is ∙ apart-part c.args.request.now.wanted.required c.in-Relieved.span s bounds.0 bounds.1 apart
