use Rattle.std.proofs.Common.{ap, sym, ◌∙◌}
use Rattle.std.specs.Option.{option_copied}
use Rattle.client_history.proofs.owner_calls.OwnerCalls.of.Goals as goal

pub returns-in-Some : goal.returns-in-Some
returns-in-Some c = λ calls known. known c.args.owner c.in-Some.known.now (sym c.get.ensures.value ∙ ap option_copied c.in-Some.is)
