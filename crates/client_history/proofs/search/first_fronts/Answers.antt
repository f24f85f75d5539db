use Rattle.std.proofs.Common.{◌∷◌, [], ◌++◌, ap, ◌∙◌, List}
use Rattle.client_history.specs.declared.search_front.SearchFront.{SearchFront}
use Rattle.client_history.proofs.search.first_fronts.Goals as goal

pub returns : goal.returns
returns c = (c.new.result, (c.in_ok-push.ensures {u = tt}).items ∙ ap (λ (fronts : List SearchFront). fronts ++ c.new.result ∷ []) c.new-fronts.ensures.items, c.new.ensures.locks, c.new.ensures.taken)
