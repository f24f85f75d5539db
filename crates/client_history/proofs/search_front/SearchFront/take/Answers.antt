use Rattle.std.proofs.Common.{List, ℕ, subst, sym}
use Rattle.client_history.specs.code.Taken.{IsAlsoTaken}
use Rattle.client_history.proofs.Taken.{put_in}
use Rattle.client_history.proofs.search_front.SearchFront.take.Goals as goal

-- the call that was inserted is taken, besides those before
pub returns-clause-noted : goal.returns-clause-noted
returns-clause-noted c = λ did. subst (λ (new : List ℕ). IsAlsoTaken c.args.«open».now.index c.args.self.now.taken.items new) (sym c.in_ok-insert.ensures.items) (put_in c.args.«open».now.index c.partition_point-place.result c.args.self.now.taken.items)
