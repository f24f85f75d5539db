use Rattle.std.specs.Prelude.{not, ◌↔◌}
use Rattle.std.specs.List.{list_any}
use Rattle.std.proofs.Common.{ℕ, List, nat_eq, rules, subst, sym}
use Rattle.std.proofs.lemmas.Fn.{filter_same}
use Rattle.client_history.specs.rule.Explained.{Stands}
use Rattle.client_history.proofs.Taken.{stays}
use Rattle.client_history.proofs.search_front.SearchFront.forget.Goals as goal

-- the calls taken are those that were and are not over
pub returns-clause-taken : goal.returns-clause-taken
returns-clause-taken c = λ i. subst
    (λ (new : List ℕ). Stands new i ↔ (Stands c.args.self.now.taken.items i × (Stands c.args.over.now i → ⊥)))
    (sym (filter_same _ (λ (x : ℕ). not (list_any (λ (y : ℕ). nat_eq y x) c.args.over.now)) _ (λ x b f k. search rules) _ _ c.retain.ensures.filtered))
    (stays c.args.over.now c.args.self.now.taken.items i)
