use Rattle.std.proofs.Common.{◌≡◌, ◌↔◌, [], IsTrue, List, ℕ, subst}
use Rattle.message_text.proofs.ReportWords.{ended_words}
use Rattle.message_text.proofs.reports.RemainingWords.is_empty.Goals as goal

pub returns : goal.returns
returns c = subst (λ (words : List (List ℕ)). IsTrue c.self.inside.ended ↔ (words ≡ [])) c.self.view_is (ended_words c.self.inside.ended c.self.inside.rest.now)
