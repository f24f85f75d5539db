-- After n + 2 rounds about a file, where n calls are open, each open call about the file is a wait that a lock blocks.
use Rattle.std.proofs.Common.{◌≡◌, ℕ, ◌+◌, ◌≤◌, Bool, true, inl, inr, ◌∙◌, ap, subst, arith, List, [], ◌∷◌, ◌++◌, length}
use Rattle.messages.specs.rule.Shapes.{ShapeFields, IsShape}
use Rattle.messages.specs.declared.entry.Entry.{Entry}
use Rattle.cluster_core.specs.rule.World.{WorldState, first_world}
use Rattle.cluster_core.specs.rule.Runs.{Leads}
use Rattle.cluster_core.specs.rule.Rounds.{IsRound}
use Rattle.cluster_core.proofs.rounds.Stretches.{leads_both, members_stay}
use Rattle.cluster_core.proofs.rounds.Stuck.{no_call_is_stuck}
use Rattle.progress.specs.rule.Rounds.{number_of_open_calls, AllAreBlocked, AreRounds, RoundsAnswerAllOthers}
use Rattle.progress.proofs.Blocking.{blocked_stays}
use Rattle.progress.proofs.Counting.{stretch_counts}

module _ (shape : ShapeFields) (is : IsShape shape) (file : ℕ) where
  -- the server of the file works after a round as before it
  still_works : (w v : WorldState) (es : List Entry) → IsRound file w es v → w.working file ≡ true → v.working file ≡ true
  still_works w v es round works = ap (λ (f : ℕ → Bool). f file) (members_stay es w v round.leads round.quiet).working ∙ works

  -- what is blocked stays so in more rounds
  rounds_stay : (rounds : List (List Entry)) (past : List Entry) (w v : WorldState) → Leads (first_world shape) past w → AreRounds file w rounds v → AllAreBlocked w file → AllAreBlocked v file
  rounds_stay [] past w v before are all = subst (λ (x : WorldState). AllAreBlocked x file) are all
  rounds_stay (es ∷ rounds) past w v before are all =
      let round = are.1 in
      rounds_stay rounds (past ++ es) are.0 v (leads_both (first_world shape) w are.0 past es before round.leads) are.2 (blocked_stays shape past es w are.0 file is before round.leads round.quiet all)

  -- a round, and then one more for each open call and another one
  round_by_round : (rounds : List (List Entry)) (past es : List Entry) (w mid v : WorldState) → Leads (first_world shape) past w → w.working file ≡ true → IsRound file w es mid → AreRounds file mid rounds v → number_of_open_calls mid + 1 ≤ length rounds → AllAreBlocked v file
  round_by_round [] past es w mid v before works round are enough = absurd (omega arith)
  round_by_round (fs ∷ rounds) past es w mid v before works round are enough =
      let second = are.1 in
      let here = leads_both (first_world shape) w mid past es before round.leads in
      elim (stretch_counts fs mid are.0 second.leads second.quiet) [
        | inl silent ↦
            rounds_stay rounds ((past ++ es) ++ fs) are.0 v (leads_both (first_world shape) mid are.0 (past ++ es) fs here second.leads) are.2
            (λ n c alive at of_file. no_call_is_stuck shape past es fs w mid are.0 file is before works round second silent.0 n c alive at of_file)
        | inr fewer ↦
            round_by_round rounds (past ++ es) fs mid are.0 v here (still_works w mid es round works) second are.2 (omega arith)
      ]

pub rounds_answer : RoundsAnswerAllOthers
rounds_answer shape past [] w v file is before works are enough = absurd (omega arith)
rounds_answer shape past (es ∷ rounds) w v file is before works are enough =
    let round = are.1 in
    let few = stretch_counts es w are.0 round.leads round.quiet in
    round_by_round shape is file rounds past es w are.0 v before works round are.2 (elim few [ inl same ↦ (let le = same.1 in omega arith) | inr less ↦ omega arith ])
