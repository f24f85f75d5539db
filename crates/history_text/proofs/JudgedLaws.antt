-- The files of a history, judged one after the other.
use Rattle.std.proofs.Common.{◌≡◌, ℕ, ◌+◌, ◌<◌, ◌≤◌, length, take, get_or, inl, inr, refl, sym, subst, ◌∙◌}
use Rattle.std.specs.Prelude.{◌⊎◌, All, Any}
use Rattle.std.proofs.lemmas.List.{take_all}
use Rattle.std.proofs.lemmas.List.Elements.{All-more}
use Rattle.history_text.specs.declared.file_calls.FileCalls.{FileCalls}
use Rattle.history_text.specs.declared.written_history.WrittenHistory.{WrittenHistory}
use Rattle.history_text.specs.declared.judged.Judged.{Judged}
use Rattle.history_text.specs.declared.judged.Judged.TheVariants.{Explained, Contradicted, Unknown}
use Rattle.history_text.specs.declared.judging.JudgementOutcome.{JudgementOutcome}
use Rattle.history_text.specs.declared.judging.JudgementOutcome.TheVariants as outcome
use Rattle.history_text.specs.rule.Judgements.{HasOneClock, IsContradicted, IsExplained, IsJudged, IsOutcome, outcome_of}

-- the outcome of the first files is true of them, where the history has one clock: each is explained, or one isn't
pub record SoFar (history : WrittenHistory) (said : JudgementOutcome) (count : ℕ) : Type 0 where
  pub yes : said ≡ outcome.Yes → HasOneClock history → All IsExplained (take count history.files.items)
  pub no : said ≡ outcome.No → HasOneClock history → Any (λ file. IsContradicted file.calls.items) history.files.items

explained-file : (file : FileCalls) (found : Judged) → outcome_of found ≡ outcome.Yes → IsJudged file.calls.items found → IsExplained file
explained-file file (Explained order) word is = (order.items, is)
explained-file file (Contradicted misfits unknown) word is = absurd (cc)
explained-file file (Unknown line) word is = absurd (cc)

contradicted-file : (file : FileCalls) (found : Judged) → outcome_of found ≡ outcome.No → IsJudged file.calls.items found → IsContradicted file.calls.items
contradicted-file file (Explained order) word is = absurd (cc)
contradicted-file file (Contradicted misfits unknown) word is = is
contradicted-file file (Unknown line) word is = absurd (cc)

-- one more file is judged
pub so-far-more : (history : WrittenHistory) (was now said : JudgementOutcome) (count : ℕ) (file : FileCalls) (found : Judged) → count < length history.files.items → file ≡ get_or history.files.items count file
    → (HasOneClock history → IsJudged file.calls.items found) → now ≡ outcome_of found → (said ≡ outcome.Yes → (was ≡ outcome.Yes) × (now ≡ outcome.Yes)) → (said ≡ outcome.No → (was ≡ outcome.No) ⊎ (now ≡ outcome.No))
    → SoFar history was count → SoFar history said (count + 1)
so-far-more history was now said count file found lt at judged is explained contradicted before = record {
  yes = λ word clock.
      let both = explained word in
      All-more IsExplained history.files.items count file lt (before.yes both.0 clock) (subst IsExplained at (explained-file file found (sym is ∙ both.1) (judged clock)));
  no = λ word clock. elim (contradicted word) [
    | inl earlier ↦ before.no earlier clock
    | inr here ↦ (count, file, lt, sym at, contradicted-file file found (sym is ∙ here) (judged clock))
  ];
}

-- all files are judged
pub so-far-all : (history : WrittenHistory) (said : JudgementOutcome) (count : ℕ) → length history.files.items ≤ count → SoFar history said count → IsOutcome history said
so-far-all history outcome.Yes count whole far = λ clock. subst (All IsExplained) (take_all count history.files.items whole) (far.yes refl clock)
so-far-all history outcome.Unknown count whole far = tt
so-far-all history outcome.No count whole far = far.no refl
