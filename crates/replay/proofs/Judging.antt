-- Lemmas on histories that are judged.
use Rattle.std.proofs.Common.{◌≡◌, ◌<◌, ◌≤◌, ℕ, ◌+◌, List, length, take, get_or, Option, Some, None, inl, inr, refl, sym, subst}
use Rattle.std.specs.Prelude.{◌⊎◌, All, Any, String}
use Rattle.std.specs.Global.{Global}
use Rattle.std.proofs.lemmas.List.{take_all}
use Rattle.std.proofs.lemmas.List.Elements.{All-more, All-weaker}
use Rattle.history_text.specs.declared.rule.Allowed.{Allowed}
use Rattle.history_text.specs.declared.judging.JudgementOutcome.{JudgementOutcome}
use Rattle.history_text.specs.declared.judging.JudgementOutcome.TheVariants as outcome
use Rattle.replay.specs.declared.shown.Shown.{Shown}
use Rattle.replay.specs.declared.shown.Shown.TheVariants.{Text, Wanting, Partial, Undecided, CutShort, Yes, No}
use Rattle.replay.specs.rule.Judging.{AreJudged, HasHistoryAt, IsSaidIn, IsSaidOf, shown_of}
use Rattle.replay.specs.rule.Stores.{Files, SameFiles}
use Rattle.replay.proofs.Stores.{had-text, same-after}

-- what is said of a text is said of a history
history-said : (allowed : Allowed) (orders : Option (List ℕ)) (old : Files) (said : JudgementOutcome) (path : List ℕ) → IsSaidOf allowed orders old said path → HasHistoryAt allowed old path
history-said allowed None old said path is = (is.0, is.1, is.2, (is.3.0, is.3.1))
history-said allowed (Some orders) old said path is = (is.0, is.1, is.2, (is.3.0, is.3.1))

had-said : (allowed : Allowed) (orders : Option (List ℕ)) (old new : Files) (said : JudgementOutcome) (path : List ℕ) → SameFiles old new → IsSaidOf allowed orders new said path → IsSaidOf allowed orders old said path
had-said allowed orders old new said path same is = had-text old new path (λ text. IsSaidIn allowed orders text said) same is

-- so many histories were judged: no file changed, each has one, and what is said of them is so
pub record SoFar (allowed : Allowed) (orders : Option (List ℕ)) (old new : Files) (said : JudgementOutcome) (count : ℕ) (paths : List (List ℕ)) : Type 0 where
  pub same : SameFiles old new
  pub read : All (HasHistoryAt allowed old) (take count paths)
  pub explained : said ≡ outcome.Yes → All (IsSaidOf allowed orders old outcome.Yes) (take count paths)
  pub contradicted : said ≡ outcome.No → Any (IsSaidOf allowed orders old outcome.No) paths

-- one more
pub so-far-more : (allowed : Allowed) (orders : Option (List ℕ)) (old mid new : Files) (was now said : JudgementOutcome) (count : ℕ) (paths : List (List ℕ)) (path : List ℕ) → count < length paths → path ≡ get_or paths count path
    → IsSaidOf allowed orders mid now path → (said ≡ outcome.Yes → (was ≡ outcome.Yes) × (now ≡ outcome.Yes)) → (said ≡ outcome.No → (was ≡ outcome.No) ⊎ (now ≡ outcome.No)) → SameFiles mid new
    → SoFar allowed orders old mid was count paths → SoFar allowed orders old new said (count + 1) paths
so-far-more allowed orders old mid new was now said count paths path lt at is explained contradicted after before = record {
  same = same-after old mid new before.same after;
  read = All-more (HasHistoryAt allowed old) paths count path lt before.read (subst (HasHistoryAt allowed old) at (history-said allowed orders old now path (had-said allowed orders old mid now path before.same is)));
  explained = λ word.
      let both = explained word in
      let here = subst (λ (o : JudgementOutcome). IsSaidOf allowed orders mid o path) both.1 is in
      All-more (IsSaidOf allowed orders old outcome.Yes) paths count path lt (before.explained both.0) (subst (IsSaidOf allowed orders old outcome.Yes) at (had-said allowed orders old mid outcome.Yes path before.same here));
  contradicted = λ word. elim (contradicted word) [
    | inl earlier ↦ before.contradicted earlier
    | inr here ↦ (count, path, lt, sym at, had-said allowed orders old mid outcome.No path before.same (subst (λ (o : JudgementOutcome). IsSaidOf allowed orders mid o path) here is))
  ];
}

-- all of them
pub judged-all : (allowed : Allowed) (orders : Option (List ℕ)) (old new : Files) (said : JudgementOutcome) (count : ℕ) (paths : List (List ℕ)) (text : String Global) → length paths ≤ count → SoFar allowed orders old new said count paths
    → AreJudged old allowed paths orders (shown_of said text)
judged-all allowed orders old new outcome.Yes count paths text whole far = subst (All (IsSaidOf allowed orders old outcome.Yes)) (take_all count paths whole) (far.explained refl)
judged-all allowed orders old new outcome.Unknown count paths text whole far = subst (All (HasHistoryAt allowed old)) (take_all count paths whole) far.read
judged-all allowed orders old new outcome.No count paths text whole far = (subst (All (HasHistoryAt allowed old)) (take_all count paths whole) far.read, far.contradicted refl)

-- what is so of the files as they were, where none has changed
any-had : (P Q : List ℕ → Type 0) (paths : List (List ℕ)) → ((path : List ℕ) → P path → Q path) → Any P paths → Any Q paths
any-had P Q paths same any = (any.0, any.1, any.2, any.3, same any.1 any.4)

pub had-judged : (allowed : Allowed) (orders : Option (List ℕ)) (old new : Files) (paths : List (List ℕ)) (shown : Shown) → SameFiles old new → AreJudged new allowed paths orders shown → AreJudged old allowed paths orders shown
had-judged allowed orders old new paths (Text text) same is = All-weaker (IsSaidOf allowed orders new outcome.Yes) (IsSaidOf allowed orders old outcome.Yes) (λ path said. had-said allowed orders old new outcome.Yes path same said) paths is
had-judged allowed orders old new paths (Wanting text) same is = (
  All-weaker (HasHistoryAt allowed new) (HasHistoryAt allowed old) (λ path has. had-text old new path _ same has) paths is.0,
  any-had (IsSaidOf allowed orders new outcome.No) (IsSaidOf allowed orders old outcome.No) paths (λ path said. had-said allowed orders old new outcome.No path same said) is.1,
)
had-judged allowed orders old new paths (Undecided text) same is = All-weaker (HasHistoryAt allowed new) (HasHistoryAt allowed old) (λ path has. had-text old new path _ same has) paths is
had-judged allowed orders old new paths (CutShort text) same is = is
had-judged allowed orders old new paths (Partial text told) same is = is
had-judged allowed orders old new paths Yes same is = is
had-judged allowed orders old new paths (No position) same is = is
