-- Histories of calls, as texts write them.
use Rattle.std.specs.Prelude.{ℕ, ◌+◌, ◌++◌, Bool, nat_eq, if◌then◌else◌, List, [], ◌∷◌, codes, take, ◌≡◌, ◌≤◌, true, false, flat_map, slice_get, length, drop, count_by, sum_by, Some, All}
use Rattle.history_text.specs.declared.file_calls.FileCalls.{FileCalls}
use Rattle.std.specs.List.{starts_with}
use Rattle.texts.specs.rule.LineFeeds.{line_feed}
use Rattle.history_text.specs.declared.written_history.LineCounts.{LineCounts}
use Rattle.texts.specs.rule.Reads.{IsWithin, Lacks}
use Rattle.client_history.specs.declared.act.Act.TheVariants.{Drops}
use Rattle.client_history.specs.declared.client_call.ClientCall.{ClientCall}
use Rattle.model.specs.declared.owner.Owner.{Owner}
use Rattle.history_text.specs.declared.written_history.WrittenHistory.{WrittenHistory}
use Rattle.history_text.specs.declared.rule.Allowed.{Allowed}
use Rattle.history_text.specs.rule.Owners.{AreDistinct, IsNamed, IsTimed}

-- a line with its line feed
abbrev pub with_feed : List ℕ → List ℕ
with_feed line = line ++ line_feed ∷ []

-- the line is one of a call
abbrev pub is_call : List ℕ → Bool
is_call line = starts_with nat_eq line (codes "call ")

-- the number of lines of calls
abbrev pub counted : LineCounts → ℕ
counted counts = counts.calls + counts.exits + counts.silent

-- the number of different lines in the list, in which equal ones stand together
abbrev pub runs : List ℕ → ℕ
runs [] = 0
runs (line ∷ []) = 1
runs (line ∷ (next ∷ lines)) = (if nat_eq line next then 0 else 1) + runs (next ∷ lines)

-- the number of lines of calls of a file that is read to its end
abbrev pub calls_in : FileCalls → ℕ
calls_in file = runs (take file.told file.lines.items)

-- a call of an owner with a name, which ends no earlier than it begins
pub record IsCall (names : List (List ℕ)) (call : ClientCall) : Type 0 where
  pub name : List ℕ
  pub named : IsNamed names call.owner name
  pub timed : IsTimed call.begin call.end

-- The calls of a file, each with the number of its line: first those of lines, none of them an exit, then calls that drop all. Without `wait-drops` each of the
-- first has a line of its own. Without `lost-at` each of the others is an exit.
pub record IsFile (allowed : Allowed) (names : List (List ℕ)) (lines : ℕ) (file : FileCalls) : Type 0 where
  pub calls : All (IsCall names) file.calls.items
  pub paired : length file.lines.items ≡ length file.calls.items
  pub within : All (IsWithin 1 lines) file.lines.items
  pub told : file.told ≤ length file.calls.items
  pub go_on : All (λ call. call.is_last ≡ false) (take file.told file.calls.items)
  pub drops : All (λ call. call.act ≡ Drops) (drop file.told file.calls.items)
  pub alone : allowed.wait_drops ≡ false → runs (take file.told file.lines.items) ≡ file.told
  pub exits : allowed.lost_at ≡ false → All (λ call. call.is_last ≡ true) (drop file.told file.calls.items)

-- no call of the second file begins behind the end of its owner's exit in the first
abbrev pub EndWithExits : FileCalls → FileCalls → Type 0
EndWithExits first second = (i j : ℕ) (exit call : ClientCall) → slice_get first.calls.items i ≡ Some exit → slice_get second.calls.items j ≡ Some call → exit.is_last ≡ true → call.owner ≡ exit.owner → IsTimed call.begin exit.end

-- each owner stands for at most one name, and each name has at most one owner
pub record AreOneToOne (names : List (List ℕ)) : Type 0 where
  pub one_name : (owner : Owner) (a b : List ℕ) → IsNamed names owner a → IsNamed names owner b → a ≡ b
  pub one_owner : (a b : Owner) (name : List ℕ) → IsNamed names a name → IsNamed names b name → a ≡ b

-- a history of that many lines and lines of calls, where these rules are allowed
pub record IsHistory (allowed : Allowed) (lines calls : ℕ) (history : WrittenHistory) : Type 0 where
  pub owners : AreOneToOne history.owners
  pub names : AreDistinct history.names
  pub named : length history.names ≡ length history.files.items
  pub files : All (IsFile allowed history.owners lines) history.files.items
  pub exits : (i j : ℕ) (first second : FileCalls) → slice_get history.files.items i ≡ Some first → slice_get history.files.items j ≡ Some second → EndWithExits first second
  pub calls_are : sum_by calls_in history.files.items ≡ history.counts.calls
  pub counted_is : counted history.counts ≡ calls

-- a history of the lines of the text, where these rules are allowed
pub record IsHistoryOf (allowed : Allowed) (text : List ℕ) (history : WrittenHistory) : Type 0 where
  pub lines : List (List ℕ)
  pub parts : text ≡ flat_map with_feed lines
  pub single : All (Lacks line_feed) lines
  pub history_is : IsHistory allowed (length lines) (count_by is_call lines) history
