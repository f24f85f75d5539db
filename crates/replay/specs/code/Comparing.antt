-- What came of the script of a file, as the code keeps it, and what is told of it.
use Rattle.std.specs.Prelude.{◌≡◌, ℕ, Bool, true, false, List, Option, Some, None, String, Vec, string_bytes}
use Rattle.std.specs.Global.{Global}
use Rattle.std.specs.Option.{option_map}
use Rattle.cluster_core.specs.rule.Journals.{JournalFields}
use Rattle.lockscript.specs.rule.Scripts.{LineFields}
use Rattle.player.specs.code.Rounds.{PlayedParts, state_of}
use Rattle.player.specs.rule.Expectations.{IsCompared}
use Rattle.replay.specs.rule.Scripts.{HasComparedRun, HasComparedRunBehind}

-- something is told of the run where its rounds are cut off, or a reply begins otherwise than is expected, and else nothing
abbrev pub TellsOf : Bool → PlayedParts × Option (String Global) → Type 0
TellsOf telling ran = IsCompared telling (option_map (λ told. string_bytes told) ran.1)

-- the script of the file came to this
abbrev pub HasRan : (Option (List ℕ) → Type 0) → Bool → Bool → PlayedParts × Option (String Global) → Type 0
HasRan Holds compares calm ran = (telling : Bool) × HasComparedRun Holds compares calm (state_of ran.0) telling × TellsOf telling ran

-- it did so behind the run of a journal
abbrev pub WentBehind : (Option (List ℕ) → Type 0) → JournalFields → Bool → Bool → PlayedParts × Option (String Global) → Type 0
WentBehind Holds j compares calm ran = (telling : Bool) × HasComparedRunBehind Holds j compares calm (state_of ran.0) telling × TellsOf telling ran

-- the text and the lines of the script are kept where replies are to be compared, and nothing else
abbrev pub IsExpecting : Bool → List ℕ → List LineFields → Option (String Global × Vec LineFields Global) → Type 0
IsExpecting compares text lines None = compares ≡ false
IsExpecting compares text lines (Some kept) = (compares ≡ true) × (string_bytes kept.0 ≡ text) × (kept.1.items ≡ lines)
