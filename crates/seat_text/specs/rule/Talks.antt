-- Lines that are answered, one after the other, and a log of what is said.
use Rattle.std.specs.Prelude.{◌≡◌, ◌≤◌, ◌⊎◌, ℕ, List, [], ◌∷◌, ◌++◌, All, flat_map, Option, Some, None, Result, Ok, Err, ◌≢◌, ◌<◌, Bool, true, false, length}
use Rattle.std.specs.Io.KnownBytes.{Appends, Consumes, IsAtEnd}
use Rattle.texts.specs.rule.LineFeeds.{line_feed, line_feeds}
use Rattle.seat_text.specs.declared.talk.TalkEnd.{TalkEnd}
use Rattle.seat_text.specs.declared.talk.TalkEnd.TheVariants.{AtEnd}
use Rattle.seat_text.specs.declared.talk.Heard.{Heard}
use Rattle.seat_text.specs.declared.talk.Heard.TheVariants.{Line, Long, End, Broken}

-- the most bytes that a line may have, without its line feed
abbrev pub longest_line : ℕ
longest_line = 67108864

-- what one says to a line, and what it is then
abbrev pub Saying : Type 0 → Type 1
Saying A = A → List ℕ → List ℕ → A → Type 0

-- one who begins as a says this to the lines, in all, and is then z
abbrev pub Answers : {A : Type 0} → Saying A → A → List (List ℕ) → List ℕ → A → Type 0
Answers says a [] said z = (said ≡ []) × (z ≡ a)
Answers says a (line ∷ lines) said z = (first : List ℕ) × (rest : List ℕ) × (b : _) × says a line first b × Answers says b lines rest z × (said ≡ first ++ rest)

-- the bytes of whole lines
abbrev pub line_bytes : List (List ℕ) → List ℕ
line_bytes lines = flat_map (λ line. line ++ line_feed ∷ []) lines

-- lines were read, each was answered, and what was said stands in the log and was written out; nothing else was read or written
pub record Talks {A : Type 0} (says : Saying A) (a z : A) (unread left log_before log out_before out : Option (List ℕ)) : Type 0 where
  pub lines : List (List ℕ)
  pub said : List ℕ
  pub read : Consumes unread left (line_bytes lines)
  pub single : All (λ line. line_feeds line ≡ 0) lines
  pub answers : Answers says a lines said z
  pub logged : Appends log_before log said
  pub wrote : Appends out_before out said

-- all of the input was read: lines that were answered, and perhaps a part of one more, which was not
pub record TalksToTheEnd {A : Type 0} (says : Saying A) (a z : A) (unread left log_before log out_before out : Option (List ℕ)) : Type 0 where
  pub between : Option (List ℕ)
  pub talks : Talks says a z unread between log_before log out_before out
  pub rest : List ℕ
  pub read : Consumes between left rest
  pub unfinished : line_feeds rest ≡ 0
  pub ended : IsAtEnd left

-- front is a beginning of the bytes
abbrev pub IsFront : List ℕ → List ℕ → Type 0
IsFront front bytes = (rest : List ℕ) × (bytes ≡ front ++ rest)

-- a beginning of the bytes stands in the log, and a beginning of that was written out
pub record TellsPart (log_before log out_before out : Option (List ℕ)) (bytes : List ℕ) : Type 0 where
  pub in_log : List ℕ
  pub in_out : List ℕ
  pub logged : Appends log_before log in_log
  pub wrote : Appends out_before out in_out
  pub log_front : IsFront in_log bytes
  pub out_front : IsFront in_out in_log

-- what one says to the bytes: nothing, or they are a line with its line feed, and it answers that
abbrev pub IsSaid : {A : Type 0} → Saying A → A → List ℕ → List ℕ → Type 0
IsSaid says a bytes said = (said ≡ []) ⊎ ((line : List ℕ) × (z : _) × (bytes ≡ line ++ line_feed ∷ []) × says a line said z)

-- wherever a talk breaks off: all lines were answered, but for the bytes that were read last, a line at most. What was said to them stands in the log as
-- far as it was written, and what was written out stands in the log
pub record BreaksOff {A : Type 0} (says : Saying A) (a : A) (unread left log_before log out_before out : Option (List ℕ)) : Type 0 where
  pub between : Option (List ℕ)
  pub log_between : Option (List ℕ)
  pub out_between : Option (List ℕ)
  pub now : A
  pub talks : Talks says a now unread between log_before log_between out_before out_between
  pub last : List ℕ
  pub read : Consumes between left last
  pub single : line_feeds last ≤ 1
  pub said : List ℕ
  pub says_it : IsSaid says now last said
  pub tells : TellsPart log_between log out_between out said

-- what is so of a talk that goes on, or that ended for a reason: at the end of the input, or anywhere else
abbrev pub Turned : {A : Type 0} → Saying A → Option TalkEnd → A → A → (unread left log_before log out_before out : Option (List ℕ)) → Type 0
Turned says None a z unread left log_before log out_before out = Talks says a z unread left log_before log out_before out
Turned says (Some AtEnd) a z unread left log_before log out_before out = TalksToTheEnd says a z unread left log_before log out_before out
Turned says (Some end) a z unread left log_before log out_before out = BreaksOff says a unread left log_before log out_before out

-- what was read of a reader that gives this
abbrev pub Gives : {E : Type 0} → Option (List ℕ) → Option (List ℕ) → Result (Option ℕ) E → Type 0
Gives unread left (Ok (Some byte)) = Consumes unread left (byte ∷ [])
Gives unread left (Ok None) = Consumes unread left [] × IsAtEnd left
Gives unread left (Err _) = Consumes unread left []

-- the bytes are those that were kept, and not too many; or they are too many
abbrev pub IsKept : Bool → List ℕ → List ℕ → Type 0
IsKept false kept bytes = (bytes ≡ kept) × (length bytes ≤ longest_line)
IsKept true kept bytes = longest_line < length bytes

-- these bytes of a line were read so far, and kept unless they are too many
pub record HearsPart (unread left : Option (List ℕ)) (kept : List ℕ) (is_long : Bool) : Type 0 where
  pub bytes : List ℕ
  pub read : Consumes unread left bytes
  pub single : All (λ b. b ≢ line_feed) bytes
  pub kept_is : IsKept is_long kept bytes

-- what a line is, of which this was heard, with what was kept of it
abbrev pub IsLine : Heard → List ℕ → List ℕ → Type 0
IsLine Line kept line = (line ≡ kept) × (length line ≤ longest_line)
IsLine Long kept line = longest_line < length line
IsLine _ kept line = ⊥

-- a whole line was read; or what is left had no line feed, and nothing is left now; or some bytes were read that have none
abbrev pub Hears : Option (List ℕ) → Option (List ℕ) → List ℕ → Heard → Type 0
Hears unread left kept End = (bytes : List ℕ) × Consumes unread left bytes × (line_feeds bytes ≡ 0) × IsAtEnd left
Hears unread left kept Broken = (bytes : List ℕ) × Consumes unread left bytes × (line_feeds bytes ≡ 0)
Hears unread left kept heard = (line : List ℕ) × Consumes unread left (line ++ line_feed ∷ []) × (line_feeds line ≡ 0) × IsLine heard kept line

-- a writer took a beginning of the bytes
abbrev pub AppendsPart : Option (List ℕ) → Option (List ℕ) → List ℕ → Type 0
AppendsPart old new bytes = (front : List ℕ) × IsFront front bytes × Appends old new front
