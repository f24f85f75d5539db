-- The file of a list.
use Rattle.std.specs.Prelude.{◌≡◌, ◌⊎◌, ⊤, ℕ, ◌+◌, List, [], ◌∷◌, ◌++◌, Option, Some, None, Ok, length}
use Rattle.messages.specs.rule.Shapes.{ShapeFields}
use Rattle.seat_text.specs.rule.Talks.{IsFront}
use Rattle.texts.specs.rule.LineFeeds.{line_feed}
use Rattle.texts.specs.rule.Reads.{Lacks}
use Rattle.seat_commands.specs.declared.change_list.NotedChange.{NotedChange}
use Rattle.seat_commands.specs.declared.read_back.Next.{Next}
use Rattle.seat_commands.specs.declared.read_back.Next.TheVariants.{Block, Torn, Bad}
use Rattle.seat_commands.specs.declared.read_back.ReadBack.{ReadBack}
use Rattle.seat_commands.specs.rule.Changes.{ListState, first_list, list_head, list_rule, list_state, noted_text}
use Rattle.seat_commands.specs.rule.Clocks.{IsInterval, interval_text}

-- a clock whose last reading was `last` may be read so, or not be read; its last reading is then `now`
abbrev pub MayFollow : ℕ → Option (ℕ × ℕ) → ℕ → Type 0
MayFollow last None now = now ≡ last
MayFollow last (Some i) now = IsInterval last i.0 i.1 × (now ≡ i.1)

-- a change leads from one list to the next, by the rules of members, in the incarnation or the epoch that is noted; the clock did not go back
pub record Follows (a : ListState) (last : ℕ) (n : NotedChange) (z : ListState) (now : ℕ) : Type 0 where
  pub rule : list_rule a n.change ≡ Ok (z, n.incarnation)
  pub read : MayFollow last n.interval now

-- changes lead from one list to another, and these are their blocks
abbrev pub Leads : ListState → ℕ → List NotedChange → ListState → ℕ → List ℕ → Type 0
Leads a last [] z now text = (z ≡ a) × (now ≡ last) × (text ≡ [])
Leads a last (n ∷ ns) z now text =
    (b : ListState) × (between : ℕ) × (rest : List ℕ) × Follows a last n b between × Leads b between ns z now rest × (text ≡ noted_text n (length a.changes + 1) ++ rest)

-- the lines are the bytes up to the last line feed
pub record IsWholeLines (bytes lines : List ℕ) : Type 0 where
  pub piece : List ℕ
  pub bytes_are : bytes ≡ lines ++ piece
  pub no_line : Lacks line_feed piece

-- of the bytes the whole lines are a beginning of a block
pub record IsTorn (bytes block : List ℕ) : Type 0 where
  pub lines : List ℕ
  pub whole : IsWholeLines bytes lines
  pub front : IsFront lines block

-- the text of a block of this number, or the readings of a clock with which one begins
abbrev pub IsBlockFront : List ℕ → ℕ → Type 0
IsBlockFront text count = ((n : NotedChange) × (text ≡ noted_text n count)) ⊎ ((i : Option (ℕ × ℕ)) × (text ≡ interval_text i))

-- the bytes are a part of a block of this number
pub record IsTail (bytes : List ℕ) (count : ℕ) : Type 0 where
  pub block : List ℕ
  pub block_is : IsBlockFront block count
  pub torn : IsTorn bytes block

-- bytes that have no whole block, where one would begin so
abbrev pub IsTailOf : List ℕ → List ℕ → Next → Type 0
IsTailOf bytes block Torn = IsTorn bytes block
IsTailOf bytes block (Bad good) = ⊤
IsTailOf bytes block (Block left) = ⊥

-- what comes next of bytes, behind a list
abbrev pub IsNext : ListState → ℕ → List ℕ → ListState → ℕ → Next → Type 0
IsNext a last bytes z now (Block left) = (n : NotedChange) × Follows a last n z now × (bytes ≡ noted_text n (length a.changes + 1) ++ left.now)
IsNext a last bytes z now Torn = (z ≡ a) × (now ≡ last) × IsTail bytes (length a.changes + 1)
IsNext a last bytes z now (Bad good) = ⊤

-- the bytes are blocks that lead from one list to another, and a part of one more, which has so many bytes
pub record HasBlocks (a : ListState) (last : ℕ) (bytes : List ℕ) (z : ListState) (now torn : ℕ) : Type 0 where
  pub changes : List NotedChange
  pub blocks : List ℕ
  pub tail : List ℕ
  pub bytes_are : bytes ≡ blocks ++ tail
  pub leads : Leads a last changes z now blocks
  pub ends : IsTail tail (length z.changes + 1)
  pub count : torn ≡ length tail

-- a file has the list of a cluster of this shape, and a part of a block more
pub record HasList (shape : ShapeFields) (bytes : List ℕ) (r : ReadBack) : Type 0 where
  pub rest : List ℕ
  pub torn : ℕ
  pub head : bytes ≡ list_head shape ++ rest
  pub blocks : HasBlocks (first_list shape) 0 rest (list_state r.list) r.last torn
  pub whole : r.whole + torn ≡ length bytes

-- a file has a part of the first block of such a list, and nothing else
pub record HasNone (shape : ShapeFields) (bytes : List ℕ) (r : ReadBack) : Type 0 where
  pub front : IsFront bytes (list_head shape)
  pub list : list_state r.list ≡ first_list shape
  pub whole : r.whole ≡ 0
  pub last : r.last ≡ 0

abbrev pub IsReadBack : ShapeFields → List ℕ → ReadBack → Type 0
IsReadBack shape bytes r = HasList shape bytes r ⊎ HasNone shape bytes r
