-- Texts of scripts for a cluster of a given shape.
use Rattle.std.specs.Prelude.{◌≡◌, ◌≢◌, ℕ, List}
use Rattle.messages.specs.rule.Shapes.{ShapeFields}
use Rattle.texts.specs.rule.LineFeeds.{FindsLine}
use Rattle.lockscript.specs.rule.Scripts.{IsFirstBad, IsScript, IsScriptShape, ScriptFields, shape_text}
use Rattle.lockscript.specs.declared.error.ParseError.{ParseError}
use Rattle.lockscript.specs.declared.error.ParseError.TheVariants.{NoMemory, BadLine}

-- the line of this number is the first one that isn't skipped, it names this shape, and the text goes on with the rest
pub record IsClusterLine (text : List ℕ) (number : ℕ) (shape : ShapeFields) (rest : List ℕ) : Type 0 where
  pub line : List ℕ
  pub finds : FindsLine text 0 number line rest
  pub names : line ≡ shape_text shape
  pub shape_in : IsScriptShape shape

-- the line of this number is the first one that isn't skipped, and it names another shape
pub record NamesAnother (shape : ShapeFields) (text : List ℕ) (number : ℕ) : Type 0 where
  pub other : ShapeFields
  pub rest : List ℕ
  pub names : IsClusterLine text number other rest
  pub differs : other ≢ shape

-- the text is that of this script, whose cluster has this shape
abbrev pub IsForShape : ShapeFields → List ℕ → ScriptFields → Type 0
IsForShape shape text s = IsScript text s × (s.shape ≡ shape)

-- the line of this number is the first bad one in a text that has to be for a cluster of this shape
pub data IsBadForShape (shape : ShapeFields) (text : List ℕ) (number : ℕ) : Type 0 where
  -- the line names another shape
  names_another : NamesAnother shape text number → IsBadForShape shape text number
  -- the line is the first bad one for any script, and no line names another shape
  stands_wrong : IsFirstBad text number → ((other : ℕ) → NamesAnother shape text other → ⊥) → IsBadForShape shape text number

-- the text is no script for a cluster of this shape for this reason, or it is one for which there was no memory
abbrev pub IsRefusedForShape : ShapeFields → List ℕ → ParseError → Type 0
IsRefusedForShape shape text NoMemory = (s : ScriptFields) × IsForShape shape text s
IsRefusedForShape shape text (BadLine number) = IsBadForShape shape text number
