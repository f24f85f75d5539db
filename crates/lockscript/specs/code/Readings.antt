-- Each text is one script, or has one first bad line.
use Rattle.std.specs.Prelude.{◌≡◌, ℕ, List}
use Rattle.lockscript.specs.rule.Scripts.{IsFirstBad, IsScript, ScriptFields}

-- the text is that of at most one script, has at most one first bad line, and not both
pub record HasOneReading (text : List ℕ) : Type 0 where
  pub one_script : (s t : ScriptFields) → IsScript text s → IsScript text t → s ≡ t
  pub one_bad_line : (m n : ℕ) → IsFirstBad text m → IsFirstBad text n → m ≡ n
  pub not_both : (s : ScriptFields) (n : ℕ) → IsScript text s → IsFirstBad text n → ⊥

abbrev pub EveryTextHasOneReading : Type 0
EveryTextHasOneReading = (text : List ℕ) → HasOneReading text
