-- The answers to lines are those of a script that is played.
use Rattle.std.proofs.Common.{◌≡◌, ℕ, ◌+◌, true, false, Option, Some, None, refl, sym, ap, subst, ◌∙◌, inl, inr, arith, List, [], ◌∷◌, ◌++◌, length, length-append, append-nil, append_assoc, map, All, flat_map}
use Rattle.std.proofs.lemmas.List.Elements.{All-cons, All-nil}
use Rattle.std.proofs.lemmas.Option.{none-some, same_Some}
use Rattle.texts.specs.rule.LineFeeds.{is_skipped, kept_lines}
use Rattle.messages.specs.declared.entry.Entry.{Entry}
use Rattle.messages.specs.rule.Shapes.{ShapeFields}
use Rattle.cluster_core.specs.rule.World.{first_world}
use Rattle.lockscript.specs.declared.refused_line.RefusedLine.{RefusedLine}
use Rattle.lockscript.specs.rule.Scripts.{IsLine, LineFields, Writes, line_text, script_of, shape_text}
use Rattle.player.specs.rule.Progress.{Progress, RunsTo, first_progress}
use Rattle.player.proofs.Progresses.{lines_lead}
use Rattle.seat_text.specs.rule.Talks.{Answers}
use Rattle.line_play.specs.rule.Answers.{Begins, PlaysTo, Says, Stage, answer_text, first_answer, AnswersArePlayed, IsPlayed, Part, answers_text}

-- the stage of a run, behind so many lines
abbrev pub running : ℕ → Progress → Stage
running n p = record { lines = n; run = Some p }

-- lines behind so many others, from a progress on: they are commands, which lead to another progress, and that was said to them
pub record GoesOn (n : ℕ) (from : Progress) (lines : List (List ℕ)) (said : List ℕ) (z : Stage) : Type 0 where
  pub to : Progress
  pub commands : List LineFields
  pub parts : List Part
  pub there : z.run ≡ Some to
  pub counted : z.lines ≡ n + length lines
  pub kept : kept_lines (n + 1) lines ≡ map line_text commands
  pub within : All IsLine commands
  pub runs : RunsTo from commands (Some to)
  pub said_is : said ≡ answers_text (length from.entries) parts
  pub entries : to.entries ≡ from.entries ++ flat_map (λ part. part.entries) parts
  pub refused : to.refused ≡ from.refused ++ flat_map (λ part. part.refused) parts

none_on : (n : ℕ) (from : Progress) (said : List ℕ) (z : Stage) → said ≡ [] → z ≡ running n from → GoesOn n from [] said z
none_on n from said z silent same = record {
  to = from;
  commands = [];
  parts = [];
  there = ap (λ (s : Stage). s.run) same;
  counted = ap (λ (s : Stage). s.lines) same ∙ omega arith;
  kept = refl;
  within = All-nil IsLine;
  runs = refl;
  said_is = silent;
  entries = sym (append-nil from.entries);
  refused = sym (append-nil from.refused);
}

-- a line that is skipped is none of the kept ones
kept_skip : (n : ℕ) (line : List ℕ) (lines : List (List ℕ)) → is_skipped line ≡ true → kept_lines n (line ∷ lines) ≡ kept_lines (n + 1) lines
kept_skip n line lines skipped = rw skipped refl

kept_more : (n : ℕ) (line : List ℕ) (lines : List (List ℕ)) → is_skipped line ≡ false → kept_lines n (line ∷ lines) ≡ (n, line) ∷ kept_lines (n + 1) lines
kept_more n line lines kept = rw kept refl

skip_on : (n : ℕ) (from : Progress) (line : List ℕ) (lines : List (List ℕ)) (said first rest : List ℕ) (z : Stage) → is_skipped line ≡ true → first ≡ [] → said ≡ first ++ rest
    → GoesOn (n + 1) from lines rest z → GoesOn n from (line ∷ lines) said z
skip_on n from line lines said first rest z skipped silent is on = record {
  to = on.to;
  commands = on.commands;
  parts = on.parts;
  there = on.there;
  counted = on.counted ∙ omega arith;
  kept = kept_skip (n + 1) line lines skipped ∙ on.kept;
  within = on.within;
  runs = on.runs;
  said_is = is ∙ ap (λ (l : List ℕ). l ++ rest) silent ∙ on.said_is;
  entries = on.entries;
  refused = on.refused;
}

-- the text of a line that is played, and of those behind it
said_on : (n : ℕ) (from mid : Progress) (line first rest said : List ℕ) (parts : List Part) (p : PlaysTo n line from first mid) → said ≡ first ++ rest
    → rest ≡ answers_text (length mid.entries) parts
    → said ≡ answers_text (length from.entries) (record { command = p.command; entries = p.adds.entries; refused = p.adds.refused } ∷ parts)
said_on n from mid line first rest said parts p is behind =
    let es = p.adds.entries in
    let own = answer_text p.command (length from.entries) es p.adds.refused in
    let count = ap length p.adds.entries_are ∙ length-append from.entries es in
    is ∙ ap (λ (l : List ℕ). l ++ rest) p.says ∙ ap (λ (l : List ℕ). own ++ l) (behind ∙ ap (λ (k : ℕ). answers_text k parts) count)

play_on : (n : ℕ) (from mid : Progress) (line : List ℕ) (lines : List (List ℕ)) (said first rest : List ℕ) (z : Stage) → is_skipped line ≡ false
    → PlaysTo (n + 1) line from first mid → said ≡ first ++ rest → GoesOn (n + 1) mid lines rest z → GoesOn n from (line ∷ lines) said z
play_on n from mid line lines said first rest z kept p is on =
    let l : LineFields = record { number = n + 1; command = p.command } in
    let part : Part = record { command = p.command; entries = p.adds.entries; refused = p.adds.refused } in
    let behind = kept_lines (n + 1 + 1) lines in
    record {
      to = on.to;
      commands = l ∷ on.commands;
      parts = part ∷ on.parts;
      there = on.there;
      counted = on.counted ∙ omega arith;
      kept = kept_more (n + 1) line lines kept ∙ ap (λ (t : List ℕ). (n + 1, t) ∷ behind) p.text ∙ ap (λ (ks : List (ℕ × List ℕ)). line_text l ∷ ks) on.kept;
      within = All-cons IsLine l on.commands p.is_line on.within;
      runs = (Some mid, p.does, on.runs);
      said_is = said_on (n + 1) from mid line first rest said on.parts p is on.said_is;
      entries = on.entries ∙ ap (λ (es : List Entry). es ++ flat_map (λ (x : Part). x.entries) on.parts) p.adds.entries_are
          ∙ append_assoc from.entries p.adds.entries (flat_map (λ (x : Part). x.entries) on.parts);
      refused = on.refused ∙ ap (λ (rs : List RefusedLine). rs ++ flat_map (λ (x : Part). x.refused) on.parts) p.adds.refused_are
          ∙ append_assoc from.refused p.adds.refused (flat_map (λ (x : Part). x.refused) on.parts);
    }

-- the lines behind the cluster line
goes_on : (lines : List (List ℕ)) (n : ℕ) (from : Progress) (said : List ℕ) (z : Stage) → Answers Says (running n from) lines said z → GoesOn n from lines said z
goes_on [] n from said z a = none_on n from said z a.0 a.1
goes_on (line ∷ lines) n from said z a = elim a.3 [
  | inl s ↦
      let rest = goes_on lines (n + 1) from a.1 z (subst (λ (b : Stage). Answers Says b lines a.1 z) s.goes_on a.4) in
      skip_on n from line lines said a.0 a.1 z s.skipped s.silent a.5 rest
  | inr (inl g) ↦ absurd (none-some from (sym g.first))
  | inr (inr p) ↦
      let same = same_Some from p.from p.there in
      let rest = goes_on lines (n + 1) p.to a.1 z (subst (λ (b : Stage). Answers Says b lines a.1 z) p.goes_on a.4) in
      play_on n from p.to line lines said a.0 a.1 z p.kept (subst (λ (q : Progress). PlaysTo (n + 1) line q a.0 p.to) (sym same) p.plays) a.5 rest
]

-- the stage before the cluster line, behind so many lines
abbrev pub waiting : ℕ → Stage
waiting n = record { lines = n; run = None }

-- lines behind so many others, none of which is the cluster line, are a script that comes to this progress
record PlaysScript (n : ℕ) (lines : List (List ℕ)) (said : List ℕ) (to : Progress) : Type 0 where
  pub shape : ShapeFields
  pub commands : List LineFields
  pub parts : List Part
  pub script : Writes (kept_lines (n + 1) lines) (script_of shape commands)
  pub comes_to : RunsTo (first_progress shape) commands (Some to)
  pub said_is : said ≡ first_answer shape ++ answers_text 0 parts
  pub entries : to.entries ≡ flat_map (λ part. part.entries) parts
  pub refused : to.refused ≡ flat_map (λ part. part.refused) parts

abbrev PlaysFrom : ℕ → List (List ℕ) → List ℕ → Option Progress → Type 0
PlaysFrom n lines said None = (kept_lines (n + 1) lines ≡ []) × (said ≡ [])
PlaysFrom n lines said (Some to) = PlaysScript n lines said to

abbrev Starts : ℕ → List (List ℕ) → List ℕ → Stage → Type 0
Starts n lines said z = (z.lines ≡ n + length lines) × PlaysFrom n lines said z.run

skip_from : (n : ℕ) (line : List ℕ) (lines : List (List ℕ)) (said rest : List ℕ) (o : Option Progress) → is_skipped line ≡ true → said ≡ rest
    → PlaysFrom (n + 1) lines rest o → PlaysFrom n (line ∷ lines) said o
skip_from n line lines said rest None skipped same from = (kept_skip (n + 1) line lines skipped ∙ from.0, same ∙ from.1)
skip_from n line lines said rest (Some to) skipped same from = record {
  shape = from.shape;
  commands = from.commands;
  parts = from.parts;
  script = subst (λ (ks : List (ℕ × List ℕ)). Writes ks (script_of from.shape from.commands)) (sym (kept_skip (n + 1) line lines skipped)) from.script;
  comes_to = from.comes_to;
  said_is = same ∙ from.said_is;
  entries = from.entries;
  refused = from.refused;
}

begin_from : (n : ℕ) (line : List ℕ) (lines : List (List ℕ)) (said first rest : List ℕ) (b z : Stage) (g : Begins (waiting n) line first b) → said ≡ first ++ rest
    → (on : GoesOn (n + 1) (first_progress g.shape) lines rest z) → PlaysScript n (line ∷ lines) said on.to
begin_from n line lines said first rest b z g is on =
    let behind = kept_lines (n + 1 + 1) lines in
    record {
      shape = g.shape;
      commands = on.commands;
      parts = on.parts;
      script = record {
        cluster_line = n + 1;
        texts = kept_more (n + 1) line lines g.kept ∙ ap (λ (t : List ℕ). (n + 1, t) ∷ behind) g.text ∙ ap (λ (ks : List (ℕ × List ℕ)). (n + 1, shape_text g.shape) ∷ ks) on.kept;
        shape_in = g.within;
        lines_in = on.within;
      };
      comes_to = on.runs;
      said_is = is ∙ ap (λ (l : List ℕ). l ++ rest) g.says ∙ ap (λ (l : List ℕ). first_answer g.shape ++ l) on.said_is;
      entries = on.entries;
      refused = on.refused;
    }

-- the lines up to the cluster line, and those behind it
starts : (lines : List (List ℕ)) (n : ℕ) (said : List ℕ) (z : Stage) → Answers Says (waiting n) lines said z → Starts n lines said z
starts [] n said z a = subst (λ (s : Stage). Starts n [] said s) (sym a.1) (omega arith, (refl, a.0))
starts (line ∷ lines) n said z a = elim a.3 [
  | inl s ↦
      let rest = starts lines (n + 1) a.1 z (subst (λ (b : Stage). Answers Says b lines a.1 z) s.goes_on a.4) in
      (rest.0 ∙ omega arith, skip_from n line lines said a.1 z.run s.skipped (a.5 ∙ ap (λ (l : List ℕ). l ++ a.1) s.silent) rest.1)
  | inr (inl g) ↦
      let on = goes_on lines (n + 1) (first_progress g.shape) a.1 z (subst (λ (b : Stage). Answers Says b lines a.1 z) g.goes_on a.4) in
      (on.counted ∙ omega arith, subst (PlaysFrom n (line ∷ lines) said) (sym on.there) (begin_from n line lines said a.0 a.1 a.2 z g a.5 on))
  | inr (inr p) ↦ absurd (none-some p.from p.there)
]

played : (lines : List (List ℕ)) (said : List ℕ) (o : Option Progress) → PlaysFrom 0 lines said o → IsPlayed lines said o
played lines said None from = record { skipped = from.0; silent = from.1 }
played lines said (Some to) from = record {
  shape = from.shape;
  commands = from.commands;
  parts = from.parts;
  script = from.script;
  comes_to = from.comes_to;
  said_is = from.said_is;
  entries = sym from.entries;
  refused = sym from.refused;
  run = lines_lead (first_world from.shape) (first_progress from.shape) from.commands to refl from.comes_to;
}

-- the answers to lines, all together
pub answers_played : AnswersArePlayed
answers_played lines said z a =
    let s = starts lines 0 said z a in
    (s.0 ∙ omega arith, played lines said z.run s.1)
