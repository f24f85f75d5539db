-- A value that comes last in one of several lists.
use Rattle.std.proofs.Common.{◌≡◌, ℕ, ◌==◌, ◌&&◌, Bool, true, false, List, [], ◌∷◌, ◌++◌, Option, Some, refl, sym, ap, ◌∙◌, arith, cond, ◌+◌, ◌<◌, length, get_or, drop, drop-cons, add-one, append_assoc, ◌≢◌, None, MatchOption, Bor, eqb}
use Rattle.std.specs.Prelude.{if◌then◌else◌, ◌||◌, find, option_map, zero, suc, ◌+◌, ◌-◌, ◌<◌, ◌≤◌}
use Rattle.std.specs.Global.{Vec}
use Rattle.std.specs.Option.{option_map_or}
use Rattle.std.proofs.lemmas.List.{append-nil}
use Rattle.std.proofs.lemmas.Grind.{flat_map-append}
use Rattle.messages.specs.rule.Entries.{EntryFields}
use Rattle.lockscript.specs.declared.refused_line.RefusedLine.{RefusedLine}
use Rattle.lockscript.specs.declared.script_line.ScriptCommand.{ScriptCommand}
use Rattle.lockscript.specs.declared.script_line.ScriptCommand.TheVariants.{Call}
use Rattle.lockscript.specs.rule.Scripts.{LineFields}
use Rattle.player.specs.declared.answers.LineAnswer.{LineAnswer}
use Rattle.player.specs.rule.Expectations.{answer_behind, answers_behind, call_answer, is_taken, names, refusal_of, taken, begins, behind, expect, split_feed, words_of}
use Rattle.player.specs.code.Answers.{ByProcess, list_in, answer_by}
use Rattle.std.proofs.lemmas.Bool.{ne_eqb}
use Rattle.std.proofs.lemmas.Bool.Decides.{Decides-eqb}
use Rattle.std.proofs.lemmas.List.Sums.{sum_by-cons}
use Rattle.std.proofs.lemmas.Slice.Eq.{starts_is}
use Rattle.texts.specs.rule.LineFeeds.{line_feed, line_feeds, BeginsWithLine}

abbrev pub items : {T : Type 0} → Option (Vec T) → List T
items list = option_map_or (λ l. l.items) list []

-- where the list at a and b has one value more, and the others are as they were
pub put-last : {T : Type 0} (a b n p : ℕ) (f : ℕ × ℕ → Option (Vec T)) (g : Option (Vec T)) (list : Vec T) (v : T) → g ≡ cond ((a == n) && (b == p)) (Some list) (f (n, p)) → list.items ≡ items (f (a, b)) ++ v ∷ []
    → items g ≡ items (f (n, p)) ++ (if (a == n) && (b == p) then v ∷ [] else [])
put-last {T} a b n p f g list v is last = by ((a == n) && (b == p)) refl is
  where
    same : true ≡ ((a == n) && (b == p)) → f (a, b) ≡ f (n, p)
    same e = grind (arith, e)

    by : (t : Bool) → t ≡ ((a == n) && (b == p)) → g ≡ cond t (Some list) (f (n, p)) → items g ≡ items (f (n, p)) ++ (if t then v ∷ [] else [])
    by true e h = ap items h ∙ last ∙ ap (λ (o : Option (Vec T)). items o ++ v ∷ []) (same e)
    by false e h = ap items h ∙ sym (append-nil (items (f (n, p))))

-- what a list has from a place on
pub drop_at : {A : Type 0} (xs : List A) (k : ℕ) (x : A) → k < length xs → drop k xs ≡ get_or xs k x ∷ drop (k + 1) xs
drop_at {A} xs k x within = drop-cons xs k x within ∙ ap (λ (n : ℕ). get_or xs k x ∷ drop n xs) (sym (add-one k))

pub drop_here : {A : Type 0} (xs : List A) (k : ℕ) (x : A) → k < length xs → x ≡ get_or xs k x → drop k xs ≡ x ∷ drop (k + 1) xs
drop_here {A} xs k x within is = drop_at xs k x within ∙ ap (λ (y : A). y ∷ drop (k + 1) xs) (sym is)

-- the lines that were taken, of one line more
pub taken-next : (refused : List RefusedLine) (node pid : ℕ) (earlier more : List LineFields) (l : LineFields) (refusal : Option ℕ) (old new : List ℕ) → more ≡ earlier ++ l ∷ [] → refusal ≡ refusal_of refused l.number →
    old ≡ taken refused node pid earlier → new ≡ old ++ (if is_taken refusal node pid l.command then l.number ∷ [] else []) → new ≡ taken refused node pid more
taken-next refused node pid earlier more l refusal old new grown code known noted =
    let here : Option ℕ → List ℕ = λ r. if is_taken r node pid l.command then l.number ∷ [] else [] in
    noted
    ∙ ap (λ (r : Option ℕ). old ++ here r) code
    ∙ ap (λ (ns : List ℕ). ns ++ here (refusal_of refused l.number)) known
    ∙ sym (ap (taken refused node pid) grown
    ∙ flat_map-append (λ (m : LineFields). if is_taken (refusal_of refused m.number) node pid m.command then m.number ∷ [] else []) earlier (l ∷ [])
    ∙ ap (λ (ns : List ℕ). taken refused node pid earlier ++ ns) (append-nil (here (refusal_of refused l.number))))

-- the number of this refusal, or of the other one
code-of : (b : Bool) (l : RefusedLine) (other : Option RefusedLine) → cond b (Some l.code) (option_map (λ (r : RefusedLine). r.code) other) ≡ option_map (λ (r : RefusedLine). r.code) (if b then Some l else other)
code-of true l other = refl
code-of false l other = refl

-- one refused line more, before those
pub refusal-more : (l : RefusedLine) (rest : List RefusedLine) (number : ℕ) (known : Option ℕ) → known ≡ refusal_of rest number → cond (l.line == number) (Some l.code) known ≡ refusal_of (l ∷ rest) number
refusal-more l rest number known is =
    ap (λ (o : Option ℕ). cond (l.line == number) (Some l.code) o) is
    ∙ code-of (l.line == number) l (find (λ (r : RefusedLine). r.line == number) rest)

-- what a line comes to
pub answer-here : (refused : List RefusedLine) (refusal : Option ℕ) (index : ByProcess ℕ) (earlier : List LineFields) (number : ℕ) (c : ScriptCommand) (entries : List EntryFields) →
    refusal ≡ refusal_of refused number → ((node pid : ℕ) → list_in index node pid ≡ taken refused node pid earlier) → answer_by refusal index entries c ≡ answer_behind earlier number c refused entries
answer-here refused refusal index earlier number (Call n p op) entries code known =
    ap (λ (r : Option ℕ). call_answer r (length (list_in index n p)) (names n p entries) entries) code
    ∙ ap (λ (ns : List ℕ). call_answer (refusal_of refused number) (length ns) (names n p entries) entries) (known n p)
answer-here refused refusal index earlier number _ entries code known = refl

-- one line more
pub answers-next : (earlier more : List LineFields) (l : LineFields) (rest : List LineFields) (refused : List RefusedLine) (entries : List EntryFields) (answers new : List LineAnswer) (a : LineAnswer) (all : List LineAnswer) →
    new ≡ answers ++ a ∷ [] → a ≡ answer_behind earlier l.number l.command refused entries → more ≡ earlier ++ l ∷ [] →
    answers ++ answers_behind earlier (l ∷ rest) refused entries ≡ all → new ++ answers_behind more rest refused entries ≡ all
answers-next earlier more l rest refused entries answers new a all is here on before =
    let after = answers_behind (earlier ++ l ∷ []) rest refused entries in
    ap (λ (ls : List LineFields). new ++ answers_behind ls rest refused entries) on
    ∙ ap (λ (xs : List LineAnswer). xs ++ after) is
    ∙ append_assoc answers (a ∷ []) after
    ∙ ap (λ (b : LineAnswer). answers ++ b ∷ after) here
    ∙ before

-- one of three, however they are grouped
pub or-over : (a b c : Bool) → ((a || b) || c) ≡ (a || (b || c))
or-over true b c = refl
or-over false b c = refl

rest-feedless : (b : ℕ) (bs : List ℕ) → line_feeds (b ∷ bs) ≡ 0 → (b ≢ line_feed) × (line_feeds bs ≡ 0)
rest-feedless b bs none =
    let parts = sum_by-cons (λ b. cond (eqb b line_feed) 1 0) b bs in
    ((λ e. absurd (grind (arith, none, e, parts))), omega (arith, none, parts))

-- without a line feed there is no whole line
split-none : (bs : List ℕ) → line_feeds bs ≡ 0 → split_feed bs ≡ None
split-none [] none = refl
split-none (b ∷ bs) none =
    let rest = rest-feedless b bs none in
    let other : (b == line_feed) ≡ false = ne_eqb b line_feed rest.0 in
    ap (λ (t : Bool). if t then Some ([], bs) else option_map (λ (p : List ℕ × List ℕ). (b ∷ p.0, p.1)) (split_feed bs)) other
    ∙ ap (option_map (λ (p : List ℕ × List ℕ). (b ∷ p.0, p.1))) (split-none bs rest.1)

split-parts : (line rest : List ℕ) → line_feeds line ≡ 0 → split_feed (line ++ line_feed ∷ rest) ≡ Some (line, rest)
split-parts [] rest none = refl
split-parts (b ∷ line) rest none =
    let more = rest-feedless b line none in
    let other : (b == line_feed) ≡ false = ne_eqb b line_feed more.0 in
    ap (λ (t : Bool). if t then Some ([], line ++ line_feed ∷ rest) else option_map (λ (p : List ℕ × List ℕ). (b ∷ p.0, p.1)) (split_feed (line ++ line_feed ∷ rest))) other
    ∙ ap (option_map (λ (p : List ℕ × List ℕ). (b ∷ p.0, p.1))) (split-parts line rest more.1)

pub split-told : (bs : List ℕ) (r : Option (Bor (List ℕ) × Bor (List ℕ))) → MatchOption r (line_feeds bs ≡ 0) (λ x. BeginsWithLine bs x.0.now x.1.now)
    → MatchOption r (split_feed bs ≡ None) (λ x. split_feed bs ≡ Some (x.0.now, x.1.now))
split-told bs None none = split-none bs none
split-told bs (Some x) line = ap split_feed line.parts ∙ split-parts x.0.now x.1.now line.one_line

begun : (line : List ℕ) → begins expect line ≡ true → line ≡ expect ++ drop (length expect) line
begun line is = (starts_is Decides-eqb line expect (begins expect line) refl).0 is

words-none : (line : List ℕ) → ((rest : List ℕ) → line ≢ expect ++ rest) → (b : Bool) → begins expect line ≡ b → (if b then Some (drop (length expect) line) else None) ≡ None
words-none line none true is = absurd (none (drop (length expect) line) (begun line is))
words-none line none false is = refl

-- the words behind the front of a line that says what is expected
pub words-told : (line : List ℕ) (r : Option (Bor (List ℕ))) → MatchOption r ((rest : List ℕ) → line ≢ expect ++ rest) (λ rest. line ≡ expect ++ rest.now) → option_map (λ (w : Bor (List ℕ)). w.now) r ≡ words_of line
words-told line None none = sym (words-none line none (begins expect line) refl)
words-told line (Some rest) is = sym (ap words_of is)

behind-nothing : (n : ℕ) → behind n None ≡ None
behind-nothing zero = refl
behind-nothing (suc n) = refl

-- behind the last line feed stands no more of them
pub behind-none : (n : ℕ) (text : List ℕ) → 0 < n → split_feed text ≡ None → behind n (Some text) ≡ None
behind-none zero text more none = absurd (omega (arith, more))
behind-none (suc n) text more none = ap (λ (o : Option (List ℕ × List ℕ)). behind n (option_map (λ (p : List ℕ × List ℕ). p.1) o)) none ∙ behind-nothing n

behind-more : (a b : ℕ) (o : Option (List ℕ)) → behind (a + b) o ≡ behind b (behind a o)
behind-more zero b o = ap (λ (n : ℕ). behind n o) (let e : zero + b ≡ b = omega arith in e)
behind-more (suc a) b None = behind-nothing (suc a + b) ∙ sym (behind-nothing b)
behind-more (suc a) b (Some text) =
    ap (λ (n : ℕ). behind n (Some text)) (let e : suc a + b ≡ suc (a + b) = omega arith in e)
    ∙ behind-more a b (option_map (λ (p : List ℕ × List ℕ). p.1) (split_feed text))

-- from what stands behind some lines on, those that are left are passed
pub behind-on : (passed count : ℕ) (text rest : List ℕ) → behind passed (Some text) ≡ Some rest → passed ≤ count → behind (count - passed) (Some rest) ≡ behind count (Some text)
behind-on passed count text rest is within =
    ap (behind (count - passed)) (sym is)
    ∙ sym (behind-more passed (count - passed) (Some text))
    ∙ ap (λ (n : ℕ). behind n (Some text)) (let e : passed + (count - passed) ≡ count = omega (arith, within) in e)
